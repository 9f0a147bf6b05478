-- What came out of the waiting list, by weights.
use Rattle.std.proofs.Common.{◌≡◌, ltb, List, length, take, subst, arith, ltb-false}
use Rattle.std.specs.List.Sorted.{IsPermutation}
use Rattle.std.proofs.lemmas.List.{take_all}
use Rattle.queue.specs.Runs.{Falls, CameOut}
use Rattle.queue_test.specs.declared.Candidate.{Candidate}
use Rattle.queue_test.specs.Weights.{HeaviestFirst}

module _ (given slots out slots' out' : List Candidate) (long : length out' ≡ length given) (h : CameOut (λ x y. ltb y.weight x.weight) given slots out slots' out') where
  whole : take (length given) out' ≡ out'
  whole = take_all (length given) out' (omega arith)

  pub same_ones : IsPermutation given out'
  same_ones = subst (IsPermutation given) whole h.same

  pub heaviest_first : HeaviestFirst out'
  heaviest_first i j d le lt = let f : Falls (λ x y. ltb y.weight x.weight) out' = subst (Falls (λ x y. ltb y.weight x.weight)) whole h.falls in ltb-false _ _ (f i j d le lt)
