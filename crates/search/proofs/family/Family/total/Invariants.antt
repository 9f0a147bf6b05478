use Rattle.std.proofs.Common.{◌≡◌, suc, ◌-◌, ◌&&◌}
use Rattle.weight.specs.Worth.{zeros, plus}
use Rattle.arborescence.specs.Sum.{sum_if}
use Rattle.arborescence.specs.Search.{leads}
use Rattle.word_set.specs.Bits.{in_set}
use Rattle.weight.specs.Layers.{root_worth}
use Rattle.search.specs.Family.{rep_of, best_of}
use Rattle.search.specs.State.{base_in, sets_in}
use Rattle.search.proofs.family.Family.total.Given as goal

abbrev pub invariant-loop-word : goal.invariant-loop-word
invariant-loop-word g l = root_worth g.K.Kind.worth l.sum ≡ plus (zeros (suc g.K.Kind.places)) (sum_if (λ ℓ. leads (rep_of (sets_in g.K.Kind.worth l.self)) ℓ && in_set l.members ℓ) (best_of (base_in g.K.Kind.worth l.self) (sets_in g.K.Kind.worth l.self)) (l.word - 1))
