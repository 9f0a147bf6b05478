-- No two candidates that wait have the same heads, since no tree lies in two waiting cells.
use Rattle.std.proofs.Common.{◌≡◌, ℕ, true, List, [], ◌∷◌, length, take, count_by, subst, arith}
use Rattle.std.specs.List.{AllByRecursion}
use Rattle.cells.proofs.Accounting.{own}
use Rattle.cells.specs.Accounts.{Cell, holds, BestOfCell, Accounted}
use Rattle.queue.proofs.Counting.{as_many, count_cons}
use Rattle.ranking.specs.Trees.{TreeOf, tree_worth}
use Rattle.sheet.specs.Arcs.{Arcs}
use Rattle.sheet.specs.Candidates.{cell}
use Rattle.sheet.specs.declared.Candidate.{Candidate}
use Rattle.weight.specs.Worth.{Worth}

module _ {K : Type 0} (worth : K → Worth) (n : ℕ) (arcs : Arcs K) (sized : (t : List ℕ) → TreeOf n arcs t → length t ≡ n) where
  abbrev Best : Candidate K → Type 0
  Best c = BestOfCell n (TreeOf n arcs) (tree_worth worth arcs) (cell worth n c)

  in_own : (c : Candidate K) → Best c → holds (take n c.heads) (cell worth n c) ≡ true
  in_own c b = own n (TreeOf n arcs) (tree_worth worth arcs) (cell worth n) 50 sized (cell worth n c) b

  apart : (x : Candidate K) (cs : List (Candidate K)) → AllByRecursion Best cs → count_by (λ c. holds (take n x.heads) (cell worth n c)) cs ≡ 0 → AllByRecursion (λ c. c.heads ≡ x.heads → ⊥) cs
  apart x [] best none = tt
  apart x (c ∷ cs) best none =
      let e = count_cons (λ c. holds (take n x.heads) (cell worth n c)) c cs in (
        λ same.
            let y = as_many (holds (take n x.heads) (cell worth n c)) true (subst (λ (hs : List ℕ). holds (take n hs) (cell worth n c) ≡ true) same (in_own c best.0)) in
            omega (arith, e, none, y),
        apart x cs best.1 (omega (arith, e, none)),
      )

  pub alone : (ts : List (List ℕ)) (u : Cell) (p : ℕ) (x : Candidate K) (cs : List (Candidate K)) → Accounted n (TreeOf n arcs) (tree_worth worth arcs) (cell worth n) 50 ts u p (x ∷ cs) → AllByRecursion (λ c. c.heads ≡ x.heads → ⊥) cs
  alone ts u p x cs a =
      let e = count_cons (λ c. holds (take n x.heads) (cell worth n c)) x cs in
      let once = a.once (take n x.heads) a.waiting.0.tree in
      let y = as_many (holds (take n x.heads) (cell worth n x)) true (in_own x a.waiting.0) in
      apart x cs a.waiting.1 (omega (arith, e, once, y))
