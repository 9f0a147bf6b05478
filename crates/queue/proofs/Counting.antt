-- Counts by a test: step by step, and of shuffled lists, which count alike.
use Rattle.std.proofs.Common.{◌≡◌, ℕ, ◌+◌, Bool, true, false, cond, List, [], ◌∷◌, length, count_by, sym, refl, ap, ◌∙◌, arith}
use Rattle.std.specs.List.{AllByRecursion}
use Rattle.std.specs.List.Sorted.{IsPermutation}
use Rattle.std.proofs.lemmas.List.Sorted.{sum_by-IsPermutation}
use Rattle.std.proofs.lemmas.List.Sums.{sum_by-cons}
use Rattle.queue.specs.Counts.{CountsWith, CountsFor}

-- one element counts by its answer alone
pub as_many : (a b : Bool) → a ≡ b → ◌≡◌ {A = ℕ} (cond a 1 0) (cond b 1 0)
as_many a b e = ap (λ (x : Bool). cond {A = ℕ} x 1 0) e

module _ {X : Type 0} (p : X → Bool) where
  pub count_cons : (x : X) (xs : List X) → count_by p (x ∷ xs) ≡ cond (p x) 1 0 + count_by p xs
  count_cons = sum_by-cons (λ y. cond (p y) 1 0)

  pub count_all : (xs : List X) → AllByRecursion (λ x. p x ≡ true) xs → count_by p xs ≡ length xs
  count_all [] h = refl
  count_all (x ∷ xs) h = omega (arith, count_cons x xs, as_many (p x) true h.0, count_all xs h.1)

  pub count_none : (xs : List X) → AllByRecursion (λ x. p x ≡ false) xs → count_by p xs ≡ 0
  count_none [] h = refl
  count_none (x ∷ xs) h = omega (arith, count_cons x xs, as_many (p x) false h.0, count_none xs h.1)

  pub count_shuffled : (xs ys : List X) → IsPermutation xs ys → count_by p ys ≡ count_by p xs
  count_shuffled = sum_by-IsPermutation (λ y. cond (p y) 1 0)

module _ {X : Type 0} where
  pub counts_with : (x : X) (xs ys : List X) → IsPermutation (x ∷ xs) ys → CountsWith x xs ys
  counts_with x xs ys s p = count_shuffled p (x ∷ xs) ys s ∙ count_cons p x xs

  pub counts_for : (x : X) (xs : List X) (y : X) (ys : List X) → IsPermutation (x ∷ xs) (y ∷ ys) → CountsFor x xs y ys
  counts_for x xs y ys s p = sym (count_cons p y ys) ∙ counts_with x xs (y ∷ ys) s p
