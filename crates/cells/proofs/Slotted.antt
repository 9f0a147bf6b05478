-- The steps over slots.
use Rattle.std.proofs.Common.{◌≡◌, ℕ, suc, ◌+◌, ◌-◌, Bool, false, List, ◌∷◌, length, take, sym, subst, arith}
use Rattle.std.proofs.lemmas.List.{length-take-le}
use Rattle.std.proofs.lemmas.List.Sorted.{length_permutation}
use Rattle.std.proofs.ByRecursion.{All-weaker, all_shuffled}
use Rattle.weight.specs.Worth.{Worth}
use Rattle.arborescence.specs.Heads.{TreeOver, worth_from}
use Rattle.cells.specs.Accounts.{Cell, heavier, Accounted}
use Rattle.cells.specs.Steps.{Steps}
use Rattle.cells.specs.Slots.{SlotSteps, AllSlotSteps}
use Rattle.cells.proofs.Accounting.{steps}

module _ (n : ℕ) (Tree : List ℕ → Type 0) (value : List ℕ → Worth) {X : Type 0} (view : X → Cell) (above : X → X → Bool) (finer : (a b : X) → above a b ≡ false → heavier (view a) (view b) ≡ false) (limit : ℕ) (sized : (t : List ℕ) → Tree t → length t ≡ n) where
  abbrev by_steps : Steps n Tree value view limit
  by_steps = steps n Tree value view limit sized

  pub slot_steps : SlotSteps n Tree value view above limit
  slot_steps = record {
    pushed = λ ts u p xs ys len m x le b q k.
        subst (λ (v : ℕ). Accounted n Tree value view limit ts u (suc p) (take v ys)) (sym q.more)
        (by_steps.shuffle ts u (suc p) (x ∷ take len xs) (take (len + 1) ys) q.same (by_steps.push ts u p (take len xs) x le b k));
    dropped = λ ts u p xs ys len x y le room b q k.
        let l = length_permutation (x ∷ take len xs) (y ∷ take len ys) q.same in
        let e = length-take-le len xs q.within in
        by_steps.drop_least ts u (suc p) (take len ys) y (omega arith)
        (All-weaker (λ c. above y c ≡ false) (λ c. heavier (view y) (view c) ≡ false) (finer y) (take len ys) (all_shuffled (λ c. above y c ≡ false) (x ∷ take len xs) (y ∷ take len ys) q.same q.least).1)
        (by_steps.shuffle ts u (suc p) (x ∷ take len xs) (y ∷ take len ys) q.same (by_steps.push ts u p (take len xs) x le b k));
    popped = λ ts u xs ys len x lt q o k.
        by_steps.take_greatest ts u (take (len - 1) ys) x lt
        (All-weaker (λ c. above c x ≡ false) (λ c. heavier (view c) (view x) ≡ false) (λ c. finer c x) (take (len - 1) ys) (all_shuffled (λ c. above c x ≡ false) (take len xs) (x ∷ take (len - 1) ys) q.same (q.greatest o)).1)
        (by_steps.shuffle ts u (suc n) (take len xs) (x ∷ take (len - 1) ys) q.same k);
  }

pub all_slot_steps : AllSlotSteps
all_slot_steps n limit stands worth above finer = slot_steps n (TreeOver n stands) (worth_from worth 1) (λ c. c) above finer limit (λ t is. is.shape.shape.sized)
