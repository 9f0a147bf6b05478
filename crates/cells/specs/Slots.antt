-- The steps where the waiting candidates stand in slots, in heap order: by what the priority list's functions say,
-- for every order in which a heavier candidate outranks a lighter one
use Rattle.std.specs.Prelude.{◌≡◌, ℕ, suc, ◌+◌, ◌-◌, ◌<◌, ◌≤◌, Bool, false, List, ◌∷◌, length, take}
use Rattle.weight.specs.Worth.{Worth}
use Rattle.arborescence.specs.Heads.{TreeOver, worth_from}
use Rattle.queue.specs.Heap.{Ordered}
use Rattle.queue.specs.Calls.{Pushed, Popped, Dropped}
use Rattle.cells.specs.Accounts.{Cell, heavier, BestOfSubCell, Next, Accounted}

module _ (n : ℕ) (Tree : List ℕ → Type 0) (value : List ℕ → Worth) {X : Type 0} (view : X → Cell) (above : X → X → Bool) (limit : ℕ) where
  -- xs are the slots before, of which len are used, and ys the slots after
  pub record SlotSteps : Type 0 where
    pub pushed :
        (ts : List (List ℕ)) (u : Cell) (p : ℕ) (xs ys : List X) (len m : ℕ) (x : X) → p ≤ n → BestOfSubCell n Tree value u p (view x) →
        Pushed above xs len x ys m →
        Accounted n Tree value view limit ts u p (take len xs) → Accounted n Tree value view limit ts u (suc p) (take m ys)
    pub dropped :
        (ts : List (List ℕ)) (u : Cell) (p : ℕ) (xs ys : List X) (len : ℕ) (x y : X) → p ≤ n → limit ≤ length ts + len → BestOfSubCell n Tree value u p (view x) →
        Dropped above xs len x ys y →
        Accounted n Tree value view limit ts u p (take len xs) → Accounted n Tree value view limit ts u (suc p) (take len ys)
    pub popped :
        (ts : List (List ℕ)) (u : Cell) (xs ys : List X) (len : ℕ) (x : X) → length ts < limit →
        Popped above xs len ys x → Ordered above (take len xs) →
        Accounted n Tree value view limit ts u (suc n) (take len xs) →
        Accounted n Tree value view limit ((view x).heads ∷ ts) (view x) (view x).from (take (len - 1) ys) × Next n Tree value ts (view x).heads (view x).worth

abbrev pub AllSlotSteps : Type 0
AllSlotSteps =
    (n limit : ℕ) (stands : ℕ → ℕ → Bool) (worth : ℕ → ℕ → Worth) (above : Cell → Cell → Bool) → ((a b : Cell) → above a b ≡ false → heavier a b ≡ false) →
    SlotSteps n (TreeOver n stands) (worth_from worth 1) {X = Cell} (λ c. c) above limit
