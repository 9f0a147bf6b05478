-- The steps of a ranking, and what they keep
use Rattle.std.specs.Prelude.{◌≡◌, ℕ, suc, ◌+◌, ◌<◌, ◌≤◌, Bool, false, List, [], ◌∷◌, length}
use Rattle.std.specs.List.Sorted.{IsPermutation}
use Rattle.weight.specs.Worth.{Worth}
use Rattle.arborescence.specs.Heads.{TreeOver, worth_from}
use Rattle.queue.specs.Heap.{Greatest, Least}
use Rattle.cells.specs.Cells.{InCell, bans_at}
use Rattle.cells.specs.Accounts.{Cell, Among, heavier, BestOfCell, BestOfSubCell, Next, Accounted}

module _ (n : ℕ) (Tree : List ℕ → Type 0) (value : List ℕ → Worth) {X : Type 0} (view : X → Cell) (limit : ℕ) where
  pub record Steps : Type 0 where
    -- the best tree of the whole sheet is taken first
    pub start :
        (u : Cell) → BestOfCell n Tree value u → u.from ≡ 1 → ((h : ℕ) → u.banned h ≡ false) →
        Accounted n Tree value view limit (u.heads ∷ []) u 1 [] × Next n Tree value [] u.heads u.worth
    -- the best tree of the sub-cell at p comes to the waiting ones
    pub push :
        (ts : List (List ℕ)) (u : Cell) (p : ℕ) (cs : List X) (x : X) → p ≤ n → BestOfSubCell n Tree value u p (view x) →
        Accounted n Tree value view limit ts u p cs → Accounted n Tree value view limit ts u (suc p) (x ∷ cs)
    -- or the sub-cell at p has no tree
    pub pass :
        (ts : List (List ℕ)) (u : Cell) (p : ℕ) (cs : List X) → p ≤ n →
        ((t : List ℕ) → Tree t → InCell u.heads p (bans_at u.heads u.from u.banned p) t → ⊥) →
        Accounted n Tree value view limit ts u p cs → Accounted n Tree value view limit ts u (suc p) cs
    -- one that is not heavier than any is dropped, where enough are left
    pub drop_least :
        (ts : List (List ℕ)) (u : Cell) (p : ℕ) (cs : List X) (y : X) → limit ≤ length ts + length cs → Least (λ a b. heavier (view a) (view b)) y cs →
        Accounted n Tree value view limit ts u p (y ∷ cs) → Accounted n Tree value view limit ts u p cs
    -- all is split: one that none outweighs is taken
    pub take_greatest :
        (ts : List (List ℕ)) (u : Cell) (cs : List X) (x : X) → length ts < limit → Greatest (λ a b. heavier (view a) (view b)) x cs →
        Accounted n Tree value view limit ts u (suc n) (x ∷ cs) →
        Accounted n Tree value view limit ((view x).heads ∷ ts) (view x) (view x).from cs × Next n Tree value ts (view x).heads (view x).worth
    -- all is split and none waits: every tree is taken
    pub no_more : (ts : List (List ℕ)) (u : Cell) → length ts < limit → Accounted n Tree value view limit ts u (suc n) [] → (t : List ℕ) → Tree t → Among t ts
    -- the order of the waiting ones does not matter
    pub shuffle : (ts : List (List ℕ)) (u : Cell) (p : ℕ) (cs ds : List X) → IsPermutation cs ds → Accounted n Tree value view limit ts u p cs → Accounted n Tree value view limit ts u p ds

-- for the trees with one word on the root, of the arcs that stand, each worth the sum of its arcs
abbrev pub AllSteps : Type 0
AllSteps =
    (n limit : ℕ) (stands : ℕ → ℕ → Bool) (worth : ℕ → ℕ → Worth) →
    Steps n (TreeOver n stands) (worth_from worth 1) {X = Cell} (λ c. c) limit
