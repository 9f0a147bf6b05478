-- What a ranking keeps true, in words and without counts of cells
use Rattle.std.specs.Prelude.{◌≡◌, ℕ, ◌+◌, ◌<◌, ◌≤◌, Bool, true, false, ◌⊎◌, List, length, ◌≢◌, slice_index_or}
use Rattle.std.specs.List.{AllByRecursion}
use Rattle.weight.specs.Worth.{Worth}
use Rattle.arborescence.specs.Heads.{TreeOver, worth_from}
use Rattle.cells.specs.Cells.{pending}
use Rattle.cells.specs.Accounts.{Cell, Among, holds, over, Accounted}

-- each two of a list, at different places
abbrev pub EachTwo : {X : Type 0} → (X → X → Type 0) → List X → Type 0
EachTwo {X} R xs = (i j : ℕ) (d : X) → (i ≢ j) → i < length xs → j < length xs → R (slice_index_or xs i d) (slice_index_or xs j d)

module _ (n : ℕ) (Tree : List ℕ → Type 0) (value : List ℕ → Worth) {X : Type 0} (view : X → Cell) (limit : ℕ) where
  pub record InWords (ts : List (List ℕ)) (u : Cell) (p : ℕ) (cs : List X) : Type 0 where
    -- no tree lies in two waiting cells
    pub apart : (t : List ℕ) → Tree t → EachTwo (λ a b. holds t (view a) ≡ true → holds t (view b) ≢ true) cs
    -- no taken tree lies in a waiting cell, or in what is left of the current one
    pub untaken : (t : List ℕ) → Tree t → Among t ts → AllByRecursion (λ c. holds t (view c) ≡ false) cs × (pending n u.heads u.from u.banned p t ≡ false)
    -- nor does one lie in both
    pub aside : (t : List ℕ) → Tree t → pending n u.heads u.from u.banned p t ≡ true → AllByRecursion (λ c. holds t (view c) ≡ false) cs
    -- every tree is taken, or lies in what is left of the current cell, or in a waiting cell, or enough waiting ones are not lighter
    pub found :
        (t : List ℕ) → Tree t →
        Among t ts ⊎ ((pending n u.heads u.from u.banned p t ≡ true) ⊎ ((AllByRecursion (λ c. holds t (view c) ≡ false) cs → ⊥) ⊎ (limit ≤ length ts + over n Tree value view cs t)))

abbrev pub Worded : Type 0
Worded =
    (n limit : ℕ) (stands : ℕ → ℕ → Bool) (worth : ℕ → ℕ → Worth) (ts : List (List ℕ)) (u : Cell) (p : ℕ) (cs : List Cell) →
    Accounted n (TreeOver n stands) (worth_from worth 1) (λ c. c) limit ts u p cs → InWords n (TreeOver n stands) (worth_from worth 1) (λ c. c) limit ts u p cs
