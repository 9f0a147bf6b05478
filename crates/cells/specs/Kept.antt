-- The arcs that a search for a sub-cell may take
use Rattle.std.specs.Prelude.{◌≡◌, ℕ, Bool, cond, not, ◌&&◌, List, ◌==◌, nat_lt}
use Rattle.weight.specs.Worth.{Worth, AtMost}
use Rattle.tree.specs.Chains.{Word, head_of}
use Rattle.arborescence.specs.Heads.{TreeOver, worth_from}
use Rattle.cells.specs.Cells.{InCell, bans_at}
use Rattle.cells.specs.Accounts.{Cell, BestOfSubCell}

-- before p only the arcs of `heads`, at p none that is banned
abbrev pub kept_arcs : (ℕ → ℕ → Bool) → List ℕ → ℕ → (ℕ → Bool) → ℕ → ℕ → Bool
kept_arcs stands heads p banned h d = stands h d && cond (nat_lt d p) (h == head_of heads d) (not (d == p && banned h))

-- the trees of these arcs are the trees of the cell
abbrev pub KeptTrees : Type 0
KeptTrees =
    (n : ℕ) (stands : ℕ → ℕ → Bool) (heads : List ℕ) (p : ℕ) (banned : ℕ → Bool) (t : List ℕ) → Word n p →
    (TreeOver n (kept_arcs stands heads p banned) t → TreeOver n stands t × InCell heads p banned t)
    × (TreeOver n stands t → InCell heads p banned t → TreeOver n (kept_arcs stands heads p banned) t)

-- so the best tree of these arcs is the best of the sub-cell, and none of these arcs is none of the sub-cell
abbrev pub SubSearched : Type 0
SubSearched =
    (n : ℕ) (stands : ℕ → ℕ → Bool) (worth : ℕ → ℕ → Worth) (u : Cell) (p : ℕ) (c : Cell) → Word n p → c.from ≡ p →
    ((h : ℕ) → c.banned h ≡ bans_at u.heads u.from u.banned p h) →
    TreeOver n (kept_arcs stands u.heads p c.banned) c.heads → c.worth ≡ worth_from worth 1 c.heads →
    ((t : List ℕ) → TreeOver n (kept_arcs stands u.heads p c.banned) t → AtMost (worth_from worth 1 t) c.worth) →
    BestOfSubCell n (TreeOver n stands) (worth_from worth 1) u p c
