-- What a ranking keeps true between its steps
use Rattle.std.specs.Prelude.{◌≡◌, ℕ, suc, ◌+◌, ◌≤◌, Bool, true, false, cond, not, ◌⊎◌, List, [], ◌∷◌, length, count_by}
use Rattle.std.specs.List.{AllByRecursion}
use Rattle.std.specs.Str.{bytes_eq}
use Rattle.weight.specs.Worth.{Worth, at_most, AtMost}
use Rattle.tree.specs.Chains.{Word, head_of}
use Rattle.cells.specs.Cells.{InCell, in_cell, pending, bans_at}

-- the heads of a tree, what it is worth, and the cell that it is the best tree of
pub record Cell : Type 0 where
  pub heads : List ℕ
  pub worth : Worth
  pub from : ℕ
  pub banned : ℕ → Bool

abbrev pub Among : List ℕ → List (List ℕ) → Type 0
Among t [] = ⊥
Among t (x ∷ xs) = (t ≡ x) ⊎ Among t xs

-- how often t was taken
abbrev pub times : List ℕ → List (List ℕ) → ℕ
times t ts = count_by (bytes_eq t) ts

abbrev pub holds : List ℕ → Cell → Bool
holds t c = in_cell c.heads c.from c.banned t

-- x is heavier than y
abbrev pub heavier : Cell → Cell → Bool
heavier x y = not (at_most x.worth y.worth)

module _ (n : ℕ) (Tree : List ℕ → Type 0) (value : List ℕ → Worth) where
  -- the candidate's tree lies in its cell, and no tree there is worth more
  pub record BestOfCell (c : Cell) : Type 0 where
    pub place : Word n c.from
    pub tree : Tree c.heads
    pub free : c.banned (head_of c.heads c.from) ≡ false
    pub exact : c.worth ≡ value c.heads
    pub best : (t : List ℕ) → Tree t → holds t c ≡ true → AtMost (value t) c.worth

  -- c is the best tree of the sub-cell of u at p
  pub record BestOfSubCell (u : Cell) (p : ℕ) (c : Cell) : Type 0 where
    pub from : c.from ≡ p
    pub bans : (h : ℕ) → c.banned h ≡ bans_at u.heads u.from u.banned p h
    pub tree : Tree c.heads
    pub inside : InCell u.heads p (bans_at u.heads u.from u.banned p) c.heads
    pub exact : c.worth ≡ value c.heads
    pub best : (t : List ℕ) → Tree t → InCell u.heads p (bans_at u.heads u.from u.banned p) t → AtMost (value t) c.worth

  -- what the law says of the next tree that is handed out
  pub record Next (ts : List (List ℕ)) (heads : List ℕ) (worth : Worth) : Type 0 where
    pub tree : Tree heads
    pub untaken : Among heads ts → ⊥
    pub exact : worth ≡ value heads
    pub best : (t : List ℕ) → Tree t → (Among t ts → ⊥) → AtMost (value t) worth

  module _ {X : Type 0} (view : X → Cell) where
    -- in how many places a tree stands: among the taken ones, in the part of the current cell that is not split yet, in a waiting cell
    abbrev pub homes : List (List ℕ) → Cell → ℕ → List X → List ℕ → ℕ
    homes ts u p cs t = times t ts + (cond (pending n u.heads u.from u.banned p t) 1 0 + count_by (λ c. holds t (view c)) cs)

    -- how many waiting candidates are not lighter than a tree
    abbrev pub over : List X → List ℕ → ℕ
    over cs t = count_by (λ c. at_most (value t) (view c).worth) cs

    -- ts were taken, u last; its sub-cells before p have been split off; cs wait; no more than `limit` trees will be taken
    pub record Accounted (limit : ℕ) (ts : List (List ℕ)) (u : Cell) (p : ℕ) (cs : List X) : Type 0 where
      pub tree : Tree u.heads
      pub free : u.banned (head_of u.heads u.from) ≡ false
      pub some : 1 ≤ u.from
      pub low : u.from ≤ p
      pub high : p ≤ suc n
      pub waiting : AllByRecursion (λ c. BestOfCell (view c)) cs
      pub once : (t : List ℕ) → Tree t → homes ts u p cs t ≤ 1
      pub found : (t : List ℕ) → Tree t → (1 ≤ homes ts u p cs t) ⊎ (limit ≤ length ts + over cs t)
