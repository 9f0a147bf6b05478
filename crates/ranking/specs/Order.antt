-- In which order the trees of a ranking come. The search settles which tree it finds in a cell, and each taken tree's cell offers
-- what the search finds in its sub-cells. Of all that was offered the heaviest tree comes next, of equals the one whose heads come
-- first in dictionary order.
use Rattle.std.specs.Prelude.{◌≡◌, ℕ, suc, ◌+◌, ◌-◌, ◌<◌, ◌≤◌, true, Bool, ◌⊎◌, List, [], ◌∷◌, map, length, take, drop, replicate, count_by}
use Rattle.std.specs.List.{AllByRecursion, Contains}
use Rattle.arborescence.specs.Heads.{TreeOver, worth_from}
use Rattle.cells.specs.Cells.{InCell, bans_at}
use Rattle.cells.specs.Kept.{kept_arcs}
use Rattle.ranking.specs.Trees.{stands, arc_worth}
use Rattle.search.specs.Choice.{Finds}
use Rattle.sheet.specs.Arcs.{Arcs}
use Rattle.sheet.specs.Candidates.{Row, precedes}
use Rattle.weight.specs.Worth.{Worth, AtMost}
use Rattle.word_set.specs.Bits.{in_set}

-- where us were handed out and ws wait: r is one of these, or would come behind the fiftieth tree
abbrev pub NotLost : (us ws : List Row) → Row → Type 0
NotLost us ws r = Contains us r ⊎ (Contains ws r ⊎ (50 ≤ length us + count_by (λ w. precedes w r) ws))

-- of n words, over the arcs that stand and what they are worth
module _ (n : ℕ) (up : ℕ → ℕ → Bool) (value : ℕ → ℕ → Worth) where
  -- of the trees with the held heads, and at the next word none of the barred heads, this row has the one that the search finds, which is a
  -- heaviest; behind its n heads the bytes are 0
  pub record BestHeld (held : List ℕ) (barred : ℕ) (r : Row) : Type 0 where
    pub from : r.from ≡ length held + 1
    pub banned : r.banned ≡ barred
    pub tree : TreeOver n up (take n r.heads)
    pub inside : InCell held (length held + 1) (in_set barred) (take n r.heads)
    pub weighs : r.worth ≡ worth_from value 1 (take n r.heads)
    pub best : (t : List ℕ) → TreeOver n up t → InCell held (length held + 1) (in_set barred) t → AtMost (worth_from value 1 t) r.worth
    pub found : Finds n (kept_arcs up held (length held + 1) (in_set barred)) value (take n r.heads)
    pub rest : drop n r.heads ≡ replicate (40 - n) 0

  -- u offers r at the word p: the search finds it in that sub-cell of u's cell
  pub record Offers (u : Row) (p : ℕ) (r : Row) : Type 0 where
    pub low : u.from ≤ p
    pub high : p ≤ n
    pub bans : (h : ℕ) → in_set r.banned h ≡ bans_at (take n u.heads) u.from (in_set u.banned) p h
    pub is : BestHeld (take (p - 1) u.heads) r.banned r

  -- one of us offers r, the latest one at a word before p
  abbrev pub Offered : ℕ → List Row → Row → Type 0
  Offered p [] r = ⊥
  Offered p (u ∷ us) r = ((q : ℕ) × (q < p) × Offers u q r) ⊎ Offered (suc n) us r

  -- behind us comes u: of what they offer, and is not among them, the first
  pub record ComesNext (us : List Row) (u : Row) : Type 0 where
    pub offered : Offered (suc n) us u
    pub new : Contains us u → ⊥
    pub first : (r : Row) → Offered (suc n) us r → Contains us r ⊎ ((r ≡ u) ⊎ (precedes u r ≡ true))

  -- the rows of a ranking's trees, the latest first: what the search finds on the whole sheet, and then what comes next
  abbrev pub InTurn : List Row → Type 0
  InTurn [] = Unit {0}
  InTurn (u ∷ []) = BestHeld [] 0 u
  InTurn (u ∷ v ∷ us) = InTurn (v ∷ us) × ComesNext (v ∷ us) u

  -- us were handed out, the latest first, and ws wait, where the latest one's sub-cells before the word p are split off
  pub record Queued (p : ℕ) (us ws : List Row) : Type 0 where
    pub turns : InTurn us
    pub offered : AllByRecursion (Offered p us) ws
    pub none_lost : (r : Row) → Offered p us r → NotLost us ws r

-- these trees, the latest first, are the first of the sheet's, in their order
abbrev pub InOrder : {K : Type 0} → (K → Worth) → ℕ → Arcs K → List (List ℕ) → Type 0
InOrder worth n arcs ts = (us : List Row) × (ts ≡ map (λ r. take n r.heads) us) × InTurn n (stands arcs) (arc_worth worth arcs) us

-- the same arcs stand, and are worth the same
pub record SameWorths {K : Type 0} (worth : K → Worth) (arcs arcs' : Arcs K) : Type 0 where
  pub stand : (h d : ℕ) → stands arcs h d ≡ stands arcs' h d
  pub weigh : (h d : ℕ) → arc_worth worth arcs h d ≡ arc_worth worth arcs' h d

-- ---- what is to show
-- there is one order: the worths of the arcs settle it
abbrev pub OneOrder : {K : Type 0} → (K → Worth) → ℕ → Type 0
OneOrder {K} worth n = (arcs arcs' : Arcs K) → SameWorths worth arcs arcs' → (ts ts' : List (List ℕ)) → InOrder worth n arcs ts → InOrder worth n arcs' ts' → length ts ≡ length ts' → ts ≡ ts'
