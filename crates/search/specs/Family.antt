-- The sets that a search has made, the newest first, over the words' own best arcs.
-- All that the search knows at a stage is told by that list: whose set a word is in, and what it adds.
use Rattle.std.specs.Prelude.{◌≡◌, ℕ, ◌<◌, ◌≤◌, Bool, true, cond, List, [], ◌∷◌, ◌==◌}
use Rattle.weight.specs.Worth.{Worth, plus, AtMost}
use Rattle.tree.specs.Chains.{Word, up, Reaches}
use Rattle.arborescence.specs.Search.{Leader, Into, Covers, Union, raised}
use Rattle.arborescence.specs.Bounds.{merged_size}
use Rattle.word_set.specs.Bits.{in_set}
use Rattle.search.specs.Arcs.{InLine, NoLater}

-- a set of words, with the arc by which it is best entered: that arc's word leads the set
pub record Group : Type 0 where
  pub members : ℕ
  pub from : ℕ
  pub to : ℕ
  pub value : Worth

-- the largest set that word w is in
abbrev pub entry : (ℕ → Group) → List Group → ℕ → Group
entry base [] w = base w
entry base (m ∷ ms) w = cond (in_set m.members w) m (entry base ms w)

abbrev pub rep_of : List Group → ℕ → ℕ
rep_of [] w = w
rep_of (m ∷ ms) w = cond (in_set m.members w) m.to (rep_of ms w)

abbrev pub from_of : (ℕ → Group) → List Group → ℕ → ℕ
from_of base [] w = (base w).from
from_of base (m ∷ ms) w = cond (in_set m.members w) m.from (from_of base ms w)

abbrev pub best_of : (ℕ → Group) → List Group → ℕ → Worth
best_of base [] w = (base w).value
best_of base (m ∷ ms) w = cond (in_set m.members w) m.value (best_of base ms w)

-- what a word adds to an arc into it; z is no more than nothing
abbrev pub add_of : ℕ → Worth → (ℕ → Group) → List Group → ℕ → Worth
add_of n z base [] d = z
add_of n z base (m ∷ ms) d = raised (in_set m.members) n (rep_of ms) (add_of n z base ms) (best_of base ms) d

abbrev pub size_of : ℕ → List Group → ℕ → ℕ
size_of n [] w = 1
size_of n (m ∷ ms) w = merged_size (in_set m.members) n (rep_of ms) (size_of n ms) w

-- the next set on the way of best arcs
abbrev pub next_of : (ℕ → Group) → List Group → ℕ → ℕ
next_of base ms w = rep_of ms (from_of base ms w)

-- of the arcs into a set that are worth as much as its best one, that one comes first
abbrev pub First : (n : ℕ) (stands : ℕ → ℕ → Bool) (worth : ℕ → ℕ → Worth) (rep : ℕ → ℕ) (add : ℕ → Worth) (ℓ : ℕ) (from to : ℕ) (v : Worth) → Type 0
First n stands worth rep add ℓ from to v = (h d : ℕ) → Into n stands rep ℓ h d → AtMost v (plus (worth h d) (add d)) → NoLater from to h d

-- w is on the way of a word `start`, and the heads of every word before `start` lead to the root. So where the way of `start` runs into a
-- ring, `start` is the first word whose heads do not lead there.
pub record OnFirstWay (n : ℕ) (head : ℕ → ℕ) (w : ℕ) : Type 0 where
  pub start : ℕ
  pub word : Word n start
  pub earlier : (v : ℕ) → 1 ≤ v → v < start → Reaches head v
  pub way : (k : ℕ) × (up head k start ≡ w)

-- a word has its best arc
pub record BegunAt (n : ℕ) (stands : ℕ → ℕ → Bool) (worth : ℕ → ℕ → Worth) (z : Worth) (g : Group) (w : ℕ) : Type 0 where
  pub own : g.to ≡ w
  pub single : (v : ℕ) → in_set g.members v ≡ (v == w)
  pub arc : Into n stands (λ v. v) w g.from w
  pub valued : g.value ≡ plus (worth g.from w) z
  pub covers : Covers n stands worth (λ v. v) (λ v. z) w g.value
  pub first : First n stands worth (λ v. v) (λ v. z) w g.from w g.value

-- the root leads nowhere, and each word up to k has its best arc
pub record Begun (n k : ℕ) (stands : ℕ → ℕ → Bool) (worth : ℕ → ℕ → Worth) (z : Worth) (base : ℕ → Group) : Type 0 where
  pub top : (base 0).to ≡ 0
  pub root : (base 0).from ≡ 0
  pub words : (w : ℕ) → Word k w → BegunAt n stands worth z (base w) w

-- the sets of a ring of best arcs became one: of the rings the one that the first way runs into
pub record Joined (n : ℕ) (stands : ℕ → ℕ → Bool) (worth : ℕ → ℕ → Worth) (z : Worth) (base : ℕ → Group) (m : Group) (ms : List Group) : Type 0 where
  pub union : Union n (rep_of ms) (in_set m.members) m.to
  pub within : (ℓ : ℕ) → Leader n (rep_of ms) ℓ → in_set m.members ℓ ≡ true → in_set m.members (from_of base ms ℓ) ≡ true
  pub round : (i j : ℕ) → Leader n (rep_of ms) i → in_set m.members i ≡ true → Leader n (rep_of ms) j → in_set m.members j ≡ true → (k : ℕ) × (up (λ ℓ. rep_of ms (from_of base ms ℓ)) k i ≡ j)
  pub arc : Into n stands (rep_of (m ∷ ms)) m.to m.from m.to
  pub valued : m.value ≡ plus (worth m.from m.to) (add_of n z base (m ∷ ms) m.to)
  pub covers : Covers n stands worth (rep_of (m ∷ ms)) (add_of n z base (m ∷ ms)) m.to m.value
  pub first : First n stands worth (rep_of (m ∷ ms)) (add_of n z base (m ∷ ms)) m.to m.from m.to m.value
  pub in_line : InLine n m.members
  pub chosen : (w : ℕ) × (in_set m.members w ≡ true) × OnFirstWay n (from_of base ms) w

abbrev pub Valid : (n : ℕ) (stands : ℕ → ℕ → Bool) (worth : ℕ → ℕ → Worth) (z : Worth) (base : ℕ → Group) → List Group → Type 0
Valid n stands worth z base [] = Begun n n stands worth z base
Valid n stands worth z base (m ∷ ms) = Valid n stands worth z base ms × Joined n stands worth z base m ms

-- what each set knows
pub record Entered (n : ℕ) (stands : ℕ → ℕ → Bool) (worth : ℕ → ℕ → Worth) (z : Worth) (base : ℕ → Group) (ms : List Group) (ℓ : ℕ) : Type 0 where
  pub arc : Into n stands (rep_of ms) ℓ (from_of base ms ℓ) ℓ
  pub valued : best_of base ms ℓ ≡ plus (worth (from_of base ms ℓ) ℓ) (add_of n z base ms ℓ)
  pub covers : Covers n stands worth (rep_of ms) (add_of n z base ms) ℓ (best_of base ms ℓ)
