-- Heads, and the chains that they make. The words of a line are 1 to n, and 0 is the root.
use Rattle.std.specs.Prelude.{◌≡◌, ℕ, zero, suc, ◌<◌, ◌≤◌, List, ◌∷◌, slice_index}

abbrev pub Word : ℕ → ℕ → Type 0
Word n w = (1 ≤ w) × (w ≤ n)

-- the head of word w in a list of heads; the root has none and stays 0, and so does a number above the last word
abbrev pub head_of : List ℕ → ℕ → ℕ
head_of heads w = slice_index (0 ∷ heads) w

-- where the chain of heads from w stands after k steps
abbrev pub up : (ℕ → ℕ) → ℕ → ℕ → ℕ
up head zero w = w
up head (suc k) w = up head k (head w)

-- the chain of heads from w comes to the root
abbrev pub Reaches : (ℕ → ℕ) → ℕ → Type 0
Reaches head w = (k : ℕ) × (up head k w ≡ 0)

-- the chain of heads from w meets a word of the chain again
abbrev pub RunsIntoCycle : (ℕ → ℕ) → ℕ → Type 0
RunsIntoCycle head w = (i : ℕ) × (j : ℕ) × (i < j) × (1 ≤ up head i w) × (up head i w ≡ up head j w)

-- the chain of heads from w comes back to w
abbrev pub OnCycle : (ℕ → ℕ) → ℕ → Type 0
OnCycle head w = (1 ≤ w) × ((k : ℕ) × (up head (suc k) w ≡ w))

-- the first word that the chain of heads from w meets a second time; the chain begins with w itself:
-- it stands there after `before` steps and again after `steps`, and before that at no word twice
pub record FirstAgain (head : ℕ → ℕ) (w again : ℕ) : Type 0 where
  pub before : ℕ
  pub steps : ℕ
  pub earlier : before < steps
  pub was : up head before w ≡ again
  pub is : up head steps w ≡ again
  pub apart : (i j : ℕ) → i < j → j < steps → up head i w ≡ up head j w → ⊥
