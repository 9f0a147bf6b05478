-- Cells of trees. A tree is its list of heads, one for each word. A cell is given by heads, a word `from` and a test of banned heads:
-- it has the trees with these heads at the words before `from`, and at `from` a head that is not banned.
use Rattle.std.specs.Prelude.{◌≡◌, ℕ, suc, ◌<◌, ◌≤◌, Bool, false, not, ◌&&◌, ◌||◌, List, ◌∷◌, length, ◌==◌, ◌≢◌, nat_le}
use Rattle.std.specs.Bool.{Decides}
use Rattle.std.specs.List.{common_prefix_len}
use Rattle.tree.specs.Chains.{Word, head_of}

pub record InCell (heads : List ℕ) (from : ℕ) (banned : ℕ → Bool) (t : List ℕ) : Type 0 where
  pub before : (w : ℕ) → w < from → head_of t w ≡ head_of heads w
  pub free : banned (head_of t from) ≡ false

-- what the sub-cell at p bans: the head that p has in `heads`, and at `from` also what the cell bans
abbrev pub bans_at : List ℕ → ℕ → (ℕ → Bool) → ℕ → ℕ → Bool
bans_at heads from banned p h = h == head_of heads p || (p == from && banned h)

abbrev pub InSubCell : List ℕ → ℕ → (ℕ → Bool) → ℕ → List ℕ → Type 0
InSubCell heads from banned p t = InCell heads p (bans_at heads from banned p) t

-- w is the first word at which t differs from heads
pub record FirstApart (heads t : List ℕ) (w : ℕ) : Type 0 where
  pub before : (v : ℕ) → v < w → head_of t v ≡ head_of heads v
  pub here : head_of t w ≡ head_of heads w → ⊥

-- the sub-cells at from, from + 1, .., n part the cell without `heads`
pub record Partition (n : ℕ) (heads : List ℕ) (from : ℕ) (banned : ℕ → Bool) : Type 0 where
  -- a list of the cell other than `heads` lies in the sub-cell at the first word where it differs
  pub covers :
      (t : List ℕ) → length t ≡ n → InCell heads from banned t → (t ≢ heads) →
      (p : ℕ) × (from ≤ p) × (p ≤ n) × FirstApart heads t p × InSubCell heads from banned p t
  -- which is the only one
  pub first : (t : List ℕ) (p : ℕ) → InSubCell heads from banned p t → FirstApart heads t p
  pub only : (t : List ℕ) (p q : ℕ) → InSubCell heads from banned p t → InSubCell heads from banned q t → p ≡ q
  pub within : (t : List ℕ) (p : ℕ) → from ≤ p → InSubCell heads from banned p t → InCell heads from banned t
  pub without : (p : ℕ) → InSubCell heads from banned p heads → ⊥

abbrev pub Parts : Type 0
Parts =
    (n : ℕ) (heads : List ℕ) (from : ℕ) (banned : ℕ → Bool) → length heads ≡ n → Word n from → banned (head_of heads from) ≡ false →
    Partition n heads from banned

-- ---- the same as tests
-- the first word where they differ; one past the last if they do not
abbrev pub apart_at : List ℕ → List ℕ → ℕ
apart_at t heads = common_prefix_len ◌==◌ (0 ∷ t) (0 ∷ heads)

abbrev pub in_cell : List ℕ → ℕ → (ℕ → Bool) → List ℕ → Bool
in_cell heads from banned t = nat_le from (apart_at t heads) && not (banned (head_of t from))

-- t is another list of the cell than `heads`, and differs first at p or after
abbrev pub pending : ℕ → List ℕ → ℕ → (ℕ → Bool) → ℕ → List ℕ → Bool
pending n heads from banned p t = in_cell heads from banned t && (nat_le p (apart_at t heads) && nat_le (apart_at t heads) n)

-- which the tests decide, for two lists of n heads
abbrev pub Tested : Type 0
Tested =
    (n : ℕ) (heads t : List ℕ) (from p : ℕ) (banned : ℕ → Bool) → length heads ≡ n → length t ≡ n → from ≤ suc n → p ≤ suc n →
    Decides (in_cell heads from banned t) (InCell heads from banned t)
    × Decides (pending n heads from banned p t) (InCell heads from banned t × (((w : ℕ) → w < p → head_of t w ≡ head_of heads w) × (t ≢ heads)))
