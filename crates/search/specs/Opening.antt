-- The family is opened from the newest set to the oldest: each set's word gets its head, unless a word of the set has one already
use Rattle.std.specs.Prelude.{◌≡◌, ℕ, suc, ◌≤◌, Bool, true, false, ◌⊎◌, List, All}
use Rattle.weight.specs.Worth.{Worth, AtMost, zeros}
use Rattle.tree.specs.Chains.{Word, Reaches}
use Rattle.arborescence.specs.Search.{Leader, Built, Tree, worth_of_heads}
use Rattle.word_set.specs.Bits.{in_set}
use Rattle.search.specs.Arcs.{Sound}
use Rattle.search.specs.Family.{Group, rep_of, from_of, add_of, Valid}

-- no word of the set has its head yet, and the set has its own arc
pub record Shut (n : ℕ) (base : ℕ → Group) (ms : List Group) (done : ℕ) (from to : ℕ → ℕ) (ℓ : ℕ) : Type 0 where
  pub none : (v : ℕ) → Word n v → rep_of ms v ≡ ℓ → in_set done v ≡ false
  pub own_from : from ℓ ≡ from_of base ms ℓ
  pub own_to : to ℓ ≡ ℓ

-- one word of the set has its head, from outside
pub record EnteredBy (n : ℕ) (ms : List Group) (done : ℕ) (head from to : ℕ → ℕ) (ℓ : ℕ) : Type 0 where
  pub is_done : in_set done (to ℓ) ≡ true
  pub is_head : head (to ℓ) ≡ from ℓ
  pub only : (v : ℕ) → Word n v → rep_of ms v ≡ ℓ → in_set done v ≡ true → v ≡ to ℓ

pub record Opened (n : ℕ) (stands : ℕ → ℕ → Bool) (worth : ℕ → ℕ → Worth) (z : Worth) (base : ℕ → Group) (ms : List Group) (goal : Worth) (done : ℕ) (head : ℕ → ℕ) : Type 0 where
  pub built : Built n stands worth (rep_of ms) (add_of n z base ms) goal
  pub held : (ℓ : ℕ) → Leader n (rep_of ms) ℓ → Shut n base ms done built.from built.to ℓ ⊎ EnteredBy n ms done head built.from built.to ℓ
  pub rest : (w : ℕ) → Word n w → in_set done w ≡ false → head w ≡ (base w).from

-- a tree, and none is worth more
abbrev pub BestOfAll : (n : ℕ) (stands : ℕ → ℕ → Bool) (worth : ℕ → ℕ → Worth) (head : ℕ → ℕ) → Type 0
BestOfAll n stands worth head = Tree n stands head × ((other : ℕ → ℕ) → Tree n stands other → AtMost (worth_of_heads worth other n) (worth_of_heads worth head n))

-- ---- what the opening is given
-- the arcs of the words and of the sets lie on the line
pub record Lined (n : ℕ) (base : ℕ → Group) (ms : List Group) : Type 0 where
  pub words : (w : ℕ) → Word n w → (base w).from ≤ n
  pub sets : All (λ m. Word n m.to × (m.from ≤ n)) ms

-- the sets are those of a search of these arcs that has come to its end
pub record Ended (p n : ℕ) (stands : ℕ → ℕ → Bool) (worth : ℕ → ℕ → Worth) (base : ℕ → Group) (ms : List Group) : Type 0 where
  pub sound : Sound n stands worth (zeros (suc p))
  pub valid : Valid n stands worth (zeros (suc p)) base ms
  pub reach : (w : ℕ) → Word n w → Reaches (from_of base ms) w

-- whatever arcs it was a search of, the heads are a heaviest arborescence over them
abbrev pub OpensToBest : (p n : ℕ) (base : ℕ → Group) (ms : List Group) (head : ℕ → ℕ) → Type 0
OpensToBest p n base ms head = (stands : ℕ → ℕ → Bool) (worth : ℕ → ℕ → Worth) → Ended p n stands worth base ms → BestOfAll n stands worth head
