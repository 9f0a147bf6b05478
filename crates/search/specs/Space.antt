-- The working space of a search: how long its parts are, that they stay the parts that were lent, and what is left in them
use Rattle.std.specs.Prelude.{◌≡◌, ℕ, ◌+◌, ◌-◌, List, length, drop, Ok, Err, Option, Result}
use Rattle.refusal.specs.declared.Refusal.{Refusal}
use Rattle.search.specs.State.{Room}
use Rattle.search.specs.declared.family.Node.{Node}
use Rattle.search.specs.declared.working.Working.{Working}
use Rattle.weight.specs.Layers.{Root}

-- the memory is long enough for a search of n words
abbrev pub RoomIn : {K : Type 0} → ℕ → List ℕ → List K → Working K → Type 0
RoomIn n sets weights space = Room n (length sets) (length weights) (length space.nodes.now) (length space.merges.now) (length space.potentials.now)

-- the parts are still the slices that were lent, each as long as it was
abbrev pub SameParts : {K : Type 0} → Working K → Working K → Type 0
SameParts before after =
    ((after.nodes.ghost_name ≡ before.nodes.ghost_name) × (after.merges.ghost_name ≡ before.merges.ghost_name) × (after.potentials.ghost_name ≡ before.potentials.ghost_name))
    × ((length after.nodes.now ≡ length before.nodes.now) × (length after.merges.now ≡ length before.merges.now) × (length after.potentials.now ≡ length before.potentials.now))

-- what the parts hold
pub record Space (K : Type 0) : Type 0 where
  pub nodes : List (Node K)
  pub merges : List (Node K)
  pub potentials : List (Root K)

abbrev pub space_of : {K : Type 0} → Working K → Space K
space_of working = record { nodes = working.nodes.now; merges = working.merges.now; potentials = working.potentials.now }

-- beyond its listed length for n words each part is as it was
pub record SpaceKeptBeyond {K : Type 0} (n : ℕ) (before after : Space K) : Type 0 where
  pub nodes : drop (n + 1) after.nodes ≡ drop (n + 1) before.nodes
  pub merges : drop (n - 1) after.merges ≡ drop (n - 1) before.merges
  pub potentials : drop (n + 1) after.potentials ≡ drop (n + 1) before.potentials

-- a refusal leaves the space as it was, and an answer all that lies beyond the listed lengths
abbrev pub KeptIn : {K : Type 0} (n : ℕ) (before after : Space K) → Result (Option K) Refusal → Type 0
KeptIn n before after (Err e) = after ≡ before
KeptIn n before after (Ok told) = SpaceKeptBeyond n before after
