-- The memory that a run is lent, as lists
use Rattle.std.specs.Prelude.{◌≡◌, ℕ, List}
use Rattle.ranking.specs.Calls.{part_lengths}
use Rattle.ranking.specs.Memory.{MemoryParts as Lists}
use Rattle.run.specs.declared.LentMemory.{LentMemory}
use Rattle.search.specs.declared.family.Node.{Node}
use Rattle.sheet.specs.declared.Candidate.{Candidate}
use Rattle.weight.specs.Layers.{Root}

abbrev pub lists : {K : Type 0} → List K → List ℕ → List (Candidate K) → (nodes merges : List (Node K)) → List (Root K) → Lists K
lists weights sets candidates nodes merges potentials = record { weights = weights; sets = sets; candidates = candidates; nodes = nodes; merges = merges; potentials = potentials }

-- what the parts hold
abbrev pub lists_of : {K : Type 0} → LentMemory K → Lists K
lists_of memory = lists memory.weights.now memory.sets.now memory.candidates.now memory.nodes.now memory.merges.now memory.potentials.now

-- the parts are still the slices that were lent, each as long as it was
pub record SameLoans {K : Type 0} (before after : LentMemory K) : Type 0 where
  pub weights : after.weights.ghost_name ≡ before.weights.ghost_name
  pub sets : after.sets.ghost_name ≡ before.sets.ghost_name
  pub candidates : after.candidates.ghost_name ≡ before.candidates.ghost_name
  pub nodes : after.nodes.ghost_name ≡ before.nodes.ghost_name
  pub merges : after.merges.ghost_name ≡ before.merges.ghost_name
  pub potentials : after.potentials.ghost_name ≡ before.potentials.ghost_name
  pub long : part_lengths (lists_of after) ≡ part_lengths (lists_of before)
