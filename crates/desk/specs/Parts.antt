-- The parts of a memory, as the contracts of the calls that work in them speak of them
use Rattle.std.specs.Prelude.{◌≡◌, ℕ, suc, ◌∷◌, map, replicate}
use Rattle.desk.specs.declared.memory.Memory.{Memory}
use Rattle.ranking.specs.Memory.{MemoryParts as Parts}
use Rattle.search.specs.Space.{Space}
use Rattle.search.specs.State.{view as set_view}
use Rattle.sheet.specs.Candidates.{row_of}
use Rattle.weight.specs.Layers.{root_place, root_worth}
use Rattle.weight.specs.Worth.{Worth, zeros}

abbrev pub parts_of : {K : Type 0} → Memory K → Parts K
parts_of m = record { weights = m.weights.items; sets = m.sets.items; candidates = m.candidates.items; nodes = m.nodes.items; merges = m.merges.items; potentials = m.potentials.items }

-- the working space among them
abbrev pub space_in : {K : Type 0} → Memory K → Space K
space_in m = record { nodes = m.nodes.items; merges = m.merges.items; potentials = m.potentials.items }

-- the parts for 40 words, over a kind with p places: no arc stands, and every weight is worth nothing
pub record Fresh {K : Type 0} (worth : K → Worth) (p : ℕ) (parts : Parts K) : Type 0 where
  pub weights : map worth parts.weights ≡ replicate 1640 (zeros p)
  pub sets : parts.sets ≡ replicate 40 0
  pub candidates : map (row_of worth) parts.candidates ≡ replicate 51 (record { worth = zeros p; heads = replicate 40 0; from = 1; banned = 0 })
  pub nodes : map (set_view worth) parts.nodes ≡ replicate 41 (record { members = 0; from = 0; to = 0; value = root_place 0 ∷ zeros p })
  pub merges : map (set_view worth) parts.merges ≡ replicate 39 (record { members = 0; from = 0; to = 0; value = root_place 0 ∷ zeros p })
  pub potentials : map (root_worth worth) parts.potentials ≡ replicate 41 (zeros (suc p))
