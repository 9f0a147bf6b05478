-- The records of a search: of the root at 0 and the words at 1 to n, and of the sets that were made, in their order
use Rattle.std.specs.Prelude.{◌≡◌, ℕ, suc, ◌+◌, ◌-◌, ◌*◌, ◌<◌, ◌≤◌, Bool, true, ◌||◌, List, [], map, reverse, take, ⊤, Some, None, Ok, Err, Option, Result, slice_index_or}
use Rattle.weight.specs.Worth.{Worth, zeros}
use Rattle.tree.specs.Chains.{Word, up, Reaches}
use Rattle.arborescence.specs.Search.{Tree}
use Rattle.search.specs.declared.family.Family.{Family as Records}
use Rattle.search.specs.declared.family.Node.{Node}
use Rattle.search.specs.declared.graph.Graph.{Graph}
use Rattle.word_set.specs.Bits.{in_set}
use Rattle.weight.specs.Layers.{Root, root_worth}
use Rattle.search.specs.Arcs.{stands_in, arc_in, potential}
use Rattle.search.specs.Family.{Group, from_of, add_of, OnFirstWay, Valid}

abbrev pub view : {K : Type 0} → (K → Worth) → Node K → Group
view f node = record { members = node.members; from = node.arc.from; to = node.arc.to; value = root_worth f node.arc.value }

abbrev pub blank : Group
blank = record { members = 0; from = 0; to = 0; value = [] }

abbrev pub group_at : {K : Type 0} → (K → Worth) → List (Node K) → ℕ → Group
group_at f nodes i = slice_index_or (map (view f) nodes) i blank

-- the sets that were made, the newest first
abbrev pub sets_of : {K : Type 0} → (K → Worth) → List (Node K) → List Group
sets_of f made = map (view f) (reverse made)

-- the records that a search has so far
abbrev pub base_in : {K : Type 0} → (K → Worth) → Records K → ℕ → Group
base_in f records = group_at f records.nodes.now

abbrev pub sets_in : {K : Type 0} → (K → Worth) → Records K → List Group
sets_in f records = sets_of f records.made.now

abbrev pub head_in : {K : Type 0} → (K → Worth) → Records K → ℕ → ℕ
head_in f records = from_of (base_in f records) (sets_in f records)

-- where a walk along the heads came to: each word that it met leads to one that was fine, or the error is a word on the way from `start`
-- whose heads lead back to it
abbrev pub Walked : ℕ → (ℕ → ℕ) → ℕ → ℕ → Result ℕ ℕ → Type 0
Walked n head fine start (Ok seen) = ((x : ℕ) → in_set seen x ≡ true → (k : ℕ) × (in_set fine (up head k x) ≡ true)) × ((in_set fine start || in_set seen start) ≡ true)
Walked n head fine start (Err w) = Word n w × ((k : ℕ) × (up head (suc k) w ≡ w)) × ((k : ℕ) × (up head k start ≡ w))

-- every word's heads lead to the root, or this word's lead back to it, and it is on the first way that does not lead there
abbrev pub Found : ℕ → (ℕ → ℕ) → Result ⊤ ℕ → Type 0
Found n head (Ok _) = (w : ℕ) → Word n w → Reaches head w
Found n head (Err w) = Word n w × ((k : ℕ) × (up head (suc k) w ≡ w)) × OnFirstWay n head w

-- ---- the search between two merges, with the sets that were made, over a kind with p places
pub record StateIn {K : Type 0} (f : K → Worth) (p : ℕ) (graph : Graph K) (nodes made : List (Node K)) (potentials : List (Root K)) : Type 0 where
  pub valid : Valid graph.words (stands_in graph) (arc_in f graph) (zeros (suc p)) (group_at f nodes) (sets_of f made)
  pub agree : (d : ℕ) → Word graph.words d → potential f potentials d ≡ add_of graph.words (zeros (suc p)) (group_at f nodes) (sets_of f made) d

-- the memory of a search of n words is long enough, by the lengths of its parts
pub record Room (n sets weights nodes merges potentials : ℕ) : Type 0 where
  pub sets_in : n ≤ sets
  pub weights_in : n * (n + 1) ≤ weights
  pub nodes_in : n < nodes
  pub merges_in : n ≤ merges + 1
  pub potentials_in : n < potentials

-- the parts of the working space are long enough
pub record SpaceFor (n nodes merges potentials : ℕ) : Type 0 where
  pub nodes_in : n < nodes
  pub merges_in : n ≤ merges + 1
  pub potentials_in : n < potentials

-- no arborescence stands
abbrev pub NoTree : (n : ℕ) (stands : ℕ → ℕ → Bool) → Type 0
NoTree n stands = (head : ℕ → ℕ) → Tree n stands head → ⊥

-- what the growing comes to: a state in which every word's heads lead to the root, or no tree
abbrev pub Grown : {K : Type 0} → (K → Worth) → ℕ → Graph K → (nodes merges : List (Node K)) (potentials : List (Root K)) → Option ℕ → Type 0
Grown f p graph nodes merges potentials None = NoTree graph.words (stands_in graph)
Grown f p graph nodes merges potentials (Some made) =
    StateIn f p graph nodes (take made merges) potentials × ((w : ℕ) → Word graph.words w → Reaches (from_of (group_at f nodes) (sets_of f (take made merges))) w) × (made ≤ graph.words - 1)
