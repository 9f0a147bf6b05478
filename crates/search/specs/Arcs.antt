-- The arcs that a search looks at, of n words: bit h of sets[d - 1] is up where the arc from h to d stands,
-- and weights[(d - 1) * (n + 1) + h] is its weight. The first words can be held, each at a given head.
use Rattle.std.specs.Prelude.{◌≡◌, ℕ, suc, ◌+◌, ◌-◌, ◌*◌, ◌^◌, ◌<◌, ◌≤◌, Bool, true, false, cond, ◌&&◌, ◌||◌, ◌⊎◌, List, [], map, length, Some, None, Option, ◌==◌, nat_lt, slice_index, slice_index_or}
use Rattle.weight.specs.Worth.{Worth, zeros, plus, at_most, AtMost, Within}
use Rattle.weight.specs.Layers.{Root, root_worth}
use Rattle.weight.specs.Range.{Range, entry_in}
use Rattle.tree.specs.Chains.{Word, head_of}
use Rattle.arborescence.specs.Heads.{rooted}
use Rattle.search.specs.declared.arcs.Entering.{Entering}
use Rattle.search.specs.declared.graph.Graph.{Graph}
use Rattle.word_set.specs.Bits.{in_set}

-- whether the arc from h to d stands, and is that of d's held head where d is held
abbrev pub allowed : List ℕ → List ℕ → ℕ → ℕ → Bool
allowed sets held h d = in_set (slice_index sets (d - 1)) h && (nat_lt (length held) d || h == head_of held d)

abbrev pub weight_at : {K : Type 0} → (K → Worth) → ℕ → List K → ℕ → ℕ → Worth
weight_at f n weights h d = slice_index_or (map f weights) ((d - 1) * (n + 1) + h) []

-- the same with the place of the root layer in front
abbrev pub layered_worth : {K : Type 0} → (K → Worth) → ℕ → List K → ℕ → ℕ → Worth
layered_worth f n weights = rooted (weight_at f n weights)

-- the same of the graph that a search looks at
abbrev pub stands_in : {K : Type 0} → Graph K → ℕ → ℕ → Bool
stands_in graph = allowed graph.sets.now graph.held.now

abbrev pub weight_in_graph : {K : Type 0} → (K → Worth) → Graph K → ℕ → ℕ → Worth
weight_in_graph f graph = weight_at f graph.words graph.weights.now

abbrev pub arc_in : {K : Type 0} → (K → Worth) → Graph K → ℕ → ℕ → Worth
arc_in f graph = layered_worth f graph.words graph.weights.now

-- the set's words are on the line, or the root
abbrev pub InLine : (n set : ℕ) → Type 0
InLine n set = (h : ℕ) → in_set set h ≡ true → h ≤ n

-- the potential of a word
abbrev pub potential : {K : Type 0} → (K → Worth) → List (Root K) → ℕ → Worth
potential f potentials d = slice_index_or (map (root_worth f) potentials) d []

-- each arc has as many places as z, the worth of nothing, and those that stand are small
pub record Sound (n : ℕ) (stands : ℕ → ℕ → Bool) (worth : ℕ → ℕ → Worth) (z : Worth) : Type 0 where
  pub whole : (h d : ℕ) → Word n d → h ≤ n → plus (worth h d) z ≡ worth h d
  pub small : (h d : ℕ) → Word n d → h ≤ n → stands h d ≡ true → Within (2 ^ 20) (worth h d)

-- the same of a graph, over the root layer of a kind with p places
abbrev pub SoundIn : {K : Type 0} → (K → Worth) → ℕ → Graph K → Type 0
SoundIn f p graph = Sound graph.words (stands_in graph) (arc_in f graph) (zeros (suc p))

-- ---- the best of some heads
-- none of them, or one of them, and no other is worth more: of equals the least
abbrev pub BestHead : (ℕ → Bool) → (ℕ → Worth) → Option ℕ → Type 0
BestHead heads w None = (h : ℕ) → heads h ≡ false
BestHead heads w (Some b) = (heads b ≡ true) × ((h : ℕ) → heads h ≡ true → AtMost (w h) (w b)) × ((h : ℕ) → heads h ≡ true → AtMost (w b) (w h) → b ≤ h)

abbrev pub better_head : (ℕ → Worth) → Option ℕ → ℕ → ℕ
better_head w None h = h
better_head w (Some b) h = cond (at_most (w h) (w b)) b h

-- ---- the best of some arcs
-- by their dependents and then by their heads, the arc from a to b comes no later than that from h to d
abbrev pub NoLater : (a b h d : ℕ) → Type 0
NoLater a b h d = (b < d) ⊎ ((b ≡ d) × (a ≤ h))

-- no arc is of the sort, or this one is, and none of the sort is worth more: of equals the first
abbrev pub Best : {K : Type 0} → (K → Worth) → (ℕ → ℕ → Type 0) → (ℕ → ℕ → Worth) → Option (Entering K) → Type 0
Best f A w None = (h d : ℕ) → A h d → ⊥
Best f A w (Some e) = A e.from e.to × (root_worth f e.value ≡ w e.from e.to) × ((h d : ℕ) → A h d → AtMost (w h d) (root_worth f e.value)) × ((h d : ℕ) → A h d → AtMost (root_worth f e.value) (w h d) → NoLater e.from e.to h d)

abbrev pub better_of : {K : Type 0} → (K → Worth) → Option (Entering K) → Option (Entering K) → Option (Entering K)
better_of f None b = b
better_of f (Some a) None = Some a
better_of f (Some a) (Some b) = cond (at_most (root_worth f b.value) (root_worth f a.value)) (Some a) (Some b)

-- the arcs into one word, from a set of heads
pub record HeadArc (free to h d : ℕ) : Type 0 where
  pub is : d ≡ to
  pub standing : in_set free h ≡ true

-- the arcs into a set from outside, to those of its words that come before k
pub record SetArc (n k : ℕ) (stands : ℕ → ℕ → Bool) (inside : ℕ) (h d : ℕ) : Type 0 where
  pub word : Word n d
  pub before : d < k
  pub in_line : h ≤ n
  pub standing : stands h d ≡ true
  pub within : in_set inside d ≡ true
  pub outside : in_set inside h ≡ false

-- an arc's worth with the potential of its word
abbrev pub with_potential : (ℕ → ℕ → Worth) → (ℕ → Worth) → ℕ → ℕ → Worth
with_potential worth add h d = plus (worth h d) (add d)

-- ---- entries
-- whether all of some heads pass a test
abbrev pub EntriesInto : (ℕ → Bool) → (ℕ → Bool) → Bool → Type 0
EntriesInto heads passes true = (h : ℕ) → heads h ≡ true → passes h ≡ true
EntriesInto heads passes false = (h : ℕ) × (heads h ≡ true) × (passes h ≡ false)

-- the weights of all the arcs that are looked at are entries
abbrev pub Entries : (n : ℕ) (stands : ℕ → ℕ → Bool) (ranges : List Range) (worth : ℕ → ℕ → Worth) → Type 0
Entries n stands ranges worth = (h d : ℕ) → Word n d → h ≤ n → stands h d ≡ true → entry_in ranges (worth h d) ≡ true

abbrev pub AllEntries : (n : ℕ) (stands : ℕ → ℕ → Bool) (ranges : List Range) (worth : ℕ → ℕ → Worth) → Bool → Type 0
AllEntries n stands ranges worth true = Entries n stands ranges worth
AllEntries n stands ranges worth false = Entries n stands ranges worth → ⊥
