-- The parts of a memory as lists.
use Rattle.std.proofs.Common.{◌≡◌, ℕ, List, length, ap, ◌∙◌, zero, suc, ◌∷◌, map, replicate, refl}
use Rattle.desk.specs.declared.memory.Memory.{Memory}
use Rattle.ranking.specs.Memory.{MemoryParts as Parts}
use Rattle.run.specs.Loans.{lists}
use Rattle.search.specs.declared.family.Node.{Node}
use Rattle.sheet.specs.declared.Candidate.{Candidate}
use Rattle.std.proofs.lemmas.List.{with_items_is}
use Rattle.std.specs.Vec.{with_items}
use Rattle.weight.specs.Layers.{Root}

-- the same lists are the same parts
pub same_lists : {K : Type 0} (weights weights' : List K) (sets sets' : List ℕ) (candidates candidates' : List (Candidate K)) (nodes nodes' merges merges' : List (Node K)) (potentials potentials' : List (Root K)) → weights ≡ weights' → sets ≡ sets' → candidates ≡ candidates' → nodes ≡ nodes' → merges ≡ merges' → potentials ≡ potentials' → lists weights sets candidates nodes merges potentials ≡ lists weights' sets' candidates' nodes' merges' potentials'
same_lists w w' s s' c c' n n' m m' p p' ew es ec en em ep =
    ap (λ x. lists x s c n m p) ew ∙ ap (λ x. lists w' x c n m p) es ∙ ap (λ x. lists w' s' x n m p) ec ∙ ap (λ x. lists w' s' c' x m p) en ∙ ap (λ x. lists w' s' c' n' x p) em ∙ ap (λ x. lists w' s' c' n' m' x) ep

-- what the vectors hold where a call wrote other items into them, as many
pub kept_lists : {K : Type 0} (m : Memory K) (after : Parts K) → length after.weights ≡ m.weights.len → length after.sets ≡ m.sets.len → length after.candidates ≡ m.candidates.len → length after.nodes ≡ m.nodes.len → length after.merges ≡ m.merges.len → length after.potentials ≡ m.potentials.len →
    lists (with_items m.weights after.weights).items (with_items m.sets after.sets).items (with_items m.candidates after.candidates).items (with_items m.nodes after.nodes).items (with_items m.merges after.merges).items (with_items m.potentials after.potentials).items ≡ after
kept_lists m after w s c n g p =
    same_lists _ _ _ _ _ _ _ _ _ _ _ _ (with_items_is m.weights after.weights w) (with_items_is m.sets after.sets s) (with_items_is m.candidates after.candidates c) (with_items_is m.nodes after.nodes n) (with_items_is m.merges after.merges g) (with_items_is m.potentials after.potentials p)

-- copies of one value, each seen through f
pub map_replicate : {A B : Type 0} (f : A → B) (n : ℕ) (x : A) → map f (replicate n x) ≡ replicate n (f x)
map_replicate f zero x = refl
map_replicate f (suc n) x = ap (λ xs. f x ∷ xs) (map_replicate f n x)
