-- A state of the search, and the one after a merge
use Rattle.std.proofs.Common.{◌≡◌, ℕ, suc, ◌+◌, ◌^◌, ◌<◌, ◌≤◌, Bool, true, cond, ◌&&◌, List, [], ◌∷◌, ◌++◌, map, reverse, length, get_or, set, Some, sym, refl, ap, ◌∙◌, subst, arith}
use Rattle.std.proofs.lemmas.List.{map-set, get_or-set_same, get_or-set_other, length-map, length-reverse}
use Rattle.weight.specs.Worth.{Worth, zeros, plus, minus, Within}
use Rattle.tree.specs.Chains.{Word}
use Rattle.arborescence.specs.Sum.{sum_if}
use Rattle.arborescence.specs.Search.{leads}
use Rattle.weight.proofs.Worths.{plus_zeros, within_more}
use Rattle.search.specs.declared.family.Node.{Node}
use Rattle.search.specs.declared.graph.Graph.{Graph}
use Rattle.word_set.specs.Bits.{in_set}
use Rattle.weight.specs.Layers.{Root, root_worth}
use Rattle.search.specs.Arcs.{stands_in, arc_in, SoundIn, potential, Best, SetArc, with_potential}
use Rattle.search.specs.Family.{Group, rep_of, from_of, best_of, add_of, OnFirstWay, Valid}
use Rattle.search.specs.State.{view, blank, group_at, sets_of, NoTree, StateIn}
use Rattle.search.specs.Ring.{Laid, Ring}
use Rattle.search.proofs.Records.{newest}
use Rattle.search.proofs.Stages.{valid_laid}
use Rattle.search.proofs.Joining.{at_length, merge_none, agree_after, valid_after}
use Rattle.search.proofs.Limits.{value_small, add_small, all_small, new_small, room}

pub group_set_same : {K : Type 0} (f : K → Worth) (xs : List (Node K)) (i : ℕ) (x : Node K) → i < length xs → group_at f (set xs i x) i ≡ view f x
group_set_same f xs i x l = ap (λ (ys : List Group). get_or ys i blank) (map-set (view f) xs i x) ∙ get_or-set_same (map (view f) xs) i (view f x) blank (simp length-map l)

pub group_set_other : {K : Type 0} (f : K → Worth) (xs : List (Node K)) (i j : ℕ) (x : Node K) → (j ≡ i → ⊥) → group_at f (set xs i x) j ≡ group_at f xs j
group_set_other f xs i j x ne = ap (λ (ys : List Group). get_or ys j blank) (map-set (view f) xs i x) ∙ get_or-set_other (map (view f) xs) i j (view f x) blank ne

-- what is known in a state
pub record Known {K : Type 0} (f : K → Worth) (p : ℕ) (graph : Graph K) (nodes made : List (Node K)) (adds : List (Root K)) : Type 0 where
  pub laid : Laid graph.words (group_at f nodes) (sets_of f made)
  pub value : (w : ℕ) → Word graph.words w → Within (2 ^ 26) (best_of (group_at f nodes) (sets_of f made) w)
  pub added : (w : ℕ) → Word graph.words w → Within (2 ^ 30) (potential f adds w)
  pub all : (q : ℕ → Bool) → Within (2 ^ 32) (plus (zeros (suc p)) (sum_if q (best_of (group_at f nodes) (sets_of f made)) graph.words))
  pub room : (S : ℕ) → Ring graph.words (group_at f nodes) (sets_of f made) S → length made + 2 ≤ graph.words
  pub none : (S : ℕ) → Ring graph.words (group_at f nodes) (sets_of f made) S → ((h d : ℕ) → SetArc graph.words (graph.words + 1) (stands_in graph) S h d → ⊥) → NoTree graph.words (stands_in graph)

module _ {K : Type 0} (f : K → Worth) (p : ℕ) (graph : Graph K) (sound : SoundIn f p graph) (nodes made : List (Node K)) (adds : List (Root K)) (state : StateIn f p graph nodes made adds) where
  abbrev ms : List Group
  ms = sets_of f made

  laid : Laid graph.words (group_at f nodes) (sets_of f made)
  laid = valid_laid graph.words (stands_in graph) (arc_in f graph) (zeros (suc p)) sound.whole (group_at f nodes) (sets_of f made) state.valid

  pub known : Known f p graph nodes made adds
  known =
      record {
        laid = laid;
        value = value_small p graph.words graph.few (stands_in graph) (arc_in f graph) sound (group_at f nodes) ms state.valid;
        added = λ w v. rw (state.agree w v) (within_more (2 ^ 26) (2 ^ 30) _ (omega arith) (add_small p graph.words graph.few (stands_in graph) (arc_in f graph) sound (group_at f nodes) ms state.valid w v));
        all = all_small p graph.words graph.few (stands_in graph) (arc_in f graph) sound (group_at f nodes) ms state.valid;
        room = λ S ring. omega (arith, length-map (reverse made) (view f), length-reverse made, room p graph.words graph.few (stands_in graph) (arc_in f graph) sound (group_at f nodes) ms state.valid S ring);
        none = λ S ring. merge_none f p graph.words (stands_in graph) (arc_in f graph) (group_at f nodes) ms laid S ring ring.some.0 ring.some.1 ring.some.2;
      }

  -- after a merge
  module _
      (sized : (x : K) → length (f x) ≡ p) (long : graph.words < length adds) (S : ℕ) (ring : Ring graph.words (group_at f nodes) (sets_of f made) S)
      (all : Worth) (adds' : List (Root K)) (all-is : all ≡ plus (zeros (suc p)) (sum_if (λ ℓ. leads (rep_of (sets_of f made)) ℓ && in_set S ℓ) (best_of (group_at f nodes) (sets_of f made)) graph.words))
      (NewIs : (d : ℕ) → Word graph.words d → potential f adds' d ≡ cond (in_set S d) (minus (plus (potential f adds d) all) (best_of (group_at f nodes) (sets_of f made) d)) (potential f adds d))
    where
      full : (d : ℕ) → Word graph.words d → plus (potential f adds d) (zeros (suc p)) ≡ potential f adds d
      full d v = plus_zeros (potential f adds d) (suc p) (at_length (root_worth f) (suc p) (λ m. ap suc (sized m.rest)) adds d (omega (arith, v.1, long)))

      agree' : (m : Group) → m.members ≡ S → (d : ℕ) → Word graph.words d → potential f adds' d ≡ add_of graph.words (zeros (suc p)) (group_at f nodes) (m ∷ sets_of f made) d
      agree' = agree_after f p graph.words (stands_in graph) (arc_in f graph) (group_at f nodes) ms laid (potential f adds) (potential f adds') S all full all-is NewIs state.agree

      pub new_added : (d : ℕ) → Word graph.words d → Within (2 ^ 30) (potential f adds' d)
      new_added d v =
          rw (agree' (record { members = S; from = 0; to = 0; value = [] }) refl d v)
          (within_more (2 ^ 26) (2 ^ 30) _ (omega arith) (new_small p graph.words graph.few (stands_in graph) (arc_in f graph) sound (group_at f nodes) ms state.valid S ring d v))

      pub state_after : (w : ℕ) × (in_set S w ≡ true) × OnFirstWay graph.words (from_of (group_at f nodes) (sets_of f made)) w → (x : Node K) (made' : List (Node K)) → made' ≡ made ++ (x ∷ []) → x.members ≡ S → Best f (SetArc graph.words (graph.words + 1) (stands_in graph) S) (with_potential (arc_in f graph) (potential f adds')) (Some x.arc) → StateIn f p graph nodes made' adds'
      state_after chosen x made' more is best =
          let q = newest f made' made x more in
          record {
            valid = subst (Valid graph.words (stands_in graph) (arc_in f graph) (zeros (suc p)) (group_at f nodes)) (sym q) (valid_after f p graph.words (stands_in graph) (arc_in f graph) (group_at f nodes) ms laid (potential f adds) (potential f adds') S all full all-is NewIs state.agree state.valid ring chosen x.arc best (view f x) (rw is refl));
            agree = λ d v. agree' (view f x) is d v ∙ ap (λ (l : List Group). add_of graph.words (zeros (suc p)) (group_at f nodes) l d) (sym q);
          }
