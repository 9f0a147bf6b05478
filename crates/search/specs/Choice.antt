-- Which of several heaviest trees a search finds: the one that its choices among equals lead to. The arcs alone settle it.
use Rattle.std.specs.Prelude.{◌≡◌, ℕ, suc, ◌-◌, ◌<◌, ◌≤◌, Bool, true, cond, List, [], ◌∷◌, length, drop, ⊤, Some, None, Ok, Err, Option, Result, ◌==◌}
use Rattle.std.specs.List.{list_any}
use Rattle.weight.specs.Worth.{Worth, zeros}
use Rattle.refusal.specs.declared.Refusal.{Refusal}
use Rattle.weight.specs.Range.{Range}
use Rattle.arborescence.specs.Heads.{rooted}
use Rattle.tree.specs.Chains.{Word, head_of, Reaches}
use Rattle.word_set.specs.Bits.{in_set}
use Rattle.search.specs.Answer.{TreeTold}
use Rattle.search.specs.Arcs.{Sound, Entries}
use Rattle.search.specs.Family.{Group, from_of, Valid}
use Rattle.search.specs.Opening.{Ended}

-- the heads after the sets are opened, the newest first: each gives its word its head, unless a word of it has its head already
abbrev pub opened : List ℕ → (ℕ → ℕ) → List Group → ℕ → ℕ
opened done head [] w = head w
opened done head (m ∷ ms) w = cond (list_any (in_set m.members) done) (opened done head ms w) (opened (m.to ∷ done) (λ v. cond (v == m.to) m.from (head v)) ms w)

-- the heads that a search of these arcs comes to, over the root layer of a kind with p places
pub record Chosen (p n : ℕ) (stands : ℕ → ℕ → Bool) (worth : ℕ → ℕ → Worth) (head : ℕ → ℕ) : Type 0 where
  pub base : ℕ → Group
  pub sets : List Group
  pub ended : Ended p n stands worth base sets
  pub heads : (w : ℕ) → Word n w → head w ≡ opened [] (λ v. (base v).from) sets w

-- the same arcs stand, and weigh the same
pub record SameArcs (n : ℕ) (stands stands' : ℕ → ℕ → Bool) (worth worth' : ℕ → ℕ → Worth) : Type 0 where
  pub stand : (h d : ℕ) → Word n d → h ≤ n → stands h d ≡ stands' h d
  pub weigh : (h d : ℕ) → Word n d → h ≤ n → stands h d ≡ true → worth h d ≡ worth' h d

-- a search comes to these heads, of arcs that are these on the line, told by functions that may differ elsewhere
pub record Finds (n : ℕ) (stands : ℕ → ℕ → Bool) (worth : ℕ → ℕ → Worth) (heads : List ℕ) : Type 0 where
  pub places : ℕ
  pub sized : (h d : ℕ) → Word n d → h ≤ n → stands h d ≡ true → length (worth h d) ≡ places
  pub searched : ℕ → ℕ → Bool
  pub weighed : ℕ → ℕ → Worth
  pub same : SameArcs n searched stands weighed worth
  pub chosen : Chosen places n searched (rooted weighed) (head_of heads)

-- the tree that was found is the one that the search's choices lead to, wherever the weights looked at are entries
abbrev pub Settles : {K : Type 0} (ranges : List Range) (n : ℕ) (stands : ℕ → ℕ → Bool) (worth : ℕ → ℕ → Worth) (heads : List ℕ) → Result (Option K) Refusal → Type 0
Settles ranges n stands worth heads (Ok (Some weight)) = Entries n stands ranges worth → Finds n stands worth heads
Settles ranges n stands worth heads (Ok None) = ⊤
Settles ranges n stands worth heads (Err e) = ⊤

-- both found none, or the same heads with a weight of the same worth
abbrev pub SameTree : {K : Type 0} → (K → Worth) → List ℕ → Option K → List ℕ → Option K → Type 0
SameTree f heads None others None = ⊤
SameTree f heads (Some a) others (Some b) = (heads ≡ others) × (f a ≡ f b)
SameTree f _ _ _ _ = ⊥

-- ---- what is to show
-- searches of the same arcs are answered alike
abbrev pub SearchesAlike : {K : Type 0} → (K → Worth) → List Range → Type 0
SearchesAlike {K} f ranges =
    (n : ℕ) (stands stands' : ℕ → ℕ → Bool) (worth worth' : ℕ → ℕ → Worth) → SameArcs n stands stands' worth worth' → Entries n stands ranges worth →
    (heads others : List ℕ) (a b : Option K) → TreeTold f n stands worth heads a → Settles ranges n stands worth heads (Ok a) → TreeTold f n stands' worth' others b → Settles ranges n stands' worth' others (Ok b) →
    SameTree f heads a others b

-- at their heart: they come to the same heads
abbrev pub FoundOnce : Type 0
FoundOnce =
    (n : ℕ) (stands stands' : ℕ → ℕ → Bool) (worth worth' : ℕ → ℕ → Worth) → SameArcs n stands stands' worth worth' →
    (heads heads' : List ℕ) → length heads ≡ n → length heads' ≡ n → Finds n stands worth heads → Finds n stands' worth' heads' → heads ≡ heads'

-- searches of the same arcs make the same sets, in the same order: of two lists of them the shorter is the older part of the other
abbrev pub SameSets : Type 0
SameSets =
    (p n : ℕ) (stands stands' : ℕ → ℕ → Bool) (worth worth' : ℕ → ℕ → Worth) → SameArcs n stands stands' worth worth' →
    Sound n stands worth (zeros (suc p)) → Sound n stands' worth' (zeros (suc p)) →
    (base base' : ℕ → Group) (ms ms' : List Group) → Valid n stands worth (zeros (suc p)) base ms → Valid n stands' worth' (zeros (suc p)) base' ms' →
    length ms ≤ length ms' → (ms ≡ drop (length ms' - length ms) ms') × ((w : ℕ) → Word n w → base w ≡ base' w)

-- the sets that a search with so many merges at most makes: it ends earlier where every word's heads lead to the root
pub record MadeWithin (p n : ℕ) (stands : ℕ → ℕ → Bool) (worth : ℕ → ℕ → Worth) (limit : ℕ) (base : ℕ → Group) (ms : List Group) : Type 0 where
  pub sound : Sound n stands worth (zeros (suc p))
  pub valid : Valid n stands worth (zeros (suc p)) base ms
  pub few : length ms ≤ limit
  pub reach : length ms < limit → (w : ℕ) → Word n w → Reaches (from_of base ms) w

-- with a greater limit the same sets are made, and maybe newer ones
abbrev pub LimitedSets : Type 0
LimitedSets =
    (p n : ℕ) (stands stands' : ℕ → ℕ → Bool) (worth worth' : ℕ → ℕ → Worth) → SameArcs n stands stands' worth worth' →
    (less more : ℕ) (base base' : ℕ → Group) (ms ms' : List Group) → less ≤ more → MadeWithin p n stands worth less base ms → MadeWithin p n stands' worth' more base' ms' →
    (length ms ≤ length ms') × (ms ≡ drop (length ms' - length ms) ms') × ((w : ℕ) → Word n w → base w ≡ base' w)
