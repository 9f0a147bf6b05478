-- The search for the heaviest tree, by sets of words that are merged.
-- A set goes by its leader: `rep w` is the leader of the set that w is in. The root, 0, is in no set.
use Rattle.std.specs.Prelude.{◌≡◌, ℕ, ◌≤◌, Bool, true, false, cond, ◌&&◌, [], ◌==◌}
use Rattle.weight.specs.Worth.{Worth, plus, minus, AtMost}
use Rattle.tree.specs.Chains.{Word, up, Reaches}
use Rattle.arborescence.specs.Sum.{sum_if}

-- a tree: each word has a head, on an arc that stands, and its chain of heads arrives at the root
pub record Tree (n : ℕ) (stands : ℕ → ℕ → Bool) (head : ℕ → ℕ) : Type 0 where
  pub in_line : (w : ℕ) → Word n w → head w ≤ n
  pub reaches : (w : ℕ) → Word n w → Reaches head w
  pub standing : (w : ℕ) → Word n w → stands (head w) w ≡ true

abbrev pub worth_of_heads : (ℕ → ℕ → Worth) → (ℕ → ℕ) → ℕ → Worth
worth_of_heads worth head n = sum_if (λ w. true) (λ w. worth (head w) w) n

-- ---- sets

pub record Sets (n : ℕ) (rep : ℕ → ℕ) : Type 0 where
  pub root : rep 0 ≡ 0
  pub word : (w : ℕ) → Word n w → Word n (rep w)
  pub leader : (w : ℕ) → Word n w → rep (rep w) ≡ rep w

abbrev pub leads : (ℕ → ℕ) → ℕ → Bool
leads rep w = rep w == w

pub record Leader (n : ℕ) (rep : ℕ → ℕ) (ℓ : ℕ) : Type 0 where
  pub word : Word n ℓ
  pub own : rep ℓ ≡ ℓ

-- the arc from h to d stands, and leads into the set of ℓ
pub record Into (n : ℕ) (stands : ℕ → ℕ → Bool) (rep : ℕ → ℕ) (ℓ h d : ℕ) : Type 0 where
  pub word : Word n d
  pub in_line : h ≤ n
  pub standing : stands h d ≡ true
  pub inside : rep d ≡ ℓ
  pub outside : rep h ≡ ℓ → ⊥

-- no such arc is worth more than v, with what its word may add
abbrev pub Covers : (n : ℕ) (stands : ℕ → ℕ → Bool) (worth : ℕ → ℕ → Worth) (rep : ℕ → ℕ) (add : ℕ → Worth) (ℓ : ℕ) (v : Worth) → Type 0
Covers n stands worth rep add ℓ v = (h d : ℕ) → Into n stands rep ℓ h d → AtMost (plus (worth h d) (add d)) v

-- the worth of one arc into each set, from `from ℓ` to `to ℓ`
abbrev pub arcs_worth : (n : ℕ) (worth : ℕ → ℕ → Worth) (rep : ℕ → ℕ) (add : ℕ → Worth) (from to : ℕ → ℕ) → Worth
arcs_worth n worth rep add from to = sum_if (leads rep) (λ ℓ. plus (worth (from ℓ) (to ℓ)) (add (to ℓ))) n

-- above: a tree is worth no more than its arcs into the sets, one for each, whichever
abbrev pub Opt : (n : ℕ) (stands : ℕ → ℕ → Bool) (worth : ℕ → ℕ → Worth) (rep : ℕ → ℕ) (add : ℕ → Worth) → Type 0
Opt n stands worth rep add =
    (head : ℕ → ℕ) → Tree n stands head → (c : ℕ → ℕ) → ((ℓ : ℕ) → Leader n rep ℓ → Into n stands rep ℓ (head (c ℓ)) (c ℓ)) →
    AtMost (worth_of_heads worth head n) (arcs_worth n worth rep add (λ ℓ. head (c ℓ)) c)

-- below: arcs, one into each set, by which every set arrives at the root, and that are worth `goal` at least
pub record Built (n : ℕ) (stands : ℕ → ℕ → Bool) (worth : ℕ → ℕ → Worth) (rep : ℕ → ℕ) (add : ℕ → Worth) (goal : Worth) : Type 0 where
  pub from : ℕ → ℕ
  pub to : ℕ → ℕ
  pub arc : (ℓ : ℕ) → Leader n rep ℓ → Into n stands rep ℓ (from ℓ) (to ℓ)
  pub arrives : (ℓ : ℕ) → Leader n rep ℓ → Reaches (λ i. rep (from i)) ℓ
  pub enough : AtMost goal (arcs_worth n worth rep add from to)

-- ---- a merge: the sets in S become one, led by s
abbrev pub merged : (ℕ → Bool) → ℕ → (ℕ → ℕ) → ℕ → ℕ
merged S s rep w = cond (S w) s (rep w)

abbrev pub raised : (ℕ → Bool) → ℕ → (ℕ → ℕ) → (add best : ℕ → Worth) → ℕ → Worth
raised S n rep add best d = cond (S d) (minus (plus (add d) (sum_if (λ ℓ. leads rep ℓ && S ℓ) best n)) (best (rep d))) (add d)

pub record Union (n : ℕ) (rep : ℕ → ℕ) (S : ℕ → Bool) (s : ℕ) : Type 0 where
  pub root : S 0 ≡ false
  pub closed : (w : ℕ) → Word n w → S (rep w) ≡ S w
  pub word : Word n s
  pub inside : S s ≡ true

-- the best arcs of the sets in S run in a circle
pub record Circle (n : ℕ) (stands : ℕ → ℕ → Bool) (worth : ℕ → ℕ → Worth) (rep : ℕ → ℕ) (add best : ℕ → Worth) (S : ℕ → Bool) (from to : ℕ → ℕ) : Type 0 where
  pub arc : (ℓ : ℕ) → Leader n rep ℓ → S ℓ ≡ true → Into n stands rep ℓ (from ℓ) (to ℓ)
  pub within : (ℓ : ℕ) → Leader n rep ℓ → S ℓ ≡ true → S (from ℓ) ≡ true
  pub is_best : (ℓ : ℕ) → Leader n rep ℓ → S ℓ ≡ true → AtMost (best ℓ) (plus (worth (from ℓ) (to ℓ)) (add (to ℓ)))
  pub round : (i j : ℕ) → Leader n rep i → S i ≡ true → Leader n rep j → S j ≡ true → (k : ℕ) × (up (λ ℓ. rep (from ℓ)) k i ≡ j)

-- ---- what is to show
-- where no arc leads into a set there is no tree
abbrev pub None : Type 0
None =
    (n : ℕ) (stands : ℕ → ℕ → Bool) (rep : ℕ → ℕ) (ℓ : ℕ) → Sets n rep → Leader n rep ℓ → ((h d : ℕ) → Into n stands rep ℓ h d → ⊥) →
    (head : ℕ → ℕ) → Tree n stands head → ⊥

-- ---- the whole search
-- what holds from merge to merge
pub record Good (n : ℕ) (stands : ℕ → ℕ → Bool) (worth : ℕ → ℕ → Worth) (rep : ℕ → ℕ) (add : ℕ → Worth) : Type 0 where
  pub sets : Sets n rep
  pub above : Opt n stands worth rep add
  pub below : (goal : Worth) → Built n stands worth rep add goal → Built n stands worth (λ w. w) (λ w. []) goal

abbrev pub GoodStart : Type 0
GoodStart = (n : ℕ) (stands : ℕ → ℕ → Bool) (worth : ℕ → ℕ → Worth) → Good n stands worth (λ w. w) (λ w. [])

abbrev pub GoodMerge : Type 0
GoodMerge =
    (n : ℕ) (stands : ℕ → ℕ → Bool) (worth : ℕ → ℕ → Worth) (rep : ℕ → ℕ) (add best : ℕ → Worth) (S : ℕ → Bool) (s : ℕ) (from to : ℕ → ℕ) →
    Union n rep S s → ((ℓ : ℕ) → Leader n rep ℓ → S ℓ ≡ true → Covers n stands worth rep add ℓ (best ℓ)) → Circle n stands worth rep add best S from to →
    Good n stands worth rep add → Good n stands worth (merged S s rep) (raised S n rep add best)

-- at the end the best arcs of all the sets lead to the root: then there is a tree, and none is worth more
abbrev pub BestTree : Type 0
BestTree =
    (n : ℕ) (stands : ℕ → ℕ → Bool) (worth : ℕ → ℕ → Worth) (rep : ℕ → ℕ) (add best : ℕ → Worth) (from to : ℕ → ℕ) →
    Good n stands worth rep add →
    ((ℓ : ℕ) → Leader n rep ℓ → Covers n stands worth rep add ℓ (best ℓ)) →
    ((ℓ : ℕ) → Leader n rep ℓ → Into n stands rep ℓ (from ℓ) (to ℓ)) →
    ((ℓ : ℕ) → Leader n rep ℓ → AtMost (best ℓ) (plus (worth (from ℓ) (to ℓ)) (add (to ℓ)))) →
    ((ℓ : ℕ) → Leader n rep ℓ → Reaches (λ i. rep (from i)) ℓ) →
    (head : ℕ → ℕ) × Tree n stands head × ((other : ℕ → ℕ) → Tree n stands other → AtMost (worth_of_heads worth other n) (worth_of_heads worth head n))

-- ---- for the code that does it
-- what a set outside S has found stays true when the sets in S are merged
abbrev pub Kept : Type 0
Kept =
    (n : ℕ) (stands : ℕ → ℕ → Bool) (worth : ℕ → ℕ → Worth) (rep : ℕ → ℕ) (add best : ℕ → Worth) (S : ℕ → Bool) (s : ℕ) (ℓ : ℕ) (v : Worth) →
    Sets n rep → Union n rep S s → S ℓ ≡ false →
    (Covers n stands worth rep add ℓ v → Covers n stands worth (merged S s rep) (raised S n rep add best) ℓ v)
    × ((h d : ℕ) → Into n stands rep ℓ h d → Into n stands (merged S s rep) ℓ h d × (raised S n rep add best d ≡ add d))
