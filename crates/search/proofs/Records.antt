use Rattle.std.proofs.Common.{◌≡◌, ℕ, zero, suc, ◌+◌, ◌<◌, ◌≤◌, Bool, true, false, cond, ◌||◌, eqb, ◌⊎◌, List, [], ◌∷◌, ◌++◌, map, reverse, find, Some, Option, MatchOption, sym, refl, ap, ◌∙◌, subst, inl, inr, arith}
use Rattle.std.proofs.lemmas.List.{reverse-append}
use Rattle.std.proofs.lemmas.Bool.{cases_lt, cases_Bool, both_ways, or_left, or_right, or_cases, eqb-true, eq-eqb}
use Rattle.weight.specs.Worth.{Worth}
use Rattle.tree.specs.Chains.{up, Reaches}
use Rattle.tree.proofs.Chains.{up_plus}
use Rattle.search.specs.declared.family.Node.{Node}
use Rattle.word_set.specs.Bits.{in_set}
use Rattle.search.specs.Family.{Group, entry, rep_of, from_of, best_of}
use Rattle.search.specs.State.{view}

-- the newest of the sets in front of the others
pub newest : {K : Type 0} (f : K → Worth) (xs rest : List (Node K)) (x : Node K) → xs ≡ rest ++ (x ∷ []) → map (view f) (reverse xs) ≡ view f x ∷ map (view f) (reverse rest)
newest f xs rest x e = ap (λ ys. map (view f) (reverse ys)) e ∙ ap (map (view f)) (reverse-append rest (x ∷ []))

-- the first set that the word is in, or the word alone
pub entry_found : {K : Type 0} (f : K → Worth) (base : ℕ → Group) (w : ℕ) (xs : List (Node K)) (o : Option (Node K)) → o ≡ find (λ x. in_set x.members w) xs → MatchOption o (base w ≡ entry base (map (view f) xs) w) (λ x. view f x ≡ entry base (map (view f) xs) w)
entry_found f base w [] o e = rw e refl
entry_found f base w (x ∷ xs) o e = by (in_set x.members w) e (entry_found f base w xs o)
  where
    by : (b : Bool) → o ≡ cond b (Some x) (find (λ x. in_set x.members w) xs) → (o ≡ find (λ x. in_set x.members w) xs → MatchOption o (base w ≡ entry base (map (view f) xs) w) (λ y. view f y ≡ entry base (map (view f) xs) w)) → MatchOption o (base w ≡ cond b (view f x) (entry base (map (view f) xs) w)) (λ y. view f y ≡ cond b (view f x) (entry base (map (view f) xs) w))
    by true e more = rw e refl
    by false e more = more e

cond_ap : {A B : Type 0} (h : A → B) (b : Bool) (x y : A) → h (cond b x y) ≡ cond b (h x) (h y)
cond_ap h true x y = refl
cond_ap h false x y = refl

module _ (base : ℕ → Group) where
  pub entry_from : (ms : List Group) (w : ℕ) → (entry base ms w).from ≡ from_of base ms w
  entry_from [] w = refl
  entry_from (m ∷ ms) w = cond_ap (λ (g : Group). g.from) (in_set m.members w) m (entry base ms w) ∙ ap (cond (in_set m.members w) m.from) (entry_from ms w)

  pub entry_value : (ms : List Group) (w : ℕ) → (entry base ms w).value ≡ best_of base ms w
  entry_value [] w = refl
  entry_value (m ∷ ms) w = cond_ap (λ (g : Group). g.value) (in_set m.members w) m (entry base ms w) ∙ ap (cond (in_set m.members w) m.value) (entry_value ms w)

  pub entry_to : (n : ℕ) → ((w : ℕ) → w ≤ n → (base w).to ≡ w) → (ms : List Group) (w : ℕ) → w ≤ n → (entry base ms w).to ≡ rep_of ms w
  entry_to n own [] w le = own w le
  entry_to n own (m ∷ ms) w le = cond_ap (λ (g : Group). g.to) (in_set m.members w) m (entry base ms w) ∙ ap (cond (in_set m.members w) m.to) (entry_to n own ms w le)

pub up_last : (h : ℕ → ℕ) (k w : ℕ) → up h (suc k) w ≡ h (up h k w)
up_last h zero w = refl
up_last h (suc k) w = up_last h k (h w)

-- ---- the walk: each word that was seen leads to the one at hand
abbrev pub Leads : (ℕ → ℕ) → ℕ → ℕ → Type 0
Leads h seen w = (x : ℕ) → in_set seen x ≡ true → (k : ℕ) × (up h (suc k) x ≡ w)

pub leads_more : (h : ℕ → ℕ) (seen bit seen' w w' : ℕ) → ((v : ℕ) → in_set seen' v ≡ (in_set seen v || in_set bit v)) → ((v : ℕ) → in_set bit v ≡ eqb v w) → w' ≡ h w → Leads h seen w → Leads h seen' w'
leads_more h seen bit seen' w w' is one step leads x t = by (cases_Bool (in_set seen x))
  where
    by : (in_set seen x ≡ true) ⊎ (in_set seen x ≡ false) → (k : ℕ) × (up h (suc k) x ≡ w')
    by (inl s) = let l = leads x s in (suc l.0, up_last h (suc l.0) x ∙ (ap h l.1 ∙ sym step))
    by (inr s) =
        let e : eqb x w ≡ true = sym (one x) ∙ (sym (ap (λ (b : Bool). b || in_set bit x) s) ∙ (sym (is x) ∙ t)) in
        (0, ap h (eqb-true x w e) ∙ sym step)

-- a step of the walk keeps the start in sight
pub start_seen : (seen bit seen' w start w' : ℕ) → ((v : ℕ) → in_set seen' v ≡ (in_set seen v || in_set bit v)) → ((v : ℕ) → in_set bit v ≡ eqb v w) → (w ≡ start) ⊎ (in_set seen start ≡ true) → (w' ≡ start) ⊎ (in_set seen' start ≡ true)
start_seen seen bit seen' w start w' is one (inl e) = inr (is start ∙ or_right (in_set seen start) (in_set bit start) (one start ∙ eq-eqb start w (sym e)))
start_seen seen bit seen' w start w' is one (inr t) = inr (is start ∙ or_left (in_set seen start) (in_set bit start) t)

pub not_root : (fine w : ℕ) → in_set fine 0 ≡ true → in_set fine w ≡ false → 1 ≤ w
not_root fine zero t f = absurd (both_ways (in_set fine 0) f t)
not_root fine (suc w) t f = omega arith

pub walked_start : (fine seen w start : ℕ) → in_set fine w ≡ true → (w ≡ start) ⊎ (in_set seen start ≡ true) → (in_set fine start || in_set seen start) ≡ true
walked_start fine seen w start t (inl e) = or_left (in_set fine start) (in_set seen start) (subst (λ (x : ℕ). in_set fine x ≡ true) e t)
walked_start fine seen w start t (inr s) = or_right (in_set fine start) (in_set seen start) s

-- ---- what is fine leads to the root
abbrev pub Fine : (ℕ → ℕ) → ℕ → Type 0
Fine h fine = (x : ℕ) → in_set fine x ≡ true → Reaches h x

pub fine_more : (h : ℕ → ℕ) (fine seen fine' : ℕ) → ((v : ℕ) → in_set fine' v ≡ (in_set fine v || in_set seen v)) → ((x : ℕ) → in_set seen x ≡ true → (k : ℕ) × (in_set fine (up h k x) ≡ true)) → Fine h fine → Fine h fine'
fine_more h fine seen fine' is leads good x t = by (or_cases (in_set fine x) (in_set seen x) (sym (is x) ∙ t))
  where
    by : (in_set fine x ≡ true) ⊎ (in_set seen x ≡ true) → Reaches h x
    by (inl a) = good x a
    by (inr b) = let l = leads x b in let r = good (up h l.0 x) l.1 in (l.0 + r.0, up_plus h l.0 r.0 x ∙ r.1)

pub fine_start : (h : ℕ → ℕ) (fine : ℕ) → ((v : ℕ) → in_set fine v ≡ eqb v 0) → Fine h fine × (in_set fine 0 ≡ true) × ((v : ℕ) → 1 ≤ v → v < 1 → in_set fine v ≡ true)
fine_start h fine is = (λ x t. (0, eqb-true x 0 (sym (is x) ∙ t)), is 0, λ v a b. absurd (omega arith))

pub starts_more : (fine seen fine' start : ℕ) → ((v : ℕ) → in_set fine' v ≡ (in_set fine v || in_set seen v)) → (in_set fine start || in_set seen start) ≡ true → ((v : ℕ) → 1 ≤ v → v < start → in_set fine v ≡ true) → (v : ℕ) → 1 ≤ v → v < start + 1 → in_set fine' v ≡ true
starts_more fine seen fine' start is here old v one lt = by (cases_lt v start)
  where
    by : (v < start) ⊎ (start ≤ v) → in_set fine' v ≡ true
    by (inl l) = is v ∙ or_left (in_set fine v) (in_set seen v) (old v one l)
    by (inr l) = let e : v ≡ start = omega arith in subst (λ (x : ℕ). in_set fine' x ≡ true) (sym e) (is start ∙ here)
