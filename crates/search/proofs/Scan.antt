-- The scan for the best arc
use Rattle.std.proofs.Common.{◌≡◌, ℕ, ◌+◌, ◌-◌, ◌*◌, ◌<◌, ◌≤◌, Bool, true, false, cond, not, ◌&&◌, T, eqb, leb, ◌⊎◌, List, [], ◌∷◌, map, length, get_or, pos, negsuc, Some, None, Option, sym, refl, ap, ◌∙◌, subst, inl, inr, arith}
use Rattle.std.specs.Bool.{then_some}
use Rattle.std.specs.Option.{option_or}
use Rattle.std.proofs.lemmas.List.{get_or-map}
use Rattle.std.proofs.lemmas.Bool.{cases_lt, cases_Bool, cases_eq, both_ways, and_from, and_parts, and_right, not_from_true, not-true, eq-eqb, ne_eqb, leb-true, le-leb}
use Rattle.std.proofs.lemmas.Nat.{mul-add-lt}
use Rattle.weight.specs.Worth.{Worth, plus, at_most, AtMost}
use Rattle.weight.specs.Layers.{root_worth}
use Rattle.weight.proofs.Worths.{at_most_refl, at_most_trans, at_most_total, at_most_plus, at_most_cancel}
use Rattle.tree.specs.Chains.{Word}
use Rattle.arborescence.specs.Heads.{rooted}
use Rattle.search.specs.declared.arcs.Entering.{Entering}
use Rattle.word_set.specs.Bits.{in_set}
use Rattle.search.specs.Arcs.{BestHead, better_head, Best, better_of, NoLater, HeadArc, SetArc, with_potential}

pub element : {K : Type 0} (f : K → Worth) (xs : List K) (i : ℕ) (x : K) → i < length xs → x ≡ get_or xs i x → f x ≡ get_or (map f xs) i []
element f xs i x l e = ap f e ∙ sym (get_or-map f xs i x [] l)

pub place_lt : (n h d : ℕ) → Word n d → h ≤ n → (d - 1) * (n + 1) + h < n * (n + 1)
place_lt n h d v le = omega (arith, mul-add-lt (d - 1) (n + 1) h n (omega arith) (omega arith))

not_at_most : (a b : Worth) → at_most a b ≡ false → AtMost b a
not_at_most a b e = by (at_most_total a b)
  where
    by : AtMost a b ⊎ AtMost b a → AtMost b a
    by (inl h) = absurd (subst T e h.holds)
    by (inr h) = h

but_out : (a b : Bool) → b ≡ false → (a && not b) ≡ a
but_out true b e = ap not e
but_out false b e = refl

-- ---- the best of some heads
module _ (w : ℕ → Worth) where
  -- one head more
  head_more : (A B : ℕ → Bool) (best : Option ℕ) (from : ℕ) → B from ≡ true → ((h : ℕ) → A h ≡ true → B h ≡ true) → ((h : ℕ) → B h ≡ true → (A h ≡ true) ⊎ (h ≡ from)) → ((h : ℕ) → A h ≡ true → h ≤ from) → BestHead A w best → BestHead B w (Some (better_head w best from))
  head_more A B None from here wider split later b = (here, λ h t. by h (split h t), λ h t m. first h (split h t))
    where
      by : (h : ℕ) → (A h ≡ true) ⊎ (h ≡ from) → AtMost (w h) (w from)
      by h (inl t) = absurd (both_ways (A h) (b h) t)
      by h (inr e) = rw e (at_most_refl (w from))

      first : (h : ℕ) → (A h ≡ true) ⊎ (h ≡ from) → from ≤ h
      first h (inl t) = absurd (both_ways (A h) (b h) t)
      first h (inr e) = omega (arith, e)
  head_more A B (Some old) from here wider split later b = by (at_most (w from) (w old)) refl
    where
      each : (v : ℕ) → AtMost (w old) (w v) → AtMost (w from) (w v) → (h : ℕ) → (A h ≡ true) ⊎ (h ≡ from) → AtMost (w h) (w v)
      each v l r h (inl t) = at_most_trans _ _ (w v) (b.1 h t) l
      each v l r h (inr e) = rw e r

      old_first : (h : ℕ) → (A h ≡ true) ⊎ (h ≡ from) → AtMost (w old) (w h) → old ≤ h
      old_first h (inl t) m = b.2 h t m
      old_first h (inr e) m = omega (arith, e, later old b.0)

      new_first : at_most (w from) (w old) ≡ false → (h : ℕ) → (A h ≡ true) ⊎ (h ≡ from) → AtMost (w from) (w h) → from ≤ h
      new_first f h (inl t) m = absurd (subst T f (at_most_trans (w from) (w h) (w old) m (b.1 h t)).holds)
      new_first f h (inr e) m = omega (arith, e)

      by : (t : Bool) → at_most (w from) (w old) ≡ t → BestHead B w (Some (cond t old from))
      by true t = (wider old b.0, λ h x. each old (at_most_refl _) (record { holds = subst T (sym t) tt }) h (split h x), λ h x m. old_first h (split h x) m)
      by false t = (here, λ h x. each from (not_at_most _ _ t) (at_most_refl _) h (split h x), λ h x m. new_first t h (split h x) m)

  -- the heads that a loop has seen are those that are not left, and come before them
  abbrev pub Seen : ℕ → ℕ → Option ℕ → Type 0
  Seen heads left best =
      ((h : ℕ) → in_set left h ≡ true → in_set heads h ≡ true)
      × BestHead (λ h. in_set heads h && not (in_set left h)) w best
      × ((h l : ℕ) → (in_set heads h && not (in_set left h)) ≡ true → in_set left l ≡ true → h ≤ l)

  pub seen_none : (heads left : ℕ) → left ≡ heads → Seen heads left None
  seen_none heads left e = (
    λ h t. subst (λ (s : ℕ). in_set s h ≡ true) e t,
    λ h. ap (λ (s : ℕ). in_set heads h && not (in_set s h)) e ∙ never (in_set heads h),
    λ h l t u. absurd (both_ways (in_set heads h && not (in_set left h)) (ap (λ (s : ℕ). in_set heads h && not (in_set s h)) e ∙ never (in_set heads h)) t),
  )
    where
      never : (b : Bool) → (b && not b) ≡ false
      never true = refl
      never false = refl

  pub seen_more : (heads left left' : ℕ) (best : Option ℕ) (from : ℕ) → ((h : ℕ) → in_set left' h ≡ (in_set left h && not (eqb h from))) → in_set left from ≡ true → ((h : ℕ) → h < from → in_set left h ≡ false) → Seen heads left best → Seen heads left' (Some (better_head w best from))
  seen_more heads left left' best from is here lowest s = (
    λ h t. s.0 h (and_parts (in_set left h) (not (eqb h from)) (sym (is h) ∙ t)).0,
    head_more (λ h. in_set heads h && not (in_set left h)) (λ h. in_set heads h && not (in_set left' h)) best from
        (and_from (in_set heads from) (not (in_set left' from)) (s.0 from here) (ap not (is from ∙ and_right (in_set left from) _ (not_from_true _ (eq-eqb from from refl)))))
        (λ h t. let p = and_parts (in_set heads h) (not (in_set left h)) t in and_from (in_set heads h) (not (in_set left' h)) p.0 (ap not (is h ∙ ap (λ (b : Bool). b && not (eqb h from)) (not-true (in_set left h) p.1))))
        (λ h t. let p = and_parts (in_set heads h) (not (in_set left' h)) t in split h p.0 (not-true (in_set left' h) p.1) (cases_Bool (in_set left h)) (cases_eq h from)) (λ h t. s.2 h from t here) s.1,
    λ h l t u. let p = and_parts (in_set heads h) (not (in_set left' h)) t in order h l (split h p.0 (not-true (in_set left' h) p.1) (cases_Bool (in_set left h)) (cases_eq h from)) (and_parts (in_set left l) (not (eqb l from)) (sym (is l) ∙ u)).0,
  )
    where
      order : (h l : ℕ) → ((in_set heads h && not (in_set left h)) ≡ true) ⊎ (h ≡ from) → in_set left l ≡ true → h ≤ l
      order h l (inl t) u = s.2 h l t u
      order h l (inr e) u = by (cases_lt l from)
        where
          by : (l < from) ⊎ (from ≤ l) → h ≤ l
          by (inl lt) = absurd (both_ways (in_set left l) (lowest l lt) u)
          by (inr le) = omega (arith, e, le)

      split : (h : ℕ) → in_set heads h ≡ true → in_set left' h ≡ false → (in_set left h ≡ true) ⊎ (in_set left h ≡ false) → (h ≡ from) ⊎ (h ≡ from → ⊥) → ((in_set heads h && not (in_set left h)) ≡ true) ⊎ (h ≡ from)
      split h t f c (inl e) = inr e
      split h t f (inr l) (inr ne) = inl (and_from (in_set heads h) (not (in_set left h)) t (ap not l))
      split h t f (inl l) (inr ne) = absurd (both_ways (in_set left' h) f (is h ∙ and_from (in_set left h) (not (eqb h from)) l (ap not (ne_eqb h from ne))))

  pub seen_all : (heads left : ℕ) (best : Option ℕ) → ((h : ℕ) → in_set left h ≡ false) → Seen heads left best → BestHead (in_set heads) w best
  seen_all heads left None none s = λ h. sym (but_out (in_set heads h) (in_set left h) (none h)) ∙ s.1 h
  seen_all heads left (Some best) none s = ((and_parts (in_set heads best) (not (in_set left best)) s.1.0).0, λ h t. s.1.1 h (and_from (in_set heads h) (not (in_set left h)) t (ap not (none h))), λ h t m. s.1.2 h (and_from (in_set heads h) (not (in_set left h)) t (ap not (none h))) m)

-- ---- over the root layer a word comes before the root
front_word : (worth : ℕ → ℕ → Worth) (to b h : ℕ) → (b ≡ 0 → ⊥) → (h ≡ 0) ⊎ ((h ≡ 0 → ⊥) × AtMost (worth h to) (worth b to)) → AtMost (rooted worth h to) (rooted worth b to)
front_word worth to b h nb (inl e) = rw (eq-eqb h 0 e, ne_eqb b 0 nb) (record { holds = tt })
front_word worth to b h nb (inr p) = rw (ne_eqb h 0 p.0, ne_eqb b 0 nb) (record { holds = p.1.holds })

no_root : (x y : Worth) (p q : Bool) → p ≡ false → q ≡ true → AtMost (cond p (negsuc 0) (pos 0) ∷ x) (cond q (negsuc 0) (pos 0) ∷ y) → ⊥
no_root x y true q e t m = both_ways true e refl
no_root x y false true e t m = m.holds
no_root x y false false e t m = both_ways false refl t

no_front : (x y : Worth) (p q : Bool) → p ≡ false → q ≡ false → AtMost (cond p (negsuc 0) (pos 0) ∷ x) (cond q (negsuc 0) (pos 0) ∷ y) → AtMost x y
no_front x y true q e t m = absurd (both_ways true e refl)
no_front x y false true e t m = absurd (both_ways true t refl)
no_front x y false false e t m = record { holds = m.holds }

module _ (worth : ℕ → ℕ → Worth) (to heads root words : ℕ) (is : (h : ℕ) → in_set words h ≡ (in_set heads h && not (in_set root h))) (one : (h : ℕ) → in_set root h ≡ eqb h 0) where
  word_in : (h : ℕ) → (h ≡ 0 → ⊥) → in_set words h ≡ in_set heads h
  word_in h ne = is h ∙ but_out (in_set heads h) (in_set root h) (one h ∙ ne_eqb h 0 ne)

  head_word : (b : ℕ) → BestHead (in_set words) (λ h. worth h to) (Some b) → BestHead (in_set heads) (λ h. rooted worth h to) (Some b)
  head_word b best = (p.0, λ h t. front_word worth to b h nb (by h t (cases_eq h 0)), λ h t m. first h t m (cases_eq h 0))
    where
      p : (in_set heads b ≡ true) × (not (in_set root b) ≡ true)
      p = and_parts (in_set heads b) (not (in_set root b)) (sym (is b) ∙ best.0)

      nb : b ≡ 0 → ⊥
      nb e = both_ways (in_set root b) (not-true (in_set root b) (and_parts (in_set heads b) (not (in_set root b)) (sym (is b) ∙ best.0)).1) (one b ∙ eq-eqb b 0 e)

      first : (h : ℕ) → in_set heads h ≡ true → AtMost (rooted worth b to) (rooted worth h to) → (h ≡ 0) ⊎ (h ≡ 0 → ⊥) → b ≤ h
      first h t m (inl e) = absurd (no_root (worth b to) (worth h to) (eqb b 0) (eqb h 0) (ne_eqb b 0 nb) (eq-eqb h 0 e) m)
      first h t m (inr ne) = best.2 h (word_in h ne ∙ t) (no_front (worth b to) (worth h to) (eqb b 0) (eqb h 0) (ne_eqb b 0 nb) (ne_eqb h 0 ne) m)

      by : (h : ℕ) → in_set heads h ≡ true → (h ≡ 0) ⊎ (h ≡ 0 → ⊥) → (h ≡ 0) ⊎ ((h ≡ 0 → ⊥) × AtMost (worth h to) (worth b to))
      by h t (inl e) = inl e
      by h t (inr ne) = inr (ne, best.1 h (word_in h ne ∙ t))

  head_root : in_set heads 0 ≡ true → BestHead (in_set words) (λ h. worth h to) None → BestHead (in_set heads) (λ h. rooted worth h to) (Some 0)
  head_root zero_in none = (zero_in, λ h t. by h t (cases_eq h 0), λ h t m. omega arith)
    where
      by : (h : ℕ) → in_set heads h ≡ true → (h ≡ 0) ⊎ (h ≡ 0 → ⊥) → AtMost (rooted worth h to) (rooted worth 0 to)
      by h t (inl e) = rw e (at_most_refl (rooted worth 0 to))
      by h t (inr ne) = absurd (both_ways (in_set words h) (none h) (word_in h ne ∙ t))

  head_none : in_set heads 0 ≡ false → BestHead (in_set words) (λ h. worth h to) None → BestHead (in_set heads) (λ h. rooted worth h to) None
  head_none zero-out none = λ h. by h (cases_eq h 0)
    where
      by : (h : ℕ) → (h ≡ 0) ⊎ (h ≡ 0 → ⊥) → in_set heads h ≡ false
      by h (inl e) = rw e zero-out
      by h (inr ne) = sym (word_in h ne) ∙ none h

  -- the best of the words, or else the root where it is one of the heads
  pub head_either : (best : Option ℕ) → BestHead (in_set words) (λ h. worth h to) best → BestHead (in_set heads) (λ h. rooted worth h to) (option_or best (then_some (in_set heads 0) 0))
  head_either (Some b) best = head_word b best
  head_either None best = by (in_set heads 0) refl
    where
      by : (t : Bool) → in_set heads 0 ≡ t → BestHead (in_set heads) (λ h. rooted worth h to) (then_some t 0)
      by true e = head_root e best
      by false e = head_none e best

-- ---- the best of some arcs
module _ {K : Type 0} (f : K → Worth) (w : ℕ → ℕ → Worth) where
  -- another name for the same arcs
  pub best_same : (A B : ℕ → ℕ → Type 0) (o : Option (Entering K)) → ((h d : ℕ) → A h d → B h d) → ((h d : ℕ) → B h d → A h d) → Best f A w o → Best f B w o
  best_same A B None to back b = λ h d q. b h d (back h d q)
  best_same A B (Some e) to back b = (to _ _ b.0, b.1, λ h d q. b.2 h d (back h d q), λ h d q m. b.3 h d (back h d q) m)

  -- the better of two is the best of both sorts, where the first sort comes before the second
  pub best_join : (A B C : ℕ → ℕ → Type 0) (a b : Option (Entering K)) → ((h d : ℕ) → A h d → C h d) → ((h d : ℕ) → B h d → C h d) → ((h d : ℕ) → C h d → A h d ⊎ B h d) → ((h d h' d' : ℕ) → A h d → B h' d' → NoLater h d h' d') → Best f A w a → Best f B w b → Best f C w (better_of f a b)
  best_join A B C None b to₁ to₂ either order p q = best_same B C b to₂ (λ h d x. by h d (either h d x)) q
    where
      by : (h d : ℕ) → A h d ⊎ B h d → B h d
      by h d (inl x) = absurd (p h d x)
      by h d (inr y) = y
  best_join A B C (Some a) None to₁ to₂ either order p q = best_same A C (Some a) to₁ (λ h d x. by h d (either h d x)) p
    where
      by : (h d : ℕ) → A h d ⊎ B h d → A h d
      by h d (inl x) = x
      by h d (inr y) = absurd (q h d y)
  best_join A B C (Some a) (Some b) to₁ to₂ either order p q = by (at_most (root_worth f b.value) (root_worth f a.value)) refl
    where
      each : (v : Worth) → AtMost (root_worth f a.value) v → AtMost (root_worth f b.value) v → (h d : ℕ) → A h d ⊎ B h d → AtMost (w h d) v
      each v l r h d (inl x) = at_most_trans _ _ v (p.2 h d x) l
      each v l r h d (inr y) = at_most_trans _ _ v (q.2 h d y) r

      kept : (h d : ℕ) → A h d ⊎ B h d → AtMost (root_worth f a.value) (w h d) → NoLater a.from a.to h d
      kept h d (inl x) m = p.3 h d x m
      kept h d (inr y) m = order a.from a.to h d p.0 y

      new : at_most (root_worth f b.value) (root_worth f a.value) ≡ false → (h d : ℕ) → A h d ⊎ B h d → AtMost (root_worth f b.value) (w h d) → NoLater b.from b.to h d
      new t h d (inl x) m = absurd (subst T t (at_most_trans (root_worth f b.value) (w h d) (root_worth f a.value) m (p.2 h d x)).holds)
      new t h d (inr y) m = q.3 h d y m

      by : (t : Bool) → at_most (root_worth f b.value) (root_worth f a.value) ≡ t → Best f C w (cond t (Some a) (Some b))
      by true t = (to₁ _ _ p.0, p.1, λ h d x. each _ (at_most_refl _) (record { holds = subst T (sym t) tt }) h d (either h d x), λ h d x m. kept h d (either h d x) m)
      by false t = (to₂ _ _ q.0, q.1, λ h d x. each _ (not_at_most _ _ t) (at_most_refl _) h d (either h d x), λ h d x m. new t h d (either h d x) m)

-- the potential of the word is the same for all its arcs, so the best head stays the best
pub best_arc : {K : Type 0} (f : K → Worth) (worth : ℕ → ℕ → Worth) (add : ℕ → Worth) (heads to : ℕ) (e : Entering K) → e.to ≡ to → root_worth f e.value ≡ plus (worth e.from to) (add to) → BestHead (in_set heads) (λ h. worth h to) (Some e.from) → Best f (HeadArc heads to) (with_potential worth add) (Some e)
best_arc f worth add heads to e is value best = (
  record { is = is; standing = best.0 },
  value ∙ ap (λ (d : ℕ). plus (worth e.from d) (add d)) (sym is),
  λ h d a. rw (value, a.is) (at_most_plus (worth h to) (worth e.from to) (add to) (best.1 h a.standing)),
  λ h d a m. inr (is ∙ sym a.is, best.2 h a.standing (at_most_cancel (worth e.from to) (worth h to) (add to) (rw (value, a.is) at m))),
)

module _ {K : Type 0} (f : K → Worth) (w : ℕ → ℕ → Worth) (n : ℕ) (stands : ℕ → ℕ → Bool) (inside : ℕ) where
  at_d : (k h d : ℕ) → SetArc n (k + 1) stands inside h d → SetArc n k stands inside h d ⊎ (d ≡ k)
  at_d k h d a = by (cases_lt d k)
    where
      by : (d < k) ⊎ (k ≤ d) → SetArc n k stands inside h d ⊎ (d ≡ k)
      by (inl l) = inl (record { word = a.word; before = l; in_line = a.in_line; standing = a.standing; within = a.within; outside = a.outside })
      by (inr l) = inr (omega (arith, a.before))

  more : (k h d : ℕ) → SetArc n k stands inside h d → SetArc n (k + 1) stands inside h d
  more k h d a = record { word = a.word; before = omega (arith, a.before); in_line = a.in_line; standing = a.standing; within = a.within; outside = a.outside }

  pub set_skip : (k : ℕ) (best : Option (Entering K)) → in_set inside k ≡ false → Best f (SetArc n k stands inside) w best → Best f (SetArc n (k + 1) stands inside) w best
  set_skip k best no_word b = best_same f w (SetArc n k stands inside) (SetArc n (k + 1) stands inside) best (more k) (λ h d a. by h d a (at_d k h d a)) b
    where
      by : (h d : ℕ) → SetArc n (k + 1) stands inside h d → SetArc n k stands inside h d ⊎ (d ≡ k) → SetArc n k stands inside h d
      by h d a (inl x) = x
      by h d a (inr e) = absurd (both_ways (in_set inside k) no_word (subst (λ (x : ℕ). in_set inside x ≡ true) e a.within))

  -- the heads of the word k from outside the set
  module _ (k heads free : ℕ) (looked : (h : ℕ) → in_set heads h ≡ (leb h n && stands h k)) (is : (h : ℕ) → in_set free h ≡ (in_set heads h && not (in_set inside h))) where
    pub free_arc : (h : ℕ) → in_set free h ≡ true → (h ≤ n) × (stands h k ≡ true) × (in_set inside h ≡ false)
    free_arc h t =
        let p = and_parts (in_set heads h) (not (in_set inside h)) (sym (is h) ∙ t) in
        let q = and_parts (leb h n) (stands h k) (sym (looked h) ∙ p.0) in
        (leb-true h n q.0, q.1, not-true (in_set inside h) p.1)

    pub arc_free : (h : ℕ) → h ≤ n → stands h k ≡ true → in_set inside h ≡ false → in_set free h ≡ true
    arc_free h le t f = is h ∙ and_from (in_set heads h) (not (in_set inside h)) (looked h ∙ and_from (leb h n) (stands h k) (le-leb h n le) t) (ap not f)

    pub set_take : (best next : Option (Entering K)) → Word n k → in_set inside k ≡ true → Best f (HeadArc free k) w next → Best f (SetArc n k stands inside) w best → Best f (SetArc n (k + 1) stands inside) w (better_of f best next)
    set_take best next v yes-word b old =
        best_join f w (SetArc n k stands inside) (HeadArc free k) (SetArc n (k + 1) stands inside) best next (more k)
        (λ h d a. let q = free_arc h a.standing in subst (λ (x : ℕ). SetArc n (k + 1) stands inside h x) (sym a.is) (record { word = v; before = omega arith; in_line = q.0; standing = q.1; within = yes-word; outside = q.2 }))
        (λ h d a. by h d a (at_d k h d a)) (λ h d h' d' a b. inl (omega (arith, a.before, b.is))) old b
      where
        by : (h d : ℕ) → SetArc n (k + 1) stands inside h d → SetArc n k stands inside h d ⊎ (d ≡ k) → SetArc n k stands inside h d ⊎ HeadArc free k h d
        by h d a (inl x) = inl x
        by h d a (inr e) = inr (record { is = e; standing = arc_free h a.in_line (subst (λ (x : ℕ). stands h x ≡ true) e a.standing) a.outside })
