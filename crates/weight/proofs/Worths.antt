-- The laws of worths: an ordered abelian group, and the bounds of its sums
use Rattle.std.proofs.Common.{◌≡◌, ℕ, zero, suc, ◌+◌, ◌<◌, ◌≤◌, Bool, true, false, cond, not, T, ◌⊎◌, [], ◌∷◌, length, get_or, ℤ, pos, ◌+ℤ◌, ◌-ℤ◌, neg_ℤ, ◌<ℤ◌, Ordering, Less, Equal, Greater, sym, refl, ap, ◌∙◌, subst, inl, inr, arith}
use lib.IntN.{+ℤ_comm, +ℤ_assoc}
use Rattle.std.specs.Cmp.{IsTotalOrder, both_ways}
use Rattle.std.specs.Ordering.{ordering_reverse}
use Rattle.std.proofs.lemmas.Int.{ints}
use Rattle.weight.specs.Worth.{Worth, zeros, plus, minus, leads, at_most, AtMost, Outweighs, order, Compared, Within, WorthLaws, OrderLaws, BoundLaws}

-- ---- one place
pub leads_out : (x y : ℤ) (r : Bool) → T (leads x y r) → (x <ℤ y) ⊎ ((x ≡ y) × T r)
leads_out x y r t = grind (arith, ints)

leads_lt : (x y : ℤ) (r : Bool) → x <ℤ y → T (leads x y r)
leads_lt x y r h = grind (arith, ints)

leads_eq : (x y : ℤ) (r : Bool) → x ≡ y → T r → T (leads x y r)
leads_eq x y r e t = grind (arith, ints)

-- ---- the sum
pub plus_comm : (a b : Worth) → plus a b ≡ plus b a
plus_comm [] [] = refl
plus_comm [] (y ∷ ys) = refl
plus_comm (x ∷ xs) [] = refl
plus_comm (x ∷ xs) (y ∷ ys) = cc (+ℤ_comm x y, plus_comm xs ys)

pub plus_assoc : (a b c : Worth) → plus (plus a b) c ≡ plus a (plus b c)
plus_assoc [] b c = refl
plus_assoc (x ∷ xs) [] c = refl
plus_assoc (x ∷ xs) (y ∷ ys) [] = refl
plus_assoc (x ∷ xs) (y ∷ ys) (z ∷ zs) = cc (+ℤ_assoc x y z, plus_assoc xs ys zs)

pub plus_left_comm : (a b c : Worth) → plus a (plus b c) ≡ plus b (plus a c)
plus_left_comm a b c = sym (plus_assoc a b c) ∙ (ap (λ (v : Worth). plus v c) (plus_comm a b) ∙ plus_assoc b a c)

pub plus_none : (a : Worth) → plus a [] ≡ a
plus_none [] = refl
plus_none (x ∷ xs) = refl

pub minus_plus : (a b : Worth) → length a ≡ length b → minus (plus a b) b ≡ a
minus_plus [] [] e = refl
minus_plus [] (y ∷ ys) e = absurd (omega arith)
minus_plus (x ∷ xs) [] e = absurd (omega arith)
minus_plus (x ∷ xs) (y ∷ ys) e =
    let p : x +ℤ y -ℤ y ≡ x = omega (arith, ints) in
    cc (minus_plus xs ys (omega arith))

pub plus_minus : (a b : Worth) → length a ≡ length b → plus (minus a b) b ≡ a
plus_minus [] [] e = refl
plus_minus [] (y ∷ ys) e = absurd (omega arith)
plus_minus (x ∷ xs) [] e = absurd (omega arith)
plus_minus (x ∷ xs) (y ∷ ys) e =
    let p : x -ℤ y +ℤ y ≡ x = omega (arith, ints) in
    cc (plus_minus xs ys (omega arith))

-- ---- the order
reflT : (a : Worth) → T (at_most a a)
reflT [] = tt
reflT (x ∷ xs) = leads_eq x x (at_most xs xs) refl (reflT xs)

pub at_most_refl : (a : Worth) → AtMost a a
at_most_refl a = record { holds = reflT a }

leads_trans : (x y z : ℤ) (q r s : Bool) → (T q → T r → T s) → T (leads x y q) → T (leads y z r) → T (leads x z s)
leads_trans x y z q r s step h k = by (leads_out x y q h) (leads_out y z r k)
  where
    by : (x <ℤ y) ⊎ ((x ≡ y) × T q) → (y <ℤ z) ⊎ ((y ≡ z) × T r) → T (leads x z s)
    by (inl a) (inl b) = leads_lt x z s (omega (arith, ints))
    by (inl a) (inr b) = leads_lt x z s (omega (arith, ints))
    by (inr a) (inl b) = leads_lt x z s (omega (arith, ints))
    by (inr a) (inr b) = leads_eq x z s (a.0 ∙ b.0) (step a.1 b.1)

transT : (a b c : Worth) → T (at_most a b) → T (at_most b c) → T (at_most a c)
transT [] [] [] h k = tt
transT [] [] (z ∷ zs) h k = k
transT [] (y ∷ ys) [] h k = tt
transT [] (y ∷ ys) (z ∷ zs) h k = leads_trans (pos 0) y z _ _ _ (transT [] ys zs) h k
transT (x ∷ xs) [] [] h k = h
transT (x ∷ xs) [] (z ∷ zs) h k = leads_trans x (pos 0) z _ _ _ (transT xs [] zs) h k
transT (x ∷ xs) (y ∷ ys) [] h k = leads_trans x y (pos 0) _ _ _ (transT xs ys []) h k
transT (x ∷ xs) (y ∷ ys) (z ∷ zs) h k = leads_trans x y z _ _ _ (transT xs ys zs) h k

pub at_most_trans : (a b c : Worth) → AtMost a b → AtMost b c → AtMost a c
at_most_trans a b c h k = record { holds = transT a b c h.holds k.holds }

-- one of the two ways
leads_total : (x y : ℤ) (q r : Bool) → T q ⊎ T r → T (leads x y q) ⊎ T (leads y x r)
leads_total x y q r h = grind (arith, ints)

totalT : (a b : Worth) → T (at_most a b) ⊎ T (at_most b a)
totalT [] [] = inl tt
totalT [] (y ∷ ys) = leads_total (pos 0) y _ _ (totalT [] ys)
totalT (x ∷ xs) [] = leads_total x (pos 0) _ _ (totalT xs [])
totalT (x ∷ xs) (y ∷ ys) = leads_total x y _ _ (totalT xs ys)

pub at_most_total : (a b : Worth) → AtMost a b ⊎ AtMost b a
at_most_total a b = elim (totalT a b) [ inl h ↦ inl (record { holds = h }) | inr h ↦ inr (record { holds = h }) ]

leads_anti : (x y : ℤ) (q r : Bool) → T (leads x y q) → T (leads y x r) → (x ≡ y) × T q × T r
leads_anti x y q r h k = by (leads_out x y q h) (leads_out y x r k)
  where
    by : (x <ℤ y) ⊎ ((x ≡ y) × T q) → (y <ℤ x) ⊎ ((y ≡ x) × T r) → (x ≡ y) × T q × T r
    by (inl a) (inl b) = absurd (omega (arith, ints))
    by (inl a) (inr b) = absurd (omega (arith, ints))
    by (inr a) (inl b) = absurd (omega (arith, ints))
    by (inr a) (inr b) = (a.0, a.1, b.1)

antiT : (a b : Worth) → length a ≡ length b → T (at_most a b) → T (at_most b a) → a ≡ b
antiT [] [] e h k = refl
antiT [] (y ∷ ys) e h k = absurd (omega arith)
antiT (x ∷ xs) [] e h k = absurd (omega arith)
antiT (x ∷ xs) (y ∷ ys) e h k =
    let p = leads_anti x y _ _ h k in
    cc (p.0, antiT xs ys (omega arith) p.1 p.2)

pub at_most_antisym : (a b : Worth) → length a ≡ length b → AtMost a b → AtMost b a → a ≡ b
at_most_antisym a b e h k = antiT a b e h.holds k.holds

-- ---- the order and the sum
leads_plus : (x y x' y' : ℤ) (q r : Bool) → x' -ℤ x ≡ y' -ℤ y → (T q → T r) → T (leads x y q) → T (leads x' y' r)
leads_plus x y x' y' q r e step h = by (leads_out x y q h)
  where
    by : (x <ℤ y) ⊎ ((x ≡ y) × T q) → T (leads x' y' r)
    by (inl a) = leads_lt x' y' r (omega (arith, ints))
    by (inr a) = leads_eq x' y' r (omega (arith, ints)) (step a.1)

plusT : (a b c : Worth) → T (at_most a b) → T (at_most (plus a c) (plus b c))
plusT a b [] h = subst T (cc (plus_none a, plus_none b)) h
plusT [] [] (z ∷ zs) h = reflT (z ∷ zs)
plusT [] (y ∷ ys) (z ∷ zs) h = leads_plus (pos 0) y z (y +ℤ z) _ _ (omega (arith, ints)) (plusT [] ys zs) h
plusT (x ∷ xs) [] (z ∷ zs) h = leads_plus x (pos 0) (x +ℤ z) z _ _ (omega (arith, ints)) (plusT xs [] zs) h
plusT (x ∷ xs) (y ∷ ys) (z ∷ zs) h = leads_plus x y (x +ℤ z) (y +ℤ z) _ _ (omega (arith, ints)) (plusT xs ys zs) h

pub at_most_plus : (a b c : Worth) → AtMost a b → AtMost (plus a c) (plus b c)
at_most_plus a b c h = record { holds = plusT a b c h.holds }

pub at_most_plus_both : (a b c d : Worth) → AtMost a b → AtMost c d → AtMost (plus a c) (plus b d)
at_most_plus_both a b c d h k =
    let k' : AtMost (plus b c) (plus b d) = rw (plus_comm b c, plus_comm b d) (at_most_plus c d b k) in
    at_most_trans (plus a c) (plus b c) (plus b d) (at_most_plus a b c h) k'

cancelT : (a b c : Worth) → T (at_most (plus a c) (plus b c)) → T (at_most a b)
cancelT a b [] h = subst T (cc (plus_none a, plus_none b)) h
cancelT [] [] (z ∷ zs) h = tt
cancelT [] (y ∷ ys) (z ∷ zs) h = leads_plus z (y +ℤ z) (pos 0) y _ _ (omega (arith, ints)) (cancelT [] ys zs) h
cancelT (x ∷ xs) [] (z ∷ zs) h = leads_plus (x +ℤ z) z x (pos 0) _ _ (omega (arith, ints)) (cancelT xs [] zs) h
cancelT (x ∷ xs) (y ∷ ys) (z ∷ zs) h = leads_plus (x +ℤ z) (y +ℤ z) x y _ _ (omega (arith, ints)) (cancelT xs ys zs) h

pub at_most_cancel : (a b c : Worth) → AtMost (plus a c) (plus b c) → AtMost a b
at_most_cancel a b c h = record { holds = cancelT a b c h.holds }

-- a difference, at any lengths: a − b + b is as great as a
downT : (a b : Worth) → T (at_most (plus (minus a b) b) a)
downT [] [] = tt
downT [] (y ∷ ys) = leads_eq (neg_ℤ y +ℤ y) (pos 0) _ (omega (arith, ints)) (downT [] ys)
downT (x ∷ xs) [] = reflT (x ∷ xs)
downT (x ∷ xs) (y ∷ ys) = leads_eq (x -ℤ y +ℤ y) x _ (omega (arith, ints)) (downT xs ys)

pub minus_plus_under : (a b : Worth) → AtMost (plus (minus a b) b) a
minus_plus_under a b = record { holds = downT a b }

up_t : (a b : Worth) → T (at_most a (plus (minus a b) b))
up_t [] [] = tt
up_t [] (y ∷ ys) = leads_eq (pos 0) (neg_ℤ y +ℤ y) _ (omega (arith, ints)) (up_t [] ys)
up_t (x ∷ xs) [] = reflT (x ∷ xs)
up_t (x ∷ xs) (y ∷ ys) = leads_eq x (x -ℤ y +ℤ y) _ (omega (arith, ints)) (up_t xs ys)

pub minus_plus_over : (a b : Worth) → AtMost a (plus (minus a b) b)
minus_plus_over a b = record { holds = up_t a b }

-- ---- lengths and bounds
pub length_plus : (a b : Worth) → length a ≡ length b → length (plus a b) ≡ length a
length_plus [] [] e = refl
length_plus [] (y ∷ ys) e = absurd (omega arith)
length_plus (x ∷ xs) [] e = refl
length_plus (x ∷ xs) (y ∷ ys) e = omega (arith, length_plus xs ys (omega arith))

pub length_minus : (a b : Worth) → length a ≡ length b → length (minus a b) ≡ length a
length_minus [] [] e = refl
length_minus [] (y ∷ ys) e = absurd (omega arith)
length_minus (x ∷ xs) [] e = refl
length_minus (x ∷ xs) (y ∷ ys) e = omega (arith, length_minus xs ys (omega arith))

pub within_more : (m k : ℕ) (a : Worth) → m ≤ k → Within m a → Within k a
within_more m k [] h w = tt
within_more m k (x ∷ xs) h w = (omega (arith, ints), omega (arith, ints), within_more m k xs h w.2)

pub within_plus : (m k : ℕ) (a b : Worth) → Within m a → Within k b → Within (m + k) (plus a b)
within_plus m k [] b v w = within_more k (m + k) b (omega arith) w
within_plus m k (x ∷ xs) [] v w = within_more m (m + k) (x ∷ xs) (omega arith) v
within_plus m k (x ∷ xs) (y ∷ ys) v w =
    (omega (arith, ints), omega (arith, ints), within_plus m k xs ys v.2 w.2)

pub within_minus : (m k : ℕ) (a b : Worth) → Within m a → Within k b → Within (m + k) (minus a b)
within_minus m k [] [] v w = tt
within_minus m k [] (y ∷ ys) v w = (omega (arith, ints), omega (arith, ints), within_minus m k [] ys tt w.2)
within_minus m k (x ∷ xs) [] v w = within_more m (m + k) (x ∷ xs) (omega arith) v
within_minus m k (x ∷ xs) (y ∷ ys) v w =
    (omega (arith, ints), omega (arith, ints), within_minus m k xs ys v.2 w.2)

-- two worths that are as great as one another have the same bounds
likeT : (m : ℕ) (a b : Worth) → T (at_most a b) → T (at_most b a) → Within m a → Within m b
likeT m [] [] h k w = tt
likeT m [] (y ∷ ys) h k w =
    let p = leads_anti (pos 0) y _ _ h k in
    let e : pos 0 ≡ y = p.0 in
    (omega (arith, ints), omega (arith, ints), likeT m [] ys p.1 p.2 tt)
likeT m (x ∷ xs) [] h k w = tt
likeT m (x ∷ xs) (y ∷ ys) h k w =
    let p = leads_anti x y _ _ h k in
    let e : x ≡ y = p.0 in
    (omega (arith, ints), omega (arith, ints), likeT m xs ys p.1 p.2 w.2)

pub within_like : (m : ℕ) (a b : Worth) → AtMost a b → AtMost b a → Within m a → Within m b
within_like m a b h k w = likeT m a b h.holds k.holds w

pub plus_zeros : (a : Worth) (p : ℕ) → length a ≡ p → plus a (zeros p) ≡ a
plus_zeros [] zero e = refl
plus_zeros [] (suc p) e = absurd (omega arith)
plus_zeros (x ∷ xs) zero e = absurd (omega arith)
plus_zeros (x ∷ xs) (suc p) e =
    let z : x +ℤ pos 0 ≡ x = omega (arith, ints) in
    cc (plus_zeros xs p (omega arith))

pub within_zeros : (m p : ℕ) → Within m (zeros p)
within_zeros m zero = tt
within_zeros m (suc p) = (omega (arith, ints), omega (arith, ints), within_zeros m p)

pub length_zeros : (p : ℕ) → length (zeros p) ≡ p
length_zeros zero = refl
length_zeros (suc p) = ap suc (length_zeros p)

-- ---- to outweigh
-- at one place: what `leads` rules out
leads_not_over : (x y : ℤ) (r : Bool) → T (leads x y r) → y <ℤ x → ⊥
leads_not_over x y r t h = grind (arith, ints)

leads_rest : (x y : ℤ) (r : Bool) → T (leads x y r) → x ≡ y → T r
leads_rest x y r t e = grind (arith, ints)

leads_fails : (x y : ℤ) (r : Bool) → T (not (leads x y r)) → (y <ℤ x) ⊎ ((x ≡ y) × T (not r))
leads_fails x y r t = grind (arith, ints)

overT : (a b : Worth) (k : ℕ) → get_or b k (pos 0) <ℤ get_or a k (pos 0) → ((j : ℕ) → j < k → get_or a j (pos 0) ≡ get_or b j (pos 0)) → T (at_most a b) → ⊥
overT [] [] k g s h = omega (arith, ints)
overT [] (y ∷ ys) zero g s h = leads_not_over (pos 0) y _ h g
overT [] (y ∷ ys) (suc k) g s h =
    overT [] ys k g (λ j l. s (suc j) (omega arith)) (leads_rest (pos 0) y _ h (s 0 (omega arith)))
overT (x ∷ xs) [] zero g s h = leads_not_over x (pos 0) _ h g
overT (x ∷ xs) [] (suc k) g s h =
    overT xs [] k g (λ j l. s (suc j) (omega arith)) (leads_rest x (pos 0) _ h (s 0 (omega arith)))
overT (x ∷ xs) (y ∷ ys) zero g s h = leads_not_over x y _ h g
overT (x ∷ xs) (y ∷ ys) (suc k) g s h =
    overT xs ys k g (λ j l. s (suc j) (omega arith)) (leads_rest x y _ h (s 0 (omega arith)))

pub outweighs_not : (a b : Worth) → Outweighs a b → AtMost a b → ⊥
outweighs_not a b o h = overT a b o.place o.greater o.same_before h.holds

-- by the first places x and y of a and b, and the rests of both
step : (a b as' bs' : Worth) (x y : ℤ) → get_or a 0 (pos 0) ≡ x → get_or b 0 (pos 0) ≡ y → ((k : ℕ) → get_or a (suc k) (pos 0) ≡ get_or as' k (pos 0)) → ((k : ℕ) → get_or b (suc k) (pos 0) ≡ get_or bs' k (pos 0)) → (y <ℤ x) ⊎ ((x ≡ y) × Outweighs as' bs') → Outweighs a b
step a b as' bs' x y p q u v (inl l) =
    record { place = 0; greater = rw (p, q) l; same_before = λ k h. absurd (omega arith) }
step a b as' bs' x y p q u v (inr (e, o)) =
    record { place = suc o.place; greater = rw (u o.place, v o.place) o.greater; same_before = same }
  where
    same : (k : ℕ) → k < suc o.place → get_or a k (pos 0) ≡ get_or b k (pos 0)
    same zero h = cc
    same (suc k) h = u k ∙ (o.same_before k (omega arith) ∙ sym (v k))

elseT : (a b : Worth) → T (not (at_most a b)) → Outweighs a b
elseT [] [] h = absurd h
elseT [] (y ∷ ys) h =
    step [] (y ∷ ys) [] ys (pos 0) y refl refl (λ k. refl) (λ k. refl) (elim (leads_fails (pos 0) y _ h) [ inl l ↦ inl l | inr r ↦ inr (r.0, elseT [] ys r.1) ])
elseT (x ∷ xs) [] h =
    step (x ∷ xs) [] xs [] x (pos 0) refl refl (λ k. refl) (λ k. refl) (elim (leads_fails x (pos 0) _ h) [ inl l ↦ inl l | inr r ↦ inr (r.0, elseT xs [] r.1) ])
elseT (x ∷ xs) (y ∷ ys) h =
    step (x ∷ xs) (y ∷ ys) xs ys x y refl refl (λ k. refl) (λ k. refl) (elim (leads_fails x y _ h) [ inl l ↦ inl l | inr r ↦ inr (r.0, elseT xs ys r.1) ])

pub outweighs_when : (a b : Worth) → at_most a b ≡ false → Outweighs a b
outweighs_when a b e = elseT a b (rw e tt)

refuted : (b : Bool) → (T b → ⊥) → b ≡ false
refuted true h = absurd (h tt)
refuted false h = refl

passed : (b : Bool) → T b → b ≡ true
passed true h = refl
passed false h = absurd h

pub outweighs_else : (a b : Worth) → (AtMost a b → ⊥) → Outweighs a b
outweighs_else a b h = outweighs_when a b (refuted (at_most a b) (λ t. h (record { holds = t })))

pub outweighs_test : (a b : Worth) → Outweighs a b → at_most a b ≡ false
outweighs_test a b o = refuted (at_most a b) (λ t. outweighs_not a b o (record { holds = t }))

-- what outweighs another is not at most it, so the other is at most it
pub outweighs_over : (a b : Worth) → Outweighs a b → AtMost b a
outweighs_over a b o = elim (at_most_total a b) [ inl h ↦ absurd (outweighs_not a b o h) | inr h ↦ h ]

-- ---- the three answers
pub compared : (a b : Worth) → length a ≡ length b → Compared a b (order a b)
compared a b e = by (at_most a b) (at_most b a) refl refl
  where
    by : (p q : Bool) → at_most a b ≡ p → at_most b a ≡ q → Compared a b (cond p (cond q Equal Less) Greater)
    by true true h k = at_most_antisym a b e (record { holds = rw h tt }) (record { holds = rw k tt })
    by true false h k = outweighs_when b a k
    by false q h k = outweighs_when a b h

pub compared_only : (a b : Worth) (o : Ordering) → length a ≡ length b → Compared a b o → o ≡ order a b
compared_only a b Less e c =
    let p = outweighs_test b a c in
    let q = passed (at_most a b) (outweighs_over b a c).holds in
    rw (q, p)
compared_only a b Equal e c =
    let p : at_most a b ≡ true = passed (at_most a b) (rw c (reflT b)) in
    let q : at_most b a ≡ true = passed (at_most b a) (rw c (reflT b)) in
    rw (p, q)
compared_only a b Greater e c = let p = outweighs_test a b c in rw p

-- ---- the order as a whole
abbrev by_tests : Bool → Bool → Ordering
by_tests p q = cond p (cond q Equal Less) Greater

turned : (p q : Bool) → (p ≡ true) ⊎ (q ≡ true) → by_tests p q ≡ ordering_reverse (by_tests q p)
turned true true o = refl
turned true false o = refl
turned false true o = refl
turned false false (inl e) = cc
turned false false (inr e) = cc

less : (p q : Bool) → by_tests p q ≡ Less → (p ≡ true) × (q ≡ false)
less true true e = cc
less true false e = (refl, refl)
less false q e = cc

is_less : (p q : Bool) → p ≡ true → (q ≡ true → ⊥) → by_tests p q ≡ Less
is_less true true e n = absurd (n refl)
is_less true false e n = refl
is_less false q e n = cc

equal : (p q : Bool) → by_tests p q ≡ Equal → (p ≡ true) × (q ≡ true)
equal true true e = (refl, refl)
equal true false e = cc
equal false q e = cc

through : (a b c : Worth) → at_most a b ≡ true → at_most b c ≡ true → at_most a c ≡ true
through a b c h k = passed (at_most a c) (transT a b c (rw h tt) (rw k tt))

pub order_total : IsTotalOrder order
order_total = record {
  antisymm = λ a b. turned (at_most a b) (at_most b a) (elim (totalT a b) [ inl h ↦ inl (passed (at_most a b) h) | inr h ↦ inr (passed (at_most b a) h) ]);
  trans = λ a b c h k.
      let x = less (at_most a b) (at_most b a) h in
      let y = less (at_most b c) (at_most c b) k in
      is_less (at_most a c) (at_most c a) (through a b c x.0 y.0) (λ t. let u = through c a b t x.0 in cc);
  congr = λ a b c h.
      let x = equal (at_most a b) (at_most b a) h in
      let p : at_most a c ≡ at_most b c = both_ways (at_most a c) (at_most b c) (through b a c x.1) (through a b c x.0) in
      let q : at_most c a ≡ at_most c b = both_ways (at_most c a) (at_most c b) (λ t. through c a b t x.0) (λ t. through c b a t x.1) in
      rw (p, q) refl;
}

-- ---- all of them
pub worth_laws : WorthLaws
worth_laws =
    record { comm = plus_comm; assoc = plus_assoc; none = plus_none; zero = plus_zeros; taken_back = minus_plus; given_back = plus_minus; reflexive = at_most_refl; transitive = at_most_trans; total = at_most_total; antisymmetric = at_most_antisym; translation = at_most_plus; cancel = at_most_cancel; monotone = at_most_plus_both }

pub order_laws : OrderLaws
order_laws =
    record { not_at_most = outweighs_not; else_outweighs = outweighs_else; one_of_three = compared; only_one = compared_only }

pub bound_laws : BoundLaws
bound_laws =
    record { sum_length = length_plus; difference_length = length_minus; wider = within_more; sum_within = within_plus; difference_within = within_minus }
