-- The order of the rows: there is one, and what is offered comes in it.
use Rattle.std.proofs.Common.{◌≡◌, ℕ, zero, suc, ◌+◌, ◌-◌, ◌<◌, ◌≤◌, Bool, true, false, cond, ◌⊎◌, List, [], ◌∷◌, ◌++◌, length, take, drop, count_by, sym, refl, ap, ◌∙◌, subst, inl, inr, arith}
use Rattle.std.specs.List.{AllByRecursion, Contains}
use Rattle.std.specs.List.Sorted.{IsPermutation}
use Rattle.std.proofs.ByRecursion.{All-weaker, all_shuffled}
use Rattle.std.proofs.lemmas.Bool.{cases_lt, both_ways, true_from_ne_false}
use Rattle.std.proofs.lemmas.List.{take-append-drop}
use Rattle.std.proofs.lemmas.List.Sorted.{Contains-permutation}
use Rattle.arborescence.specs.Heads.{worth_from}
use Rattle.cells.proofs.Counts.{counted}
use Rattle.cells.specs.Kept.{kept_arcs}
use Rattle.queue.proofs.Counting.{as_many, count_cons, count_all, count_shuffled}
use Rattle.ranking.specs.Order.{BestHeld, Offers, Offered, ComesNext, InTurn, NotLost, Queued}
use Rattle.search.proofs.Choosing.{found_once}
use Rattle.sheet.proofs.Rows.{row_same, one_precedes}
use Rattle.sheet.specs.Candidates.{Row, precedes}
use Rattle.sheet.specs.Orders.{row_ranks}
use Rattle.weight.specs.Worth.{Worth}
use Rattle.word_set.proofs.Sets.{same_set}
use Rattle.word_set.specs.Bits.{in_set}

-- ---- elements of a list
at_front : {X : Type 0} (x : X) (xs : List X) → Contains (x ∷ xs) x
at_front x xs = (0, omega arith, refl)

further_back : {X : Type 0} (x y : X) (xs : List X) → Contains xs y → Contains (x ∷ xs) y
further_back x y xs c = (suc c.0, omega (arith, c.1), c.2)

pub front_or_back : {X : Type 0} (x y : X) (xs : List X) → Contains (x ∷ xs) y → (y ≡ x) ⊎ Contains xs y
front_or_back x y xs (zero, l, e) = inl (sym e)
front_or_back x y xs (suc k, l, e) = inr (k, omega (arith, l), e)

of_all : {X : Type 0} (P : X → Type 0) (xs : List X) (y : X) → AllByRecursion P xs → Contains xs y → P y
of_all P [] y all c = absurd (omega (arith, c.1))
of_all P (x ∷ xs) y all c = by (front_or_back x y xs c) (of_all P xs y all.1)
  where
    by : (y ≡ x) ⊎ Contains xs y → (Contains xs y → P y) → P y
    by (inl e) more = subst P (sym e) all.0
    by (inr d) more = more d

-- ---- precedence
one_way : (a b : Row) → precedes a b ≡ true → precedes b a ≡ true → ⊥
one_way a b h k = both_ways (precedes b a) (row_ranks.one_way a b h) k

-- what precedes what precedes r, or what is no later than it
precedes_through : (c y r : Row) → precedes c y ≡ true → precedes y r ≡ true → precedes c r ≡ true
precedes_through c y r h k = true_from_ne_false (precedes c r) (λ f. both_ways (precedes c y) (row_ranks.chain c r y f (row_ranks.one_way y r k)) h)

precedes_before : (x c r : Row) → precedes c x ≡ false → precedes c r ≡ true → precedes x r ≡ true
precedes_before x c r h k = true_from_ne_false (precedes x r) (λ f. both_ways (precedes c r) (row_ranks.chain c x r h f) k)

-- of rows with other heads that y does not precede each precedes y
before : (y : Row) (ws : List Row) → AllByRecursion (λ w. precedes y w ≡ false) ws → AllByRecursion (λ w. w.heads ≡ y.heads → ⊥) ws → AllByRecursion (λ w. precedes w y ≡ true) ws
before y [] least apart = tt
before y (w ∷ ws) least apart = (one_precedes y w (λ e. apart.0 (sym e)) least.0, before y ws least.1 apart.1)

-- and x precedes each that does not precede it
behind : (x : Row) (ws : List Row) → AllByRecursion (λ w. precedes w x ≡ false) ws → AllByRecursion (λ w. w.heads ≡ x.heads → ⊥) ws → AllByRecursion (λ w. precedes x w ≡ true) ws
behind x [] greatest apart = tt
behind x (w ∷ ws) greatest apart = (one_precedes w x apart.0 greatest.0, behind x ws greatest.1 apart.1)

module _ (n : ℕ) (up : ℕ → ℕ → Bool) (value : ℕ → ℕ → Worth) where
  -- ---- there is one
  one_best : (held : List ℕ) (barred : ℕ) (a b : Row) → BestHeld n up value held barred a → BestHeld n up value held barred b → a ≡ b
  one_best held barred a b p q =
      let kept = kept_arcs up held (length held + 1) (in_set barred) in
      let e : take n a.heads ≡ take n b.heads =
      found_once n kept kept value value (record { stand = λ h d v le. refl; weigh = λ h d v le t. refl }) (take n a.heads) (take n b.heads) p.tree.shape.shape.sized q.tree.shape.shape.sized p.found q.found in
      row_same a b
      (p.weighs ∙ (ap (worth_from value 1) e ∙ sym q.weighs))
      (sym (take-append-drop n a.heads) ∙ (ap (λ (xs : List ℕ). xs ++ drop n a.heads) e ∙ (ap (λ (xs : List ℕ). take n b.heads ++ xs) (p.rest ∙ sym q.rest) ∙ take-append-drop n b.heads)))
      (p.from ∙ sym q.from) (p.banned ∙ sym q.banned)

  one_offer : (u : Row) (p : ℕ) (a b : Row) → Offers n up value u p a → Offers n up value u p b → a ≡ b
  one_offer u p a b x y =
      one_best (take (p - 1) u.heads) a.banned a b x.is
      (subst (λ (s : ℕ). BestHeld n up value (take (p - 1) u.heads) s b) (same_set b.banned a.banned (λ h. y.bans h ∙ sym (x.bans h))) y.is)

  one_next : (us : List Row) (a b : Row) → ComesNext n up value us a → ComesNext n up value us b → a ≡ b
  one_next us a b x y = by (x.first b y.offered) (y.first a x.offered)
    where
      by : Contains us b ⊎ ((b ≡ a) ⊎ (precedes a b ≡ true)) → Contains us a ⊎ ((a ≡ b) ⊎ (precedes b a ≡ true)) → a ≡ b
      by (inl c) o = absurd (y.new c)
      by (inr (inl e)) o = sym e
      by (inr (inr h)) (inl c) = absurd (x.new c)
      by (inr (inr h)) (inr (inl e)) = e
      by (inr (inr h)) (inr (inr k)) = absurd (one_way a b h k)

  pub one_list : (us vs : List Row) → length us ≡ length vs → InTurn n up value us → InTurn n up value vs → us ≡ vs
  one_list [] [] e x y = refl
  one_list [] (v ∷ vs) e x y = absurd (omega (arith, e))
  one_list (u ∷ us) [] e x y = absurd (omega (arith, e))
  one_list (u ∷ []) (v ∷ []) e x y = ap (λ (r : Row). r ∷ []) (one_best [] 0 u v x y)
  one_list (u ∷ []) (v ∷ w ∷ vs) e x y = absurd (omega (arith, e))
  one_list (u ∷ t ∷ us) (v ∷ []) e x y = absurd (omega (arith, e))
  one_list (u ∷ t ∷ us) (v ∷ w ∷ vs) e x y =
      let same : (t ∷ us) ≡ (w ∷ vs) = one_list (t ∷ us) (w ∷ vs) (omega (arith, e)) x.0 y.0 in
      ap (λ (r : Row). r ∷ t ∷ us) (one_next (t ∷ us) u v x.1 (subst (λ (rs : List Row). ComesNext n up value rs v) (sym same) y.1)) ∙ ap (λ (rs : List Row). v ∷ rs) same

  -- ---- what was offered
  widen : (p : ℕ) (us : List Row) (r : Row) → Offered n up value p us r → Offered n up value (suc p) us r
  widen p [] r o = o
  widen p (u ∷ us) r (inl o) = inl (o.0, omega (arith, o.1), o.2)
  widen p (u ∷ us) r (inr o) = inr o

  -- at the latest word, or before it
  here_or_before : (p : ℕ) (u : Row) (us : List Row) (r : Row) → Offered n up value (suc p) (u ∷ us) r → Offers n up value u p r ⊎ Offered n up value p (u ∷ us) r
  here_or_before p u us r (inr o) = inr (inr o)
  here_or_before p u us r (inl o) = by (cases_lt o.0 p)
    where
      by : (o.0 < p) ⊎ (p ≤ o.0) → Offers n up value u p r ⊎ Offered n up value p (u ∷ us) r
      by (inl l) = inr (inl (o.0, l, o.2))
      by (inr g) = let e : o.0 ≡ p = omega (arith, g, o.1) in inl (subst (λ (q : ℕ). Offers n up value u q r) e o.2)

  -- the first tree of all
  pub starts : (u : Row) → BestHeld n up value [] 0 u → Queued n up value u.from (u ∷ []) []
  starts u b = record { turns = b; offered = tt; none_lost = none_lost }
    where
      none_lost : (r : Row) → Offered n up value u.from (u ∷ []) r → NotLost (u ∷ []) [] r
      none_lost r (inl o) = absurd (omega (arith, o.1, o.2.low))
      none_lost r (inr o) = absurd o

  -- one word more is split off: nothing is offered there
  pub passes_by : (p : ℕ) (u : Row) (us ws : List Row) → ((r : Row) → Offers n up value u p r → ⊥) → Queued n up value p (u ∷ us) ws → Queued n up value (suc p) (u ∷ us) ws
  passes_by p u us ws none q = record {
    turns = q.turns;
    offered = All-weaker (Offered n up value p (u ∷ us)) (Offered n up value (suc p) (u ∷ us)) (widen p (u ∷ us)) ws q.offered;
    none_lost = λ r o. none_lost r (here_or_before p u us r o);
  }
    where
      none_lost : (r : Row) → Offers n up value u p r ⊎ Offered n up value p (u ∷ us) r → NotLost (u ∷ us) ws r
      none_lost r (inl o) = absurd (none r o)
      none_lost r (inr o) = q.none_lost r o

  -- or x, which joins those that wait
  pub joins : (p : ℕ) (u : Row) (us : List Row) (x : Row) (ws : List Row) → Offers n up value u p x → Queued n up value p (u ∷ us) ws → Queued n up value (suc p) (u ∷ us) (x ∷ ws)
  joins p u us x ws o q = record {
    turns = q.turns;
    offered = (inl (p, omega arith, o), All-weaker (Offered n up value p (u ∷ us)) (Offered n up value (suc p) (u ∷ us)) (widen p (u ∷ us)) ws q.offered);
    none_lost = λ r k. none_lost r (here_or_before p u us r k);
  }
    where
      more : (r : Row) → NotLost (u ∷ us) ws r → NotLost (u ∷ us) (x ∷ ws) r
      more r (inl c) = inl c
      more r (inr (inl c)) = inr (inl (further_back x r ws c))
      more r (inr (inr h)) = let e = count_cons (λ w. precedes w r) x ws in inr (inr (omega (arith, h, e)))

      none_lost : (r : Row) → Offers n up value u p r ⊎ Offered n up value p (u ∷ us) r → NotLost (u ∷ us) (x ∷ ws) r
      none_lost r (inl k) = inr (inl (subst (Contains (x ∷ ws)) (one_offer u p x r o k) (at_front x ws)))
      none_lost r (inr k) = more r (q.none_lost r k)

  -- the order of those that wait does not matter
  pub shuffles : (p : ℕ) (us ws vs : List Row) → IsPermutation ws vs → Queued n up value p us ws → Queued n up value p us vs
  shuffles p us ws vs s q = record {
    turns = q.turns;
    offered = all_shuffled (Offered n up value p us) ws vs s q.offered;
    none_lost = λ r o. none_lost r (q.none_lost r o);
  }
    where
      none_lost : (r : Row) → NotLost us ws r → NotLost us vs r
      none_lost r (inl c) = inl c
      none_lost r (inr (inl c)) = inr (inl (Contains-permutation ws vs r s c))
      none_lost r (inr (inr h)) = let e = count_shuffled (λ w. precedes w r) ws vs s in inr (inr (omega (arith, h, e)))

  -- where enough are left the last of those that wait is dropped
  pub drops : (p : ℕ) (us : List Row) (y : Row) (ws : List Row) → 50 ≤ length us + length ws → AllByRecursion (λ w. precedes y w ≡ false) ws → AllByRecursion (λ w. w.heads ≡ y.heads → ⊥) ws → Queued n up value p us (y ∷ ws) → Queued n up value p us ws
  drops p us y ws enough least apart q = record { turns = q.turns; offered = q.offered.1; none_lost = λ r o. none_lost r (q.none_lost r o) }
    where
      outnumbered : (r : Row) → AllByRecursion (λ w. precedes w r ≡ true) ws → 50 ≤ length us + count_by (λ w. precedes w r) ws
      outnumbered r all = let e = count_all (λ w. precedes w r) ws all in omega (arith, enough, e)

      counts : (r : Row) (b : Bool) → precedes y r ≡ b → 50 ≤ length us + count_by (λ w. precedes w r) (y ∷ ws) → 50 ≤ length us + count_by (λ w. precedes w r) ws
      counts r true t h = outnumbered r (All-weaker (λ w. precedes w y ≡ true) (λ w. precedes w r ≡ true) (λ w k. precedes_through w y r k t) ws (before y ws least apart))
      counts r false f h =
          let e = count_cons (λ w. precedes w r) y ws in
          let z = as_many (precedes y r) false f in
          omega (arith, h, e, z)

      or_last : (r : Row) → (r ≡ y) ⊎ Contains ws r → Contains ws r ⊎ (50 ≤ length us + count_by (λ w. precedes w r) ws)
      or_last r (inl e) = inr (outnumbered r (subst (λ (z : Row). AllByRecursion (λ w. precedes w z ≡ true) ws) (sym e) (before y ws least apart)))
      or_last r (inr c) = inl c

      none_lost : (r : Row) → NotLost us (y ∷ ws) r → NotLost us ws r
      none_lost r (inl c) = inl c
      none_lost r (inr (inl c)) = inr (or_last r (front_or_back y r ws c))
      none_lost r (inr (inr h)) = inr (inr (counts r (precedes y r) refl h))

  -- all is split off: the first of those that wait comes next
  pub comes : (v : Row) (us : List Row) (x : Row) (ws : List Row) → length (v ∷ us) < 50 → AllByRecursion (λ w. precedes w x ≡ false) ws → AllByRecursion (λ w. w.heads ≡ x.heads → ⊥) ws → (Contains (v ∷ us) x → ⊥) → Queued n up value (suc n) (v ∷ us) (x ∷ ws) → Queued n up value x.from (x ∷ v ∷ us) ws
  comes v us x ws few greatest apart new q = record {
    turns = (q.turns, record { offered = q.offered.0; new = new; first = λ r o. first r (q.none_lost r o) });
    offered = All-weaker (Offered n up value (suc n) (v ∷ us)) (Offered n up value x.from (x ∷ v ∷ us)) (λ r o. inr o) ws q.offered.1;
    none_lost = none_lost;
  }
    where
      -- x precedes whatever one that waits precedes
      over : (r : Row) → AllByRecursion (λ w. precedes w r ≡ true → precedes x r ≡ true) (x ∷ ws)
      over r = (λ t. t, All-weaker (λ w. precedes w x ≡ false) (λ w. precedes w r ≡ true → precedes x r ≡ true) (λ w f. precedes_before x w r f) ws greatest)

      first : (r : Row) → NotLost (v ∷ us) (x ∷ ws) r → Contains (v ∷ us) r ⊎ ((r ≡ x) ⊎ (precedes x r ≡ true))
      first r (inl c) = inl c
      first r (inr (inl c)) = inr (by (front_or_back x r ws c))
        where
          by : (r ≡ x) ⊎ Contains ws r → (r ≡ x) ⊎ (precedes x r ≡ true)
          by (inl e) = inl e
          by (inr d) = inr (of_all (λ w. precedes x w ≡ true) ws r (behind x ws greatest apart) d)
      first r (inr (inr h)) =
          inr (inr (counted (λ w. precedes w r) (λ w. precedes w r ≡ true → precedes x r ≡ true) (precedes x r ≡ true) (x ∷ ws) (over r) (λ w to t. to t) (omega (arith, h, few))))

      one_less : (r : Row) → cond (precedes x r) 1 0 ≤ 1
      one_less r = by (precedes x r)
        where
          by : (b : Bool) → cond b 1 0 ≤ 1
          by true = omega arith
          by false = omega arith

      left : (r : Row) → NotLost (v ∷ us) (x ∷ ws) r → NotLost (x ∷ v ∷ us) ws r
      left r (inl c) = inl (further_back x r (v ∷ us) c)
      left r (inr (inl c)) = by (front_or_back x r ws c)
        where
          by : (r ≡ x) ⊎ Contains ws r → NotLost (x ∷ v ∷ us) ws r
          by (inl e) = inl (subst (Contains (x ∷ v ∷ us)) (sym e) (at_front x (v ∷ us)))
          by (inr d) = inr (inl d)
      left r (inr (inr h)) =
          let e = count_cons (λ w. precedes w r) x ws in
          let o = one_less r in
          inr (inr (omega (arith, h, e, o)))

      none_lost : (r : Row) → Offered n up value x.from (x ∷ v ∷ us) r → NotLost (x ∷ v ∷ us) ws r
      none_lost r (inl o) = absurd (omega (arith, o.1, o.2.low))
      none_lost r (inr o) = left r (q.none_lost r o)
