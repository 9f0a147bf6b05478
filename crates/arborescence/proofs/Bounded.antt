use Rattle.std.proofs.Common.{◌≡◌, ℕ, zero, suc, ◌+◌, ◌-◌, ◌*◌, ◌≤◌, Bool, true, false, cond, ◌&&◌, ◌⊎◌, [], sym, refl, ◌∙◌, inl, inr, arith}
use Rattle.std.proofs.lemmas.Bool.{cases_Bool, eq-eqb, and_parts, and_from, cond-true, cond-false}
use Rattle.weight.specs.Worth.{Worth, plus, minus, AtMost, Within}
use Rattle.tree.specs.Chains.{Word}
use Rattle.arborescence.specs.Sum.{sum_if, count_if}
use Rattle.arborescence.specs.Search.{leads, Leader, Sets, Union, merged, raised}
use Rattle.arborescence.specs.Bounds.{Sized, merged_size, SizedMerge}
use Rattle.weight.proofs.Worths.{at_most_cancel, minus_plus_under, minus_plus_over, within_plus, within_more, within_like}
use Rattle.arborescence.proofs.Totals.{but}
use Rattle.arborescence.proofs.Sums.{sorts, sum_out, count_out, count_split}
use Rattle.arborescence.proofs.Merged.{leader_from, not_in_S, merged_count}

pub within_sum : (m : ℕ) (p : ℕ → Bool) (f : ℕ → Worth) (size : ℕ → ℕ) (n : ℕ) → ((w : ℕ) → Word n w → p w ≡ true → Within (m * size w) (f w)) → Within (m * count_if p size n) (sum_if p f n)
within_sum m p f size zero h = tt
within_sum m p f size (suc n) h = by (p (suc n)) (h (suc n) (omega arith)) (within_sum m p f size n (λ w v. h w (omega arith)))
  where
    rest : ℕ
    rest = count_if p size n

    by : (b : Bool) → (b ≡ true → Within (m * size (suc n)) (f (suc n))) → Within (m * rest) (sum_if p f n) → Within (m * (cond b (size (suc n)) 0 + rest)) (plus (cond b (f (suc n)) []) (sum_if p f n))
    by true k w = within_more (m * size (suc n) + m * rest) (m * (size (suc n) + rest)) _ (omega arith) (within_plus (m * size (suc n)) (m * rest) (f (suc n)) (sum_if p f n) (k refl) w)
    by false k w = within_more (m * rest) (m * (0 + rest)) _ (omega arith) w

-- (a + (b + r)) − b is as great as a + r
less : (a b r : Worth) → AtMost (plus a r) (minus (plus a (plus b r)) b) × AtMost (minus (plus a (plus b r)) b) (plus a r)
less a b r =
    let e : plus a (plus b r) ≡ plus (plus a r) b = simp sorts in
    (at_most_cancel _ _ b (rw (← e) (minus_plus_over (plus a (plus b r)) b)), at_most_cancel _ _ b (rw (← e) (minus_plus_under (plus a (plus b r)) b)))

module _
    (n m : ℕ) (rep : ℕ → ℕ) (add best : ℕ → Worth) (S : ℕ → Bool) (s : ℕ) (size : ℕ → ℕ) (sets : Sets n rep) (union : Union n rep S s)
    (bounds : (ℓ : ℕ) → Leader n rep ℓ → S ℓ ≡ true → Within (m * size ℓ) (best ℓ)) (sized : Sized n m rep add size)
  where
    abbrev inner : ℕ → Bool
    inner ℓ = leads rep ℓ && S ℓ

    abbrev all_in : ℕ
    all_in = count_if inner size n

    -- the sets of S but that of d
    others : (d : ℕ) → Word n d → S d ≡ true → (inner (rep d) ≡ true) × (1 ≤ size (rep d)) × (all_in ≡ size (rep d) + count_if (but inner (rep d)) size n)
    others d v t =
        let own = sets.leader d v in
        let i = and_from (leads rep (rep d)) (S (rep d)) (eq-eqb (rep (rep d)) (rep d) own) (union.closed d v ∙ t) in
        (i, sized.some (rep d) (record { word = sets.word d v; own = own }), count_out inner size n (rep d) (sets.word d v) i)

    some : (ℓ : ℕ) → Leader n (merged S s rep) ℓ → 1 ≤ merged_size S n rep size ℓ
    some ℓ lead = by (S ℓ) refl
      where
        by : (t : Bool) → S ℓ ≡ t → 1 ≤ cond t all_in (size ℓ)
        by true t = let o = others ℓ lead.word t in omega arith
        by false f = sized.some ℓ (record { word = lead.word; own = sym (not_in_S n rep S s sets union ℓ f) ∙ lead.own })

    all : count_if (leads (merged S s rep)) (merged_size S n rep size) n ≡ n
    all =
        let a = merged_count n rep S s sets union size (merged_size S n rep size) (λ ℓ lead f. sym (cond-false (S ℓ) all_in (size ℓ) f)) in
        let b : merged_size S n rep size s ≡ all_in = cond-true (S s) all_in (size s) union.inside in
        omega (arith, a, b, count_split (leads rep) S size n, sized.all)

    in_within : (d : ℕ) → Word n d → S d ≡ true → Within (m * (all_in - 1)) (minus (plus (add d) (sum_if inner best n)) (best (rep d)))
    in_within d v t =
        let o = others d v t in
        let r : Worth = sum_if (but inner (rep d)) best n in
        let k : ℕ = count_if (but inner (rep d)) size n in
        let i : ℕ = size (rep d) - 1 in
        let e : sum_if inner best n ≡ plus (best (rep d)) r = sum_out inner best n (rep d) (sets.word d v) o.0 in
        let wr : Within (m * k) r = within_sum m (but inner (rep d)) best size n (λ ℓ u q. let p = and_parts (inner ℓ) _ q in let p' = and_parts (leads rep ℓ) (S ℓ) p.0 in bounds ℓ (leader_from n rep ℓ u p'.0) p'.1) in
        let w : Within (m * i + m * k) (plus (add d) r) = within_plus (m * i) (m * k) (add d) r (sized.small d v) wr in
        let c : all_in - 1 ≡ i + k = omega (arith, o.1, o.2) in
        let w' : Within (m * (i + k)) (plus (add d) r) = within_more (m * i + m * k) (m * (i + k)) (plus (add d) r) (omega arith) w in
        let l = less (add d) (best (rep d)) r in
        rw (c, e) (within_like (m * (i + k)) (plus (add d) r) (minus (plus (add d) (plus (best (rep d)) r)) (best (rep d))) l.0 l.1 w')

    small : (d : ℕ) → Word n d → Within (m * (merged_size S n rep size (merged S s rep d) - 1)) (raised S n rep add best d)
    small d v = by (cases_Bool (S d))
      where
        by : (S d ≡ true) ⊎ (S d ≡ false) → Within (m * (merged_size S n rep size (merged S s rep d) - 1)) (raised S n rep add best d)
        by (inl t) = rw (t, union.inside) (in_within d v t)
        by (inr f) = let g : S (rep d) ≡ false = union.closed d v ∙ f in rw (f, g) (sized.small d v)

    merged_sized : Sized n m (merged S s rep) (raised S n rep add best) (merged_size S n rep size)
    merged_sized = record { some = some; all = all; small = small }

pub sized_merge : SizedMerge
sized_merge = merged_sized
