-- The search's arcs make a tree that is worth what the search says
use Rattle.std.proofs.Common.{◌≡◌, ℕ, zero, suc, ◌≤◌, Bool, true, false, cond, not, ◌&&◌, eqb, ◌⊎◌, [], sym, refl, ap, ◌∙◌, subst, inl, inr, arith}
use Rattle.std.proofs.lemmas.Bool.{cases_eq, cases_Bool, eq-eqb, eqb-true, ne_eqb, and_parts, and_from, cond-true, both_ways}
use Rattle.weight.specs.Worth.{Worth, plus, minus, AtMost}
use Rattle.tree.specs.Chains.{Word, up, Reaches}
use Rattle.arborescence.specs.Sum.{sum_if}
use Rattle.arborescence.specs.Search.{Tree, worth_of_heads, Sets, leads, Leader, Into, arcs_worth, Built, merged, raised, Union, Circle}
use Rattle.weight.proofs.Worths.{plus_none, at_most_plus, minus_plus_under}
use Rattle.arborescence.proofs.Sums.{sorts, through, sum_same, sum_split, sum_le_but}
use Rattle.arborescence.proofs.Merged.{leader_from, at_s, in_S, not_in_S, same_side, coarser, finer, entered, rep_le, merged_sets, merged_sum}

module _
    (n : ℕ) (stands : ℕ → ℕ → Bool) (worth : ℕ → ℕ → Worth) (rep : ℕ → ℕ) (add best : ℕ → Worth) (S : ℕ → Bool) (s : ℕ) (bf bt : ℕ → ℕ) (goal : Worth)
    (sets : Sets n rep) (union : Union n rep S s) (circle : Circle n stands worth rep add best S bf bt)
    (built : Built n stands worth (merged S s rep) (raised S n rep add best) goal)
  where
    s_lead : Leader n (merged S s rep) s
    s_lead = record { word = union.word; own = at_s n rep S s sets union }

    -- the arc into the merged set, and the set that its word is of
    abbrev h : ℕ
    h = built.from s

    abbrev d : ℕ
    d = built.to s

    abbrev j : ℕ
    j = rep d

    d_arc : Into n stands (merged S s rep) s h d
    d_arc = built.arc s s_lead

    d_in : (S d ≡ true) × Leader n rep j × (S j ≡ true)
    d_in = entered n rep S s sets union stands h d d_arc

    abbrev from : ℕ → ℕ
    from ℓ = cond (S ℓ) (cond (eqb ℓ j) h (bf ℓ)) (built.from ℓ)

    abbrev to : ℕ → ℕ
    to ℓ = cond (S ℓ) (cond (eqb ℓ j) d (bt ℓ)) (built.to ℓ)

    -- the three cases
    at_j : (ℓ : ℕ) → S ℓ ≡ true → ℓ ≡ j → (from ℓ ≡ h) × (to ℓ ≡ d)
    at_j ℓ t e = let q = eq-eqb ℓ j e in (cc, cc)

    at_S : (ℓ : ℕ) → S ℓ ≡ true → (ℓ ≡ j → ⊥) → (from ℓ ≡ bf ℓ) × (to ℓ ≡ bt ℓ)
    at_S ℓ t e = let q = ne_eqb ℓ j e in (cc, cc)

    at_outer : (ℓ : ℕ) → S ℓ ≡ false → (from ℓ ≡ built.from ℓ) × (to ℓ ≡ built.to ℓ)
    at_outer ℓ f = (cc, cc)

    outer_lead : (ℓ : ℕ) → Leader n rep ℓ → S ℓ ≡ false → Leader n (merged S s rep) ℓ
    outer_lead ℓ lead f = record { word = lead.word; own = not_in_S n rep S s sets union ℓ f ∙ lead.own }

    outer_in : (ℓ : ℕ) → Leader n rep ℓ → S ℓ ≡ false → Into n stands (merged S s rep) ℓ (built.from ℓ) (built.to ℓ) × (S (built.to ℓ) ≡ false)
    outer_in ℓ lead f =
        let a = built.arc ℓ (outer_lead ℓ lead f) in
        (a, same_side n rep S s sets union (built.to ℓ) ℓ a.word.1 a.inside ∙ f)

    arc : (ℓ : ℕ) → Leader n rep ℓ → Into n stands rep ℓ (from ℓ) (to ℓ)
    arc ℓ lead = by (S ℓ) refl (eqb ℓ j) refl
      where
        by : (t : Bool) → S ℓ ≡ t → (q : Bool) → eqb ℓ j ≡ q → Into n stands rep ℓ (cond t (cond q h (bf ℓ)) (built.from ℓ)) (cond t (cond q d (bt ℓ)) (built.to ℓ))
        by true t true q = finer n rep S s sets union stands s ℓ h d d_arc (sym (eqb-true ℓ j q))
        by true t false q = circle.arc ℓ lead t
        by false f _ _ = let a = outer_in ℓ lead f in finer n rep S s sets union stands ℓ ℓ (built.from ℓ) (built.to ℓ) a.0 (sym (not_in_S n rep S s sets union (built.to ℓ) a.1) ∙ a.0.inside)

    abbrev next : ℕ → ℕ
    next i = rep (from i)

    abbrev next' : ℕ → ℕ
    next' i = merged S s rep (built.from i)

    -- a chain that comes to v goes on as that of any set's leader in v's merged set
    abbrev On : ℕ → Type 0
    On i = (y : ℕ) → y ≤ n → rep y ≡ y → merged S s rep y ≡ i → Reaches next y

    step : (x v : ℕ) → v ≤ n → from x ≡ v → (i : ℕ) → merged S s rep v ≡ i → On i → Reaches next x
    step x v le e i m on =
        let p = rep_le n rep S s sets union v le in
        let r = on (rep v) p.0 p.1 (coarser n rep S s sets union (rep v) v p.0 le p.1 ∙ m) in
        (suc r.0, ap (λ (y : ℕ). up next r.0 (rep y)) e ∙ r.1)

    -- in S: round the circle to j, and from there on as the merged set
    from_j : On (next' s) → (x : ℕ) → S x ≡ true → x ≡ j → Reaches next x
    from_j on x t e = step x h d_arc.in_line (at_j x t e).0 (next' s) refl on

    around : On (next' s) → (m x : ℕ) → Leader n rep x → S x ≡ true → up (λ i. rep (bf i)) m x ≡ j → Reaches next x
    around on zero x lead t e = from_j on x t e
    around on (suc m) x lead t e = by (cases_eq x j) (around on m (rep (bf x)))
      where
        by : (x ≡ j) ⊎ (x ≡ j → ⊥) → (Leader n rep (rep (bf x)) → S (rep (bf x)) ≡ true → up (λ i. rep (bf i)) m (rep (bf x)) ≡ j → Reaches next (rep (bf x))) → Reaches next x
        by (inl q) more = from_j on x t q
        by (inr q) more =
            let a = circle.arc x lead t in
            let b : S (bf x) ≡ true = circle.within x lead t in
            let v : Word n (bf x) = (positive (bf x) b, a.in_line) in
            let r = more (record { word = sets.word (bf x) v; own = sets.leader (bf x) v }) (union.closed (bf x) v ∙ b) e in
            (suc r.0, ap (λ (y : ℕ). up next r.0 (rep y)) (at_S x t q).0 ∙ r.1)
          where
            positive : (v : ℕ) → S v ≡ true → 1 ≤ v
            positive zero b = absurd (both_ways (S 0) union.root b)
            positive (suc v) b = omega arith

    chain : (k i : ℕ) → up next' k i ≡ 0 → On i
    chain k i e zero le own m = (0, refl)
    chain zero i e (suc y) le own m = let v = (merged_sets n rep S s sets union).word (suc y) (omega arith) in absurd (omega arith)
    chain (suc k) i e (suc y) le own m = by (cases_Bool (S (suc y))) (chain k (next' i) e)
      where
        lead : Leader n rep (suc y)
        lead = record { word = omega arith; own = own }

        by : (S (suc y) ≡ true) ⊎ (S (suc y) ≡ false) → On (next' i) → Reaches next (suc y)
        by (inl t) on =
            let q : i ≡ s = sym m ∙ in_S n rep S s sets union (suc y) t in
            let r = circle.round (suc y) j lead t d_in.1 d_in.2 in
            around (subst (λ (x : ℕ). On (next' x)) q on) r.0 (suc y) lead t r.1
        by (inr f) on =
            let q : suc y ≡ i = sym own ∙ (sym (not_in_S n rep S s sets union (suc y) f) ∙ m) in
            step (suc y) (built.from (suc y)) (outer_in (suc y) lead f).0.in_line (at_outer (suc y) f).0 (next' i) (ap next' q) on

    arrives : (ℓ : ℕ) → Leader n rep ℓ → Reaches (λ i. rep (from i)) ℓ
    arrives ℓ lead = by (cases_Bool (S ℓ))
      where
        go : (i : ℕ) → Leader n (merged S s rep) i → merged S s rep ℓ ≡ i → Reaches next ℓ
        go i lead' m = let r = built.arrives i lead' in chain r.0 i r.1 ℓ lead.word.1 lead.own m

        by : (S ℓ ≡ true) ⊎ (S ℓ ≡ false) → Reaches next ℓ
        by (inl t) = go s s_lead (in_S n rep S s sets union ℓ t)
        by (inr f) = go ℓ (outer_lead ℓ lead f) (not_in_S n rep S s sets union ℓ f ∙ lead.own)

    abbrev inner : ℕ → Bool
    inner ℓ = leads rep ℓ && S ℓ

    abbrev term : ℕ → Worth
    term ℓ = plus (worth (from ℓ) (to ℓ)) (add (to ℓ))

    abbrev term' : ℕ → Worth
    term' ℓ = plus (worth (built.from ℓ) (built.to ℓ)) (raised S n rep add best (built.to ℓ))

    -- all the sets of S but that of j bring their best at least
    within : AtMost (plus (sum_if inner best n) (term j)) (plus (best j) (sum_if inner term n))
    within =
        sum_le_but inner best term n j d_in.1.word (and_from (leads rep j) (S j) (eq-eqb (rep j) j d_in.1.own) d_in.2) (λ ℓ v t q.
        let p = and_parts (leads rep ℓ) (S ℓ) t in
        let e = at_S ℓ p.1 q in
        rw (e.0, e.1) (circle.is_best ℓ (leader_from n rep ℓ v p.0) p.1))

    outside_same : (ℓ : ℕ) → Leader n rep ℓ → S ℓ ≡ false → term ℓ ≡ term' ℓ
    outside_same ℓ lead f = let g = (outer_in ℓ lead f).1 in cc

    enough : AtMost goal (arcs_worth n worth rep add from to)
    enough =
        let o : Worth = sum_if (λ ℓ. leads rep ℓ && not (S ℓ)) term n in
        let x : Worth = worth h d in
        let t : Worth = plus (add d) (sum_if inner best n) in
        let k' : Worth = raised S n rep add best d in
        let h₁ : AtMost goal (plus (plus x k') o) = rw (merged_sum n rep S s sets union term term' outside_same) at built.enough in
        let is : k' ≡ minus t (best j) = cond-true (S d) _ (add d) d_in.0 in
        let h₂ : AtMost (plus k' (best j)) t = rw is (minus_plus_under t (best j)) in
        let e = at_j j d_in.2 refl in
        let tj : term j ≡ plus x (add d) = cc (e.0, e.1) in
        let h₃ : AtMost (plus (sum_if inner best n) (plus x (add d))) (plus (best j) (sum_if inner term n)) = rw tj at within in
        rw (sum_split (leads rep) S term n)
        (through _ (plus x k') _ o (best j) (plus t x) h₁ (simp sorts (simp sorts at (at_most_plus (plus k' (best j)) t x h₂))) (simp sorts (simp sorts at h₃)))

    -- arcs for the merged sets give arcs for the sets before: the entering arc where its word is, the circle's at the others of S, and outside as they were
    pub unmerge : Built n stands worth rep add goal
    unmerge = record { from = from; to = to; arc = arc; arrives = arrives; enough = enough }

    pub unmerge_at : (ℓ : ℕ) → S ℓ ≡ true → ℓ ≡ rep (built.to s) → (unmerge.from ℓ ≡ built.from s) × (unmerge.to ℓ ≡ built.to s)
    unfolding unmerge
    unmerge_at = at_j

    pub unmerge_in : (ℓ : ℕ) → S ℓ ≡ true → (ℓ ≡ rep (built.to s) → ⊥) → (unmerge.from ℓ ≡ bf ℓ) × (unmerge.to ℓ ≡ bt ℓ)
    unfolding unmerge
    unmerge_in = at_S

    pub unmerge_out : (ℓ : ℕ) → S ℓ ≡ false → (unmerge.from ℓ ≡ built.from ℓ) × (unmerge.to ℓ ≡ built.to ℓ)
    unfolding unmerge
    unmerge_out = at_outer

-- arcs into the words one by one make a tree
pub bottom_from : (n : ℕ) (stands : ℕ → ℕ → Bool) (worth : ℕ → ℕ → Worth) (goal : Worth) (built : Built n stands worth (λ w. w) (λ w. []) goal) → Tree n stands built.from × AtMost goal (worth_of_heads worth built.from n)
bottom_from n stands worth goal built =
    (record { in_line = λ w k. (arc w k).in_line; reaches = λ w k. built.arrives w (record { word = k; own = refl }); standing = λ w k. rw (arc w k).inside at (arc w k).standing }, rw same at built.enough)
  where
    arc : (w : ℕ) → Word n w → Into n stands (λ v. v) w (built.from w) (built.to w)
    arc w k = built.arc w (record { word = k; own = refl })

    same : arcs_worth n worth (λ v. v) (λ v. []) built.from built.to ≡ worth_of_heads worth built.from n
    same = sum_same (leads (λ v. v)) (λ v. true) (λ ℓ. plus (worth (built.from ℓ) (built.to ℓ)) []) (λ v. worth (built.from v) v) n (λ v k. eq-eqb v v refl) (λ v k t. rw (arc v k).inside (plus_none (worth (built.from v) v)))
