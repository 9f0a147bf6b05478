-- No tree is worth more than the search says
use Rattle.std.proofs.Common.{◌≡◌, ℕ, Bool, true, false, cond, not, ◌&&◌, eqb, [], sym, refl, ap, ◌∙◌, subst}
use Rattle.std.proofs.lemmas.Bool.{eq-eqb, eqb-true, and_parts, and_from, cond-true}
use Rattle.weight.specs.Worth.{Worth, plus, minus, AtMost}
use Rattle.arborescence.specs.Sum.{sum_if}
use Rattle.arborescence.specs.Search.{Tree, worth_of_heads, Sets, leads, Leader, Into, Covers, Opt, merged, raised, Union, None}
use Rattle.weight.proofs.Worths.{plus_none, at_most_trans, at_most_plus, minus_plus_over}
use Rattle.arborescence.proofs.Sums.{sorts, through, at_most_eq, sum_le, sum_same, sum_split, sum_le_but}
use Rattle.arborescence.proofs.Merged.{leader_from, entry, some_entry, at_s, not_in_S, same_side, finer, entered, merged_sum}

module _
    (n : ℕ) (stands : ℕ → ℕ → Bool) (worth : ℕ → ℕ → Worth) (rep : ℕ → ℕ) (add best : ℕ → Worth) (S : ℕ → Bool) (s : ℕ)
    (sets : Sets n rep) (union : Union n rep S s) (covers : (ℓ : ℕ) → Leader n rep ℓ → S ℓ ≡ true → Covers n stands worth rep add ℓ (best ℓ))
    (head : ℕ → ℕ) (tree : Tree n stands head)
    (c' : ℕ → ℕ) (choice : (ℓ : ℕ) → Leader n (merged S s rep) ℓ → Into n stands (merged S s rep) ℓ (head (c' ℓ)) (c' ℓ))
  where
    -- the word at which the tree enters the merged set, and the set that it is of
    abbrev d : ℕ
    d = c' s

    abbrev j : ℕ
    j = rep d

    d_entry : Into n stands (merged S s rep) s (head d) d
    d_entry = choice s (record { word = union.word; own = at_s n rep S s sets union })

    d_in : (S d ≡ true) × Leader n rep j × (S j ≡ true)
    d_in = entered n rep S s sets union stands (head d) d d_entry

    -- the choice before
    abbrev c : ℕ → ℕ
    c ℓ = cond (S ℓ) (cond (eqb ℓ j) d (some_entry n stands head rep sets tree ℓ).0) (c' ℓ)

    c_j : c j ≡ d
    c_j = let q = eq-eqb j j refl in let t = d_in.2 in cc

    outer : (ℓ : ℕ) → Leader n rep ℓ → S ℓ ≡ false → Into n stands (merged S s rep) ℓ (head (c' ℓ)) (c' ℓ) × (S (c' ℓ) ≡ false)
    outer ℓ lead f =
        let e = choice ℓ (record { word = lead.word; own = not_in_S n rep S s sets union ℓ f ∙ lead.own }) in
        (e, same_side n rep S s sets union (c' ℓ) ℓ e.word.1 e.inside ∙ f)

    c_choice : (ℓ : ℕ) → Leader n rep ℓ → Into n stands rep ℓ (head (c ℓ)) (c ℓ)
    c_choice ℓ lead = by (S ℓ) refl (eqb ℓ j) refl
      where
        by : (t : Bool) → S ℓ ≡ t → (q : Bool) → eqb ℓ j ≡ q → let v = cond t (cond q d (some_entry n stands head rep sets tree ℓ).0) (c' ℓ) in Into n stands rep ℓ (head v) v
        by true t true q = finer n rep S s sets union stands s ℓ (head d) d d_entry (sym (eqb-true ℓ j q))
        by true t false q = (some_entry n stands head rep sets tree ℓ).1 lead
        by false f _ _ = let e = outer ℓ lead f in finer n rep S s sets union stands ℓ ℓ (head (c' ℓ)) (c' ℓ) e.0 (sym (not_in_S n rep S s sets union (c' ℓ) e.1) ∙ e.0.inside)

    abbrev inner : ℕ → Bool
    inner ℓ = leads rep ℓ && S ℓ

    abbrev term : ℕ → Worth
    term ℓ = plus (worth (head (c ℓ)) (c ℓ)) (add (c ℓ))

    abbrev term' : ℕ → Worth
    term' ℓ = plus (worth (head (c' ℓ)) (c' ℓ)) (raised S n rep add best (c' ℓ))

    -- all the sets of S but that of j bring at most their best
    within : AtMost (plus (sum_if inner term n) (best j)) (plus (term j) (sum_if inner best n))
    within =
        sum_le_but inner term best n j d_in.1.word (and_from (leads rep j) (S j) (eq-eqb (rep j) j d_in.1.own) d_in.2) (λ ℓ v t _.
        let p = and_parts (leads rep ℓ) (S ℓ) t in
        let lead = leader_from n rep ℓ v p.0 in
        covers ℓ lead p.1 (head (c ℓ)) (c ℓ) (c_choice ℓ lead))

    outside_same : (ℓ : ℕ) → Leader n rep ℓ → S ℓ ≡ false → term ℓ ≡ term' ℓ
    outside_same ℓ lead f = let g = (outer ℓ lead f).1 in cc

    -- a merge keeps `Opt`
    pub merge : Opt n stands worth rep add → AtMost (worth_of_heads worth head n) (sum_if (leads (merged S s rep)) term' n)
    merge opt =
        let o : Worth = sum_if (λ ℓ. leads rep ℓ && not (S ℓ)) term n in
        let x : Worth = worth (head d) d in
        let t : Worth = plus (add d) (sum_if inner best n) in
        let k' : Worth = raised S n rep add best d in
        let h₁ : AtMost (worth_of_heads worth head n) (plus (sum_if inner term n) o) = subst (AtMost _) (sum_split (leads rep) S term n) (opt head tree c c_choice) in
        let tj : term j ≡ plus x (add d) = ap (λ (v : ℕ). plus (worth (head v) v) (add v)) c_j in
        let h₂ : AtMost (plus (sum_if inner term n) (best j)) (plus (plus x (add d)) (sum_if inner best n)) = rw tj at within in
        let is : k' ≡ minus t (best j) = cond-true (S d) _ (add d) d_in.0 in
        let h₃ : AtMost t (plus k' (best j)) = rw is (minus_plus_over t (best j)) in
        rw (merged_sum n rep S s sets union term term' outside_same)
        (through _ _ (plus x k') o (best j) _ h₁ h₂ (simp sorts (simp sorts at (at_most_plus t (plus k' (best j)) x h₃))))

pub start : (n : ℕ) (stands : ℕ → ℕ → Bool) (worth : ℕ → ℕ → Worth) → Opt n stands worth (λ w. w) (λ w. [])
start n stands worth head tree c choice =
    let arc : ℕ → Worth = λ v. worth (head v) v in
    at_most_eq _ _ (sum_same (λ v. true) (leads (λ v. v)) arc (λ ℓ. plus (worth (head (c ℓ)) (c ℓ)) []) n (λ v k. sym (eq-eqb v v refl)) (λ v k t.
    rw (choice v (record { word = k; own = refl })).inside (sym (plus_none (arc v)))))

-- no tree is worth more than the best arcs of all the sets
pub end : (n : ℕ) (stands : ℕ → ℕ → Bool) (worth : ℕ → ℕ → Worth) (rep : ℕ → ℕ) (add best : ℕ → Worth) → Sets n rep → ((ℓ : ℕ) → Leader n rep ℓ → Covers n stands worth rep add ℓ (best ℓ)) →
    Opt n stands worth rep add → (head : ℕ → ℕ) → Tree n stands head → AtMost (worth_of_heads worth head n) (sum_if (leads rep) best n)
end n stands worth rep add best sets covers opt head tree =
    let c : ℕ → ℕ = λ ℓ. (some_entry n stands head rep sets tree ℓ).0 in
    let choice : (ℓ : ℕ) → Leader n rep ℓ → Into n stands rep ℓ (head (c ℓ)) (c ℓ) = λ ℓ. (some_entry n stands head rep sets tree ℓ).1 in
    at_most_trans _ _ _ (opt head tree c choice)
    (sum_le (leads rep) (λ ℓ. plus (worth (head (c ℓ)) (c ℓ)) (add (c ℓ))) best n (λ ℓ v t.
    let lead = leader_from n rep ℓ v t in
    covers ℓ lead (head (c ℓ)) (c ℓ) (choice ℓ lead)))

pub none : None
none n stands rep ℓ sets lead closed head tree = let e = entry n stands head rep sets tree ℓ lead in closed (head e.0) e.0 e.1
