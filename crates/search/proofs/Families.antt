use Rattle.std.proofs.Common.{◌≡◌, ℕ, zero, suc, ◌+◌, ◌-◌, ◌*◌, ◌≤◌, Bool, true, false, ◌⊎◌, List, [], ◌∷◌, sym, refl, ap, ◌∙◌, subst, inl, inr, arith}
use Rattle.std.proofs.lemmas.Bool.{cases_Bool, cond-true, cond-false, eq-eqb}
use Rattle.weight.specs.Worth.{Worth, plus, Within}
use Rattle.tree.specs.Chains.{Word}
use Rattle.arborescence.specs.Sum.{count_if}
use Rattle.arborescence.specs.Search.{Sets, Leader, leads, Into, Covers, Good, arcs_worth}
use Rattle.arborescence.specs.Bounds.{Sized}
use Rattle.weight.proofs.Worths.{plus_none, within_plus, within_more}
use Rattle.arborescence.proofs.Sums.{at_most_eq, sum_same}
use Rattle.arborescence.proofs.Merged.{leader_from, merged_sets}
use Rattle.arborescence.proofs.Whole.{good_start, good_merge}
use Rattle.arborescence.proofs.Carried.{kept}
use Rattle.arborescence.proofs.Bounded.{sized_merge}
use Rattle.word_set.specs.Bits.{in_set}
use Rattle.search.specs.Family.{Group, rep_of, from_of, best_of, add_of, size_of, Valid, Entered}

module _ (n : ℕ) (stands : ℕ → ℕ → Bool) (worth : ℕ → ℕ → Worth) (z : Worth) (nought : (h d : ℕ) → Word n d → h ≤ n → plus (worth h d) z ≡ worth h d) where
  pub id_arcs : (from to : ℕ → ℕ) → ((ℓ : ℕ) → Leader n (λ v. v) ℓ → Into n stands (λ v. v) ℓ (from ℓ) (to ℓ)) → arcs_worth n worth (λ v. v) (λ v. z) from to ≡ arcs_worth n worth (λ v. v) (λ v. []) from to
  id_arcs from to arc =
      sum_same (leads (λ v. v)) (leads (λ v. v)) (λ ℓ. plus (worth (from ℓ) (to ℓ)) z) (λ ℓ. plus (worth (from ℓ) (to ℓ)) []) n (λ w v. refl)
      (λ w v t. let a = arc w (leader_from n (λ v. v) w v t) in nought (from w) (to w) a.word a.in_line ∙ sym (plus_none (worth (from w) (to w))))

  -- the start, where each word adds z
  pub good_start_z : Good n stands worth (λ v. v) (λ v. z)
  good_start_z =
      let g = good_start n stands worth in
      record {
        sets = g.sets;
        above = λ head tree c choice. rw (id_arcs (λ ℓ. head (c ℓ)) c choice) (g.above head tree c choice);
        below = λ goal b. record { from = b.from; to = b.to; arc = b.arc; arrives = b.arrives; enough = rw (id_arcs b.from b.to b.arc) at b.enough };
      }

  module _ (base : ℕ → Group) where
    pub valid_sets : (ms : List Group) → Valid n stands worth z base ms → Sets n (rep_of ms)
    valid_sets [] valid = record { root = refl; word = λ w k. k; leader = λ w k. refl }
    valid_sets (m ∷ ms) valid = merged_sets n (rep_of ms) (in_set m.members) m.to (valid_sets ms valid.0) valid.1.union

    pub entered : (ms : List Group) → Valid n stands worth z base ms → (ℓ : ℕ) → Leader n (rep_of ms) ℓ → Entered n stands worth z base ms ℓ
    entered [] valid ℓ lead = let b = valid.words ℓ lead.word in record { arc = b.arc; valued = b.valued; covers = b.covers }
    entered (m ∷ ms) valid ℓ lead = by (cases_Bool (in_set m.members ℓ)) (entered ms valid.0 ℓ)
      where
        by : (in_set m.members ℓ ≡ true) ⊎ (in_set m.members ℓ ≡ false) → (Leader n (rep_of ms) ℓ → Entered n stands worth z base ms ℓ) → Entered n stands worth z base (m ∷ ms) ℓ
        by (inl t) more =
            let e : ℓ ≡ m.to = sym lead.own ∙ cond-true (in_set m.members ℓ) m.to (rep_of ms ℓ) t in
            let fr : from_of base (m ∷ ms) ℓ ≡ m.from = cond-true (in_set m.members ℓ) m.from (from_of base ms ℓ) t in
            let be : best_of base (m ∷ ms) ℓ ≡ m.value = cond-true (in_set m.members ℓ) m.value (best_of base ms ℓ) t in
            let j = valid.1 in
            record {
              arc = subst (λ (x : ℕ). Into n stands (rep_of (m ∷ ms)) ℓ x ℓ) (sym fr) (subst (λ (x : ℕ). Into n stands (rep_of (m ∷ ms)) x m.from x) (sym e) j.arc);
              valued = be ∙ (subst (λ (x : ℕ). m.value ≡ plus (worth m.from x) (add_of n z base (m ∷ ms) x)) (sym e) j.valued ∙ ap (λ (x : ℕ). plus (worth x ℓ) (add_of n z base (m ∷ ms) ℓ)) (sym fr));
              covers = subst (Covers n stands worth (rep_of (m ∷ ms)) (add_of n z base (m ∷ ms)) ℓ) (sym be) (subst (λ (x : ℕ). Covers n stands worth (rep_of (m ∷ ms)) (add_of n z base (m ∷ ms)) x m.value) (sym e) j.covers);
            }
        by (inr f) more =
            let fr : from_of base (m ∷ ms) ℓ ≡ from_of base ms ℓ = cond-false (in_set m.members ℓ) m.from (from_of base ms ℓ) f in
            let be : best_of base (m ∷ ms) ℓ ≡ best_of base ms ℓ = cond-false (in_set m.members ℓ) m.value (best_of base ms ℓ) f in
            let own : rep_of ms ℓ ≡ ℓ = sym (cond-false (in_set m.members ℓ) m.to (rep_of ms ℓ) f) ∙ lead.own in
            let o = more (record { word = lead.word; own = own }) in
            let k = kept n stands worth (rep_of ms) (add_of n z base ms) (best_of base ms) (in_set m.members) m.to ℓ (best_of base ms ℓ) (valid_sets ms valid.0) valid.1.union f in
            let a = k.1 (from_of base ms ℓ) ℓ o.arc in
            record { arc = rw fr a.0; valued = be ∙ (o.valued ∙ (ap (λ (x : ℕ). plus (worth x ℓ) (add_of n z base ms ℓ)) (sym fr) ∙ ap (plus (worth (from_of base (m ∷ ms) ℓ) ℓ)) (sym a.1))); covers = rw be (k.0 o.covers) }

    pub valid_good : (ms : List Group) → Valid n stands worth z base ms → Good n stands worth (rep_of ms) (add_of n z base ms)
    valid_good [] valid = good_start_z
    valid_good (m ∷ ms) valid =
        let g = valid_good ms valid.0 in
        let e = entered ms valid.0 in
        let j = valid.1 in
        good_merge n stands worth (rep_of ms) (add_of n z base ms) (best_of base ms) (in_set m.members) m.to (from_of base ms) (λ ℓ. ℓ) j.union (λ ℓ l t. (e ℓ l).covers)
        (record { arc = λ ℓ l t. (e ℓ l).arc; within = j.within; is_best = λ ℓ l t. at_most_eq _ _ (e ℓ l).valued; round = j.round }) g

    module _ (b : ℕ) (small : (h d : ℕ) → Word n d → h ≤ n → stands h d ≡ true → Within b (worth h d)) (none : Within 0 z) where
      counted : (k : ℕ) → count_if (leads (λ v. v)) (λ w. 1) k ≡ k
      counted zero = refl
      counted (suc k) = let e : leads (λ v. v) (suc k) ≡ true = eq-eqb (suc k) (suc k) refl in rw (e, counted k) (omega arith)

      -- F of a set is as great as so many arcs as it has words
      pub value_within : (ms : List Group) → Valid n stands worth z base ms → Sized n b (rep_of ms) (add_of n z base ms) (size_of n ms) → (ℓ : ℕ) → Leader n (rep_of ms) ℓ → Within (b * size_of n ms ℓ) (best_of base ms ℓ)
      value_within ms valid sized ℓ lead =
          let e = entered ms valid ℓ lead in
          let s : ℕ = size_of n ms ℓ in
          let some : 1 ≤ s = sized.some ℓ lead in
          let a : Within (b * (s - 1)) (add_of n z base ms ℓ) = subst (λ (x : ℕ). Within (b * (size_of n ms x - 1)) (add_of n z base ms ℓ)) lead.own (sized.small ℓ lead.word) in
          rw e.valued (within_more (b + b * (s - 1)) (b * s) _ (by s some) (within_plus b (b * (s - 1)) (worth (from_of base ms ℓ) ℓ) (add_of n z base ms ℓ) (small (from_of base ms ℓ) ℓ lead.word e.arc.in_line e.arc.standing) a))
        where
          by : (s : ℕ) → 1 ≤ s → b + b * (s - 1) ≤ b * s
          by zero h = absurd (omega arith)
          by (suc s) h = let e : suc s - 1 ≡ s = omega arith in rw e (omega arith)

      pub valid_sized : (ms : List Group) → Valid n stands worth z base ms → Sized n b (rep_of ms) (add_of n z base ms) (size_of n ms)
      valid_sized [] valid = record { some = λ ℓ l. omega arith; all = counted n; small = λ d v. within_more 0 (b * (1 - 1)) z (omega arith) none }
      valid_sized (m ∷ ms) valid =
          let s = valid_sized ms valid.0 in
          sized_merge n b (rep_of ms) (add_of n z base ms) (best_of base ms) (in_set m.members) m.to (size_of n ms) (valid_sets ms valid.0) valid.1.union (λ ℓ l t. value_within ms valid.0 s ℓ l) s
