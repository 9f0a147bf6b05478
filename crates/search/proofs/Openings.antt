use Rattle.std.proofs.Common.{◌≡◌, ℕ, zero, suc, ◌≤◌, Bool, true, false, ◌||◌, eqb, ◌⊎◌, ⊎_elim, List, [], ◌∷◌, sym, refl, ap, ◌∙◌, subst, inl, inr, arith}
use Rattle.std.proofs.Math.Bool.{or-false}
use Rattle.std.proofs.lemmas.Bool.{cases_Bool, cases_eq, both_ways, false_from_ne_true, or_right, cond-true, cond-false, eq-eqb, ne_eqb}
use Rattle.weight.specs.Worth.{Worth, plus, AtMost}
use Rattle.tree.specs.Chains.{Word, up, Reaches}
use Rattle.arborescence.specs.Sum.{sum_if}
use Rattle.arborescence.specs.Search.{Tree, worth_of_heads, Sets, Leader, leads, Built, Union, Circle}
use Rattle.weight.proofs.Worths.{at_most_trans}
use Rattle.arborescence.proofs.Sums.{at_most_eq, sum_le, sum_same}
use Rattle.arborescence.proofs.Merged as merges
use Rattle.arborescence.proofs.Above as above
use Rattle.arborescence.proofs.Below.{unmerge, unmerge_at, unmerge_in, unmerge_out, bottom_from}
use Rattle.word_set.specs.Bits.{in_set}
use Rattle.search.specs.Family.{Group, rep_of, from_of, best_of, add_of, Valid, Entered}
use Rattle.search.specs.Opening.{Shut, EnteredBy, Opened, BestOfAll}
use Rattle.search.specs.Ring.{Laid}
use Rattle.search.proofs.Rings.{up_rep}
use Rattle.search.proofs.Families.{id_arcs, entered, valid_sets, valid_good}

-- what a heaviest arborescence weighs
abbrev pub goal_of : ℕ → (ℕ → Group) → List Group → Worth
goal_of n base ms = sum_if (leads (rep_of ms)) (best_of base ms) n

module _ (n : ℕ) (stands : ℕ → ℕ → Bool) (worth : ℕ → ℕ → Worth) (z : Worth) (nought : (h d : ℕ) → Word n d → h ≤ n → plus (worth h d) z ≡ worth h d) (base : ℕ → Group) where
  circle : (m : Group) (ms : List Group) → Valid n stands worth z base (m ∷ ms) → Circle n stands worth (rep_of ms) (add_of n z base ms) (best_of base ms) (in_set m.members) (from_of base ms) (λ ℓ. ℓ)
  circle m ms valid =
      let e = entered n stands worth z nought base ms valid.0 in
      record { arc = λ ℓ l t. (e ℓ l).arc; within = valid.1.within; is_best = λ ℓ l t. at_most_eq _ _ (e ℓ l).valued; round = valid.1.round }

  module _ (m : Group) (ms : List Group) (valid : Valid n stands worth z base (m ∷ ms)) (goal : Worth) where
    sets : Sets n (rep_of ms)
    sets = valid_sets n stands worth z nought base ms valid.0

    union : Union n (rep_of ms) (in_set m.members) m.to
    union = valid.1.union

    top_lead : Leader n (rep_of (m ∷ ms)) m.to
    top_lead = record { word = union.word; own = merges.at_s n (rep_of ms) (in_set m.members) m.to sets union }

    -- the sets of a merged set: one has the arc by which that is entered, the others their own
    pub open_set : (done : ℕ) (head : ℕ → ℕ) (o : Opened n stands worth z base (m ∷ ms) goal done head) → EnteredBy n (m ∷ ms) done head o.built.from o.built.to m.to → Opened n stands worth z base ms goal done head
    open_set done head o by_word_lem = record { built = new; held = λ ℓ l. held ℓ l (cases_Bool (in_set m.members ℓ)) (cases_eq ℓ (rep_of ms (o.built.to m.to))); rest = o.rest }
      where
        new : Built n stands worth (rep_of ms) (add_of n z base ms) goal
        new = unmerge n stands worth (rep_of ms) (add_of n z base ms) (best_of base ms) (in_set m.members) m.to (from_of base ms) (λ ℓ. ℓ) goal sets union (circle m ms valid) o.built

        top : (v ℓ : ℕ) → Word n v → rep_of ms v ≡ ℓ → in_set m.members ℓ ≡ true → rep_of (m ∷ ms) v ≡ m.to
        top v ℓ w e t = cond-true (in_set m.members v) m.to (rep_of ms v) (sym (union.closed v w) ∙ (ap (in_set m.members) e ∙ t))

        out : (v ℓ : ℕ) → Word n v → rep_of ms v ≡ ℓ → in_set m.members ℓ ≡ false → rep_of (m ∷ ms) v ≡ ℓ
        out v ℓ w e f = cond-false (in_set m.members v) m.to (rep_of ms v) (sym (union.closed v w) ∙ (ap (in_set m.members) e ∙ f)) ∙ e

        outer : (ℓ : ℕ) → in_set m.members ℓ ≡ false → Leader n (rep_of ms) ℓ → (new.from ℓ ≡ o.built.from ℓ) × (new.to ℓ ≡ o.built.to ℓ) → Shut n base (m ∷ ms) done o.built.from o.built.to ℓ ⊎ EnteredBy n (m ∷ ms) done head o.built.from o.built.to ℓ →
            Shut n base ms done new.from new.to ℓ ⊎ EnteredBy n ms done head new.from new.to ℓ
        outer ℓ f l e (inl a) = inl (record { none = λ v w q. a.none v w (out v ℓ w q f); own_from = e.0 ∙ (a.own_from ∙ cond-false (in_set m.members ℓ) m.from (from_of base ms ℓ) f); own_to = e.1 ∙ a.own_to })
        outer ℓ f l e (inr a) = inr (record { is_done = subst (λ (x : ℕ). in_set done x ≡ true) (sym e.1) a.is_done; is_head = ap head e.1 ∙ (a.is_head ∙ sym e.0); only = λ v w q t. a.only v w (out v ℓ w q f) t ∙ sym e.1 })

        held : (ℓ : ℕ) → Leader n (rep_of ms) ℓ → (in_set m.members ℓ ≡ true) ⊎ (in_set m.members ℓ ≡ false) → (ℓ ≡ rep_of ms (o.built.to m.to)) ⊎ (ℓ ≡ rep_of ms (o.built.to m.to) → ⊥) → Shut n base ms done new.from new.to ℓ ⊎ EnteredBy n ms done head new.from new.to ℓ
        held ℓ l (inl t) (inl q) =
            let e = unmerge_at n stands worth (rep_of ms) (add_of n z base ms) (best_of base ms) (in_set m.members) m.to (from_of base ms) (λ ℓ. ℓ) goal sets union (circle m ms valid) o.built ℓ t q in
            inr (record { is_done = subst (λ (x : ℕ). in_set done x ≡ true) (sym e.1) by_word_lem.is_done; is_head = ap head e.1 ∙ (by_word_lem.is_head ∙ sym e.0); only = λ v w r d. by_word_lem.only v w (top v ℓ w r t) d ∙ sym e.1 })
        held ℓ l (inl t) (inr q) =
            let e = unmerge_in n stands worth (rep_of ms) (add_of n z base ms) (best_of base ms) (in_set m.members) m.to (from_of base ms) (λ ℓ. ℓ) goal sets union (circle m ms valid) o.built ℓ t q in
            inl (record { none = λ v w r. false_from_ne_true (in_set done v) (λ d. q (sym r ∙ ap (rep_of ms) (by_word_lem.only v w (top v ℓ w r t) d))); own_from = e.0; own_to = e.1 })
        held ℓ l (inr f) _ =
            outer ℓ f l (unmerge_out n stands worth (rep_of ms) (add_of n z base ms) (best_of base ms) (in_set m.members) m.to (from_of base ms) (λ ℓ. ℓ) goal sets union (circle m ms valid) o.built ℓ f)
            (o.held ℓ (record { word = l.word; own = cond-false (in_set m.members ℓ) m.to (rep_of ms ℓ) f ∙ l.own }))

    -- a word of the set has its head already
    pub open_done : (done : ℕ) (head : ℕ → ℕ) → Opened n stands worth z base (m ∷ ms) goal done head → (v : ℕ) → Word n v → in_set m.members v ≡ true → in_set done v ≡ true → Opened n stands worth z base ms goal done head
    open_done done head o v w t d = open_set done head o (⊎_elim (λ a. absurd (both_ways (in_set done v) (a.none v w (cond-true (in_set m.members v) m.to (rep_of ms v) t)) d)) (λ a. a) (o.held m.to top_lead))

    -- none has: the set's own arc is taken
    pub open_own : (done done' : ℕ) (head head' : ℕ → ℕ) → Opened n stands worth z base (m ∷ ms) goal done head → ((v : ℕ) → Word n v → in_set m.members v ≡ true → in_set done v ≡ false) →
        ((v : ℕ) → in_set done' v ≡ (in_set done v || eqb v m.to)) → head' m.to ≡ m.from → ((w : ℕ) → Word n w → (w ≡ m.to → ⊥) → head' w ≡ head w) → Opened n stands worth z base ms goal done' head'
    open_own done done' head head' o apart is here there = open_set done' head' (record { built = o.built; held = λ ℓ l. held ℓ l (cases_Bool (in_set m.members ℓ)); rest = rest }) entered_now
      where
        old : (v : ℕ) → (v ≡ m.to → ⊥) → in_set done' v ≡ in_set done v
        old v ne = is v ∙ rw (ne_eqb v m.to ne) (or-false (in_set done v))

        shut : Shut n base (m ∷ ms) done o.built.from o.built.to m.to
        shut = by (o.held m.to top_lead)
          where
            by : Shut n base (m ∷ ms) done o.built.from o.built.to m.to ⊎ EnteredBy n (m ∷ ms) done head o.built.from o.built.to m.to → Shut n base (m ∷ ms) done o.built.from o.built.to m.to
            by (inl a) = a
            by (inr a) =
                let arc = o.built.arc m.to top_lead in
                let t : in_set m.members (o.built.to m.to) ≡ true = merges.same_side n (rep_of ms) (in_set m.members) m.to sets union (o.built.to m.to) m.to arc.word.1 arc.inside ∙ union.inside in
                absurd (both_ways (in_set done (o.built.to m.to)) (apart (o.built.to m.to) arc.word t) a.is_done)

        in_top : (v : ℕ) → Word n v → rep_of (m ∷ ms) v ≡ m.to → in_set m.members v ≡ true
        in_top v w e = merges.same_side n (rep_of ms) (in_set m.members) m.to sets union v m.to w.1 e ∙ union.inside

        entered_now : EnteredBy n (m ∷ ms) done' head' o.built.from o.built.to m.to
        entered_now =
            record {
              is_done = subst (λ (x : ℕ). in_set done' x ≡ true) (sym shut.own_to) (is m.to ∙ or_right (in_set done m.to) (eqb m.to m.to) (eq-eqb m.to m.to refl));
              is_head = ap head' shut.own_to ∙ (here ∙ sym (shut.own_from ∙ cond-true (in_set m.members m.to) m.from (from_of base ms m.to) union.inside));
              only = λ v w e d. ⊎_elim (λ q. q) (λ q. absurd (both_ways (in_set done v) (apart v w (in_top v w e)) (sym (old v q) ∙ d))) (cases_eq v m.to) ∙ sym shut.own_to;
            }

        rest : (w : ℕ) → Word n w → in_set done' w ≡ false → head' w ≡ (base w).from
        rest w v f = by (cases_eq w m.to)
          where
            by : (w ≡ m.to) ⊎ (w ≡ m.to → ⊥) → head' w ≡ (base w).from
            by (inl q) = absurd (both_ways (in_set done' w) f (subst (λ (x : ℕ). in_set done' x ≡ true) (sym q ∙ refl) (subst (λ (x : ℕ). in_set done' x ≡ true) shut.own_to entered_now.is_done)))
            by (inr q) = there w v q ∙ o.rest w v (sym (old w q) ∙ f)

        held : (ℓ : ℕ) → Leader n (rep_of (m ∷ ms)) ℓ → (in_set m.members ℓ ≡ true) ⊎ (in_set m.members ℓ ≡ false) → Shut n base (m ∷ ms) done' o.built.from o.built.to ℓ ⊎ EnteredBy n (m ∷ ms) done' head' o.built.from o.built.to ℓ
        held ℓ l (inl t) = let q : m.to ≡ ℓ = sym (cond-true (in_set m.members ℓ) m.to (rep_of ms ℓ) t) ∙ l.own in inr (subst (EnteredBy n (m ∷ ms) done' head' o.built.from o.built.to) q entered_now)
        held ℓ l (inr f) = by (o.held ℓ l)
          where
            away : (v : ℕ) → Word n v → rep_of (m ∷ ms) v ≡ ℓ → v ≡ m.to → ⊥
            away v w e q = both_ways (in_set m.members v) (merges.same_side n (rep_of ms) (in_set m.members) m.to sets union v ℓ w.1 e ∙ f) (subst (λ (x : ℕ). in_set m.members x ≡ true) (sym q) union.inside)

            by : Shut n base (m ∷ ms) done o.built.from o.built.to ℓ ⊎ EnteredBy n (m ∷ ms) done head o.built.from o.built.to ℓ → Shut n base (m ∷ ms) done' o.built.from o.built.to ℓ ⊎ EnteredBy n (m ∷ ms) done' head' o.built.from o.built.to ℓ
            by (inl a) = inl (record { none = λ v w e. old v (away v w e) ∙ a.none v w e; own_from = a.own_from; own_to = a.own_to })
            by (inr a) =
                let arc = o.built.arc ℓ l in
                let ne = away (o.built.to ℓ) arc.word arc.inside in
                inr (record { is_done = old (o.built.to ℓ) ne ∙ a.is_done; is_head = there (o.built.to ℓ) arc.word ne ∙ a.is_head; only = λ v w e d. a.only v w e (sym (old v (away v w e)) ∙ d) })

  -- before the opening
  pub open_start : (ms : List Group) → Valid n stands worth z base ms → Laid n base ms → ((w : ℕ) → Word n w → Reaches (from_of base ms) w) → (done : ℕ) (head : ℕ → ℕ) → ((v : ℕ) → in_set done v ≡ false) → ((w : ℕ) → Word n w → head w ≡ (base w).from) → Opened n stands worth z base ms (goal_of n base ms) done head
  open_start ms valid laid reach done head none fill =
      record { built = record { from = from_of base ms; to = λ ℓ. ℓ; arc = λ ℓ l. (e ℓ l).arc; arrives = arrives; enough = sum_le (leads (rep_of ms)) (best_of base ms) (λ ℓ. plus (worth (from_of base ms ℓ) ℓ) (add_of n z base ms ℓ)) n (λ ℓ v t. at_most_eq _ _ (e ℓ (merges.leader_from n (rep_of ms) ℓ v t)).valued) }; held = λ ℓ l. inl (record { none = λ v w q. none v; own_from = refl; own_to = refl }); rest = λ w v f. fill w v }
    where
      e : (ℓ : ℕ) → Leader n (rep_of ms) ℓ → Entered n stands worth z base ms ℓ
      e = entered n stands worth z nought base ms valid

      arrives : (ℓ : ℕ) → Leader n (rep_of ms) ℓ → Reaches (λ i. rep_of ms (from_of base ms i)) ℓ
      arrives ℓ l = let r = reach ℓ l.word in (r.0, ap (up (λ i. rep_of ms (from_of base ms i)) r.0) (sym l.own) ∙ (up_rep n base ms laid r.0 ℓ l.word.1 ∙ (ap (rep_of ms) r.1 ∙ laid.sets.root)))

  -- a tree by heads that agree at the words
  module _ (h h' : ℕ → ℕ) (same : (w : ℕ) → Word n w → h' w ≡ h w) (tree : Tree n stands h) where
    chain : (k w : ℕ) → w ≤ n → up h k w ≡ 0 → Reaches h' w
    chain zero w le e = (0, e)
    chain (suc k) w le e = by (cases_eq w 0) (chain k (h w))
      where
        by : (w ≡ 0) ⊎ (w ≡ 0 → ⊥) → (h w ≤ n → up h k (h w) ≡ 0 → Reaches h' (h w)) → Reaches h' w
        by (inl q) more = (0, q)
        by (inr q) more =
            let v : Word n w = omega arith in
            let r = more (tree.in_line w v) e in
            (suc r.0, ap (up h' r.0) (same w v) ∙ r.1)

    pub tree_same : Tree n stands h' × (worth_of_heads worth h' n ≡ worth_of_heads worth h n)
    tree_same =
        (record { in_line = λ w v. rw (same w v) (tree.in_line w v); reaches = λ w v. let r = tree.reaches w v in chain r.0 w v.1 r.1; standing = λ w v. rw (same w v) (tree.standing w v) }, sum_same (λ w. true) (λ w. true) (λ w. worth (h' w) w) (λ w. worth (h w) w) n (λ w v. refl) (λ w v t. ap (λ (x : ℕ). worth x w) (same w v)))

  -- after the opening
  pub open_end : (ms : List Group) → Valid n stands worth z base ms → (done : ℕ) (head : ℕ → ℕ) → Opened n stands worth z base [] (goal_of n base ms) done head → BestOfAll n stands worth head
  open_end ms valid done head o =
      let g = valid_good n stands worth z nought base ms valid in
      let e = entered n stands worth z nought base ms valid in
      (is.0, λ other tree. at_most_trans _ _ _ (above.end n stands worth (rep_of ms) (add_of n z base ms) (best_of base ms) g.sets (λ ℓ l. (e ℓ l).covers) g.above other tree) (subst (AtMost (goal_of n base ms)) (sym is.1) t.1))
    where
      t : Tree n stands o.built.from × AtMost (goal_of n base ms) (worth_of_heads worth o.built.from n)
      t = bottom_from n stands worth (goal_of n base ms) (record { from = o.built.from; to = o.built.to; arc = o.built.arc; arrives = o.built.arrives; enough = rw (id_arcs n stands worth z nought o.built.from o.built.to o.built.arc) at o.built.enough })

      same : (w : ℕ) → Word n w → head w ≡ o.built.from w
      same w v = by (o.held w (record { word = v; own = refl }))
        where
          by : Shut n base [] done o.built.from o.built.to w ⊎ EnteredBy n [] done head o.built.from o.built.to w → head w ≡ o.built.from w
          by (inl a) = o.rest w v (a.none w v refl) ∙ sym a.own_from
          by (inr a) = let q : o.built.to w ≡ w = (o.built.arc w (record { word = v; own = refl })).inside in ap head (sym q) ∙ a.is_head

      is : Tree n stands head × (worth_of_heads worth head n ≡ worth_of_heads worth o.built.from n)
      is = tree_same o.built.from head same t.0
