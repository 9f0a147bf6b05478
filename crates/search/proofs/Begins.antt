use Rattle.std.proofs.Common.{◌≡◌, ℕ, ◌+◌, ◌-◌, ◌<◌, ◌≤◌, Bool, true, false, not, ◌&&◌, eqb, leb, ◌⊎◌, List, length, set, Some, sym, refl, ap, ◌∙◌, subst, inl, inr, arith}
use Rattle.std.proofs.lemmas.Bool.{cases_eq, both_ways, eq-eqb, ne_eqb}
use Rattle.weight.specs.Worth.{Worth, plus}
use Rattle.tree.specs.Chains.{Word}
use Rattle.arborescence.specs.Search.{Tree, Into}
use Rattle.arborescence.proofs.Above as above
use Rattle.search.specs.declared.family.Node.{Node}
use Rattle.word_set.specs.Bits.{in_set}
use Rattle.search.specs.Arcs.{BestHead}
use Rattle.search.proofs.Scan.{free_arc, arc_free}
use Rattle.search.specs.Family.{Group, BegunAt, Begun}
use Rattle.search.specs.State.{view, group_at}
use Rattle.search.proofs.Steps.{group_set_same, group_set_other}

module _ {K : Type 0} (f : K → Worth) (n : ℕ) (stands : ℕ → ℕ → Bool) (worth : ℕ → ℕ → Worth) (z : Worth) where
  -- the arcs into one word from elsewhere
  module _ (word members heads free : ℕ) (v : Word n word) (is : (x : ℕ) → in_set members x ≡ eqb x word)
      (looked : (h : ℕ) → in_set heads h ≡ (leb h n && stands h word)) (rest : (h : ℕ) → in_set free h ≡ (in_set heads h && not (in_set members h))) where
    scan : (h d : ℕ) → Into n stands (λ x. x) word h d → in_set free h ≡ true
    scan h d i = arc_free f worth n stands members word heads free looked rest h i.in_line (subst (λ (x : ℕ). stands h x ≡ true) i.inside i.standing) (is h ∙ ne_eqb h word i.outside)

    pub begin_none : ((h : ℕ) → in_set free h ≡ false) → (head : ℕ → ℕ) → Tree n stands head → ⊥
    begin_none no_arc = above.none n stands (λ x. x) word (record { root = refl; word = λ w k. k; leader = λ w k. refl }) (record { word = v; own = refl }) (λ h d i. both_ways (in_set free h) (no_arc h) (scan h d i))

    pub begin_some : ((h d : ℕ) → Word n d → h ≤ n → plus (worth h d) z ≡ worth h d) → (from : ℕ) (value : Worth) → value ≡ worth from word → BestHead (in_set free) (λ h. worth h word) (Some from) → BegunAt n stands worth z (record { members = members; from = from; to = word; value = value }) word
    begin_some whole from value same best =
        let a = free_arc f worth n stands members word heads free looked rest from best.0 in
        record {
          own = refl;
          single = is;
          arc = record { word = v; in_line = a.0; standing = a.1; inside = refl; outside = λ q. both_ways (in_set members from) a.2 (is from ∙ eq-eqb from word q) };
          valued = same ∙ sym (whole from word v a.0);
          covers = λ h d i. rw (whole h d i.word i.in_line, same, i.inside) (best.1 h (scan h d i));
          first = λ h d i m. inr (sym i.inside, best.2 h (scan h d i) (rw (whole h d i.word i.in_line, same, i.inside) at m));
        }

  pub begin_more : (words : List (Node K)) (k : ℕ) (x : Node K) → 1 ≤ k → k < length words → BegunAt n stands worth z (view f x) k → Begun n (k - 1) stands worth z (group_at f words) → Begun n (k + 1 - 1) stands worth z (group_at f (set words k x))
  begin_more words k x one l here old =
      let r : group_at f (set words k x) 0 ≡ group_at f words 0 = group_set_other f words k 0 x (λ e. omega arith) in
      record { top = ap (λ (g : Group). g.to) r ∙ old.top; root = ap (λ (g : Group). g.from) r ∙ old.root; words = λ w v. by w v (cases_eq w k) }
    where
      by : (w : ℕ) → Word (k + 1 - 1) w → (w ≡ k) ⊎ (w ≡ k → ⊥) → BegunAt n stands worth z (group_at f (set words k x) w) w
      by w v (inl e) = subst (λ (y : ℕ). BegunAt n stands worth z (group_at f (set words k x) y) y) (sym e) (subst (λ (g : Group). BegunAt n stands worth z g k) (sym (group_set_same f words k x l)) here)
      by w v (inr e) = subst (λ (g : Group). BegunAt n stands worth z g w) (sym (group_set_other f words k w x e)) (old.words w (v.0, omega (arith, v.1)))
