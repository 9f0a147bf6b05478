use Rattle.std.proofs.Common.{◌≡◌, ℕ, zero, suc, ◌≤◌, Bool, true, false, eqb, ◌⊎◌, ⊎_elim, List, [], ◌∷◌, sym, refl, ◌∙◌, subst, inl, inr, arith}
use Rattle.std.proofs.lemmas.Bool.{cases_Bool, both_ways, cond-false, cond_both, eq-eqb, ne_eqb, eqb-true}
use Rattle.weight.specs.Worth.{Worth, plus}
use Rattle.tree.specs.Chains.{Word}
use Rattle.arborescence.specs.Search.{Union}
use Rattle.arborescence.proofs.Merged as merges
use Rattle.word_set.specs.Bits.{in_set}
use Rattle.search.specs.Arcs.{InLine}
use Rattle.search.specs.Family.{Group, entry, rep_of, from_of, Begun, Valid}
use Rattle.search.specs.Ring.{Laid}
use Rattle.search.proofs.Records.{entry_to}
use Rattle.search.proofs.Families.{valid_sets}

module _ (n : ℕ) (stands : ℕ → ℕ → Bool) (worth : ℕ → ℕ → Worth) (z : Worth) (nought : (h d : ℕ) → Word n d → h ≤ n → plus (worth h d) z ≡ worth h d) (base : ℕ → Group) where
  pub valid_begun : (ms : List Group) → Valid n stands worth z base ms → Begun n n stands worth z base
  valid_begun [] valid = valid
  valid_begun (m ∷ ms) valid = valid_begun ms valid.0

  module _ (m : Group) (ms : List Group) (old : Laid n base ms) (union : Union n (rep_of ms) (in_set m.members) m.to) where
    closed : (v : ℕ) → v ≤ n → in_set m.members (rep_of ms v) ≡ in_set m.members v
    closed v le = merges.closed n (rep_of ms) (in_set m.members) m.to old.sets union v le

    same : (w : ℕ) → w ≤ n → entry base (m ∷ ms) (rep_of (m ∷ ms) w) ≡ entry base (m ∷ ms) w
    same w le = ⊎_elim (λ t. cc union.inside) (λ f. cc (closed w le, old.same w le)) (cases_Bool (in_set m.members w))

    members : (w v : ℕ) → Word n w → v ≤ n → in_set (entry base (m ∷ ms) w).members v ≡ eqb (rep_of (m ∷ ms) v) (rep_of (m ∷ ms) w)
    members w v word le = by (cases_Bool (in_set m.members w)) (cases_Bool (in_set m.members v))
      where
        apart : (x y : ℕ) → in_set m.members x ≡ true → in_set m.members y ≡ false → x ≡ y → ⊥
        apart x y t f e = both_ways (in_set m.members y) f (subst (λ (q : ℕ). in_set m.members q ≡ true) e t)

        by : (in_set m.members w ≡ true) ⊎ (in_set m.members w ≡ false) → (in_set m.members v ≡ true) ⊎ (in_set m.members v ≡ false) → in_set (entry base (m ∷ ms) w).members v ≡ eqb (rep_of (m ∷ ms) v) (rep_of (m ∷ ms) w)
        by (inl tw) (inl tv) = rw (tw, tv) (sym (eq-eqb m.to m.to refl))
        by (inl tw) (inr fv) = rw (tw, fv) (sym (ne_eqb (rep_of ms v) m.to (λ e. apart m.to (rep_of ms v) union.inside (closed v le ∙ fv) (sym e))))
        by (inr fw) (inl tv) =
            let e : in_set (entry base ms w).members v ≡ eqb (rep_of ms v) (rep_of ms w) = old.members w v word le in
            rw (fw, tv) (e ∙ (ne_eqb (rep_of ms v) (rep_of ms w) (apart (rep_of ms v) (rep_of ms w) (closed v le ∙ tv) (closed w word.1 ∙ fw)) ∙ sym (ne_eqb m.to (rep_of ms w) (apart m.to (rep_of ms w) union.inside (closed w word.1 ∙ fw)))))
        by (inr fw) (inr fv) = rw (fw, fv) (old.members w v word le)

  own : Begun n n stands worth z base → (w : ℕ) → w ≤ n → (base w).to ≡ w
  own begun zero le = begun.top
  own begun (suc w) le = (begun.words (suc w) (omega arith)).own

  pub valid_laid : (ms : List Group) → Valid n stands worth z base ms → Laid n base ms
  valid_laid [] valid =
      record { sets = valid_sets n stands worth z nought base [] valid; same = λ w le. refl; members = λ w v word le. (valid.words w word).single v; own = own valid; in_line = line; root = valid.root; sets_in_line = λ w v x t. alone w v x (sym ((valid.words w v).single x) ∙ t) }
    where
      alone : (w : ℕ) → Word n w → (x : ℕ) → eqb x w ≡ true → x ≤ n
      alone w v x e = omega (arith, eqb-true x w e, v.1)

      line : (w : ℕ) → w ≤ n → (base w).from ≤ n
      line zero le = subst (λ (x : ℕ). x ≤ n) (sym valid.root) le
      line (suc w) le = (valid.words (suc w) (omega arith)).arc.in_line
  valid_laid (m ∷ ms) valid = by (valid_laid ms valid.0)
    where
      by : Laid n base ms → Laid n base (m ∷ ms)
      by old =
          record {
            sets = valid_sets n stands worth z nought base (m ∷ ms) valid;
            same = same m ms old valid.1.union;
            members = members m ms old valid.1.union;
            own = λ w le. entry_to base n (own (valid_begun ms valid.0)) (m ∷ ms) w le;
            in_line = λ w le. cond_both (in_set m.members w) m.from (from_of base ms w) (λ (x : ℕ). x ≤ n) (λ t. valid.1.arc.in_line) (λ f. old.in_line w le);
            root = cond-false (in_set m.members 0) m.from (from_of base ms 0) valid.1.union.root ∙ old.root;
            sets_in_line = λ w v. cond_both (in_set m.members w) m (entry base ms w) (λ (g : Group). InLine n g.members) (λ t. valid.1.in_line) (λ f. old.sets_in_line w v);
          }
