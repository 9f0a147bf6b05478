-- The last record that names an arc gives its weight.
use Rattle.std.proofs.Common.{◌≡◌, ℕ, zero, suc, ◌+◌, ◌<◌, ◌≤◌, true, false, cond, ◌⊎◌, List, Some, sym, refl, ap, ◌∙◌, subst, inl, inr, arith}
use Rattle.file.specs.Formats.{Format}
use Rattle.file.specs.Records.{LastStands, names, put_record, put_records, record_place}
use Rattle.sheet.specs.Arcs.{Arcs, no_arcs}
use Rattle.std.proofs.lemmas.Bool.{cases_eq}

-- puts that do not name an arc leave it as it was
unnamed : {K : Type 0} (f : Format K) (file : List ℕ) (k left : ℕ) (arcs : Arcs K) (h d : ℕ) → ((i : ℕ) → k ≤ i → i < k + left → names f file i h d ≡ false) → put_records f file k left arcs h d ≡ arcs h d
unnamed f file k zero arcs h d others = refl
unnamed f file k (suc left) arcs h d others =
    unnamed f file (k + 1) left (put_record f file k arcs) h d (λ i low high. others i (omega arith) (omega arith))
    ∙ ap (λ b. cond b (Some (f.weight_at file (record_place f.width k + 2))) (arcs h d)) (others k (omega arith) (omega arith))

stands : {K : Type 0} (f : Format K) (file : List ℕ) (k left j : ℕ) (arcs : Arcs K) (h d : ℕ) → k ≤ j → j < k + left → names f file j h d ≡ true → ((i : ℕ) → j < i → i < k + left → names f file i h d ≡ false) → put_records f file k left arcs h d ≡ Some (f.weight_at file (record_place f.width j + 2))
stands f file k zero j arcs h d low high named others = absurd (omega arith)
stands f file k (suc left) j arcs h d low high named others =
    by (cases_eq j k) (λ other. stands f file (k + 1) left j (put_record f file k arcs) h d (omega arith) (omega arith) named (λ i l u. others i l (omega arith)))
  where
    by : (j ≡ k) ⊎ (j ≡ k → ⊥) → ((j ≡ k → ⊥) → put_records f file k (suc left) arcs h d ≡ Some (f.weight_at file (record_place f.width j + 2))) → put_records f file k (suc left) arcs h d ≡ Some (f.weight_at file (record_place f.width j + 2))
    by (inl same) later =
        unnamed f file (k + 1) left (put_record f file k arcs) h d (λ i l u. others i (omega arith) (omega arith))
        ∙ ap (λ b. cond b (Some (f.weight_at file (record_place f.width k + 2))) (arcs h d)) (subst (λ (m : ℕ). names f file m h d ≡ true) same named)
        ∙ ap (λ (m : ℕ). Some (f.weight_at file (record_place f.width m + 2))) (sym same)
    by (inr other) later = later other

pub last_stands : {K : Type 0} (f : Format K) → LastStands f
last_stands f =
    record {
      last = λ file count j h d lt named others. stands f file 0 count j no_arcs h d (omega arith) (omega arith) named (λ i l u. others i l (omega arith));
      absent = λ file count h d others. unnamed f file 0 count no_arcs h d (λ i l u. others i (omega arith));
    }
