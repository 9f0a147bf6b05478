-- The puts of a file as turns, and what its reader answers.
use Rattle.std.proofs.Common.{◌≡◌, ℕ, zero, suc, ◌+◌, ◌<◌, false, List, Some, None, Ok, Err, Option, Result, sym, refl, ap, ◌∙◌, subst, arith}
use Rattle.file.specs.Formats.{Format}
use Rattle.file.specs.Reading.{frame_words, record_count, RecordsRead, OpeningRead, FrameRead, ReadAs}
use Rattle.file.specs.Records.{fault_in, first_of, put_record, put_records, put_refusal, record_check, record_place, records_check}
use Rattle.file.specs.declared.fault.FileFault.{FileFault}
use Rattle.file.specs.declared.fault.RecordFault.{RecordFault}
use Rattle.ranking.specs.Memory.{MemoryParts}
use Rattle.refusal.specs.declared.Refusal.{Refusal}
use Rattle.run.specs.Files.{file_turns, FileStands, records_answer, opening_answer, frame_answer, read_answer}
use Rattle.run.specs.Law.{standing, ranks, Keeps}
use Rattle.run.specs.Steps.{Begins}
use Rattle.sheet.specs.Arcs.{Arcs, HoldsArcs, no_arcs}
use Rattle.sheet.specs.Calls.{Holds, open_check}
use Rattle.sheet.specs.declared.Lengths.{Lengths}
use Rattle.sheet.specs.declared.Sheet.{Sheet}
use Rattle.weight.specs.Range.{Range, entry_in}
use Rattle.weight.specs.Worth.{Worth}

module _ {K : Type 0} (f : Format K) (file : List ℕ) where
  -- ---- the arcs that they leave

  -- the last of the puts comes last
  last_put : (k left : ℕ) (arcs : Arcs K) → put_records f file k (suc left) arcs ≡ put_record f file (k + left) (put_records f file k left arcs)
  last_put k zero arcs = let e : k ≡ k + 0 = omega arith in ap (λ (m : ℕ). put_record f file m arcs) e
  last_put k (suc left) arcs =
      let e : k + 1 + left ≡ k + suc left = omega arith in
      last_put (k + 1) left (put_record f file k arcs) ∙ ap (λ (m : ℕ). put_record f file m (put_records f file (k + 1) left (put_record f file k arcs))) e

  stands_as_put : (count : ℕ) → standing (file_turns f file count) ≡ put_records f file 0 count no_arcs
  stands_as_put zero = refl
  stands_as_put (suc count) =
      let e : count ≡ 0 + count = omega arith in
      ap (put_record f file count) (stands_as_put count) ∙ (ap (λ (m : ℕ). put_record f file m (put_records f file 0 count no_arcs)) e ∙ sym (last_put 0 count no_arcs))

  -- ---- they keep the law, on a sheet of n words

  never_ranks : (count : ℕ) → ranks (file_turns f file count) ≡ false
  never_ranks zero = refl
  never_ranks (suc count) = never_ranks count

  -- no record has a fault
  passes_record : (n k left i j : ℕ) → records_check f n file k left ≡ None → i ≡ k + j → j < left → record_check f n file i ≡ None
  passes_record n k zero i j none e lt = absurd (omega arith)
  passes_record n k (suc left) i j none e lt = by j e lt (record_check f n file k) refl none (λ m later same. passes_record n (k + 1) left i m later same)
    where
      by : (j : ℕ) → i ≡ k + j → j < suc left → (o : Option RecordFault) → record_check f n file k ≡ o → first_of o (records_check f n file (k + 1) left) ≡ None →
          ((m : ℕ) → records_check f n file (k + 1) left ≡ None → i ≡ k + 1 + m → m < left → record_check f n file i ≡ None) → record_check f n file i ≡ None
      by j e lt (Some d) is none later = absurd cc
      by zero e lt None is none later = let same : i ≡ k = omega arith in rw same is
      by (suc m) e lt None is none later = later m none (omega arith) (omega arith)

  -- so its put is not refused
  put_passes : (n k : ℕ) → record_check f n file k ≡ None → put_refusal f n file (record_place f.width k) ≡ None
  put_passes n k none = by (put_refusal f n file (record_place f.width k)) none
    where
      by : (o : Option Refusal) → fault_in k (record_place f.width k) o ≡ None → o ≡ None
      by None e = refl
      by (Some d) e = absurd cc

  module _ (worth : K → Worth) (ranges : List Range) (entries : (x : K) → f.entry x ≡ entry_in ranges (worth x)) (n : ℕ) where
    keeps_first : (count : ℕ) → ((j : ℕ) → j < count → record_check f n file j ≡ None) → Keeps worth ranges n (file_turns f file count)
    keeps_first zero none = tt
    keeps_first (suc count) none =
        (rw (never_ranks count, ← entries (f.weight_at file (record_place f.width count + 2)), put_passes n count (none count (omega arith))) refl, keeps_first count (λ j lt. none j (omega arith)))

    file_keeps : (count : ℕ) → records_check f n file 0 count ≡ None → Keeps worth ranges n (file_turns f file count)
    file_keeps count none = keeps_first count (λ j lt. passes_record n 0 count j j none (omega arith) lt)

    -- a sheet on which they were put
    pub file_begins : (count : ℕ) (memory : MemoryParts K) → records_check f n file 0 count ≡ None → HoldsArcs worth ranges n memory.weights memory.sets (put_records f file 0 count no_arcs) → Begins worth ranges n (file_turns f file count) memory
    file_begins count memory none held =
        record { no_ranking = never_ranks count; keeps = file_keeps count none; holds = subst (HoldsArcs worth ranges n memory.weights memory.sets) (sym (stands_as_put count)) held }

  -- ---- what the reader answered

  module _ (l : Lengths) (weights weights' : List K) (sets sets' : List ℕ) where
    pub refused_read : (e : FileFault) → ReadAs f l file (Err e) weights weights' sets sets' → read_answer f l file ≡ Err e
    refused_read e a = by_frame (frame_words f.kind f.width file) a
      where
        by_records : (n : ℕ) (o : Option RecordFault) → RecordsRead f n file o (Err e) weights weights' sets sets' → records_answer n o ≡ Err e
        by_records n (Some d) a = let z = a.0 in cc
        by_records n None a = absurd (let z = a.0 in cc)

        by_opening : (n : ℕ) (o : Option Refusal) → OpeningRead f n file o (Err e) weights weights' sets sets' → opening_answer f file n o ≡ Err e
        by_opening n (Some d) a = let z = a.0 in cc
        by_opening n None a = by_records n (records_check f n file 0 (record_count f.width file)) a

        by_frame : (o : Result ℕ FileFault) → FrameRead f l file o (Err e) weights weights' sets sets' → frame_answer f l file o ≡ Err e
        by_frame (Err d) a = let z = a.0 in cc
        by_frame (Ok n) a = by_opening n (open_check n l) a

    -- a file that was accepted makes a sheet of n words
    pub record Accepted (n : ℕ) : Type 0 where
      pub answer : read_answer f l file ≡ Ok n
      pub opens : open_check n l ≡ None
      pub passes : records_check f n file 0 (record_count f.width file) ≡ None
      pub holds : Holds n (put_records f file 0 (record_count f.width file) no_arcs) weights weights' sets sets'

    pub accepted_read : (s : Sheet K) → ReadAs f l file (Ok s) weights weights' sets sets' → Accepted s.words
    accepted_read s a = by_frame (frame_words f.kind f.width file) refl a
      where
        by_records : (n : ℕ) → frame_words f.kind f.width file ≡ Ok n → open_check n l ≡ None → (o : Option RecordFault) → records_check f n file 0 (record_count f.width file) ≡ o → RecordsRead f n file o (Ok s) weights weights' sets sets' → Accepted s.words
        by_records n framed opens (Some d) is a = absurd (let z = a.0 in cc)
        by_records n framed opens None is a =
            subst Accepted (sym a.1) (record {
              answer = ap (frame_answer f l file) framed ∙ (ap (opening_answer f file n) opens ∙ ap (records_answer n) is);
              opens = opens;
              passes = is;
              holds = a.2;
            })

        by_opening : (n : ℕ) → frame_words f.kind f.width file ≡ Ok n → (o : Option Refusal) → open_check n l ≡ o → OpeningRead f n file o (Ok s) weights weights' sets sets' → Accepted s.words
        by_opening n framed (Some d) is a = absurd (let z = a.0 in cc)
        by_opening n framed None is a = by_records n framed is (records_check f n file 0 (record_count f.width file)) refl a

        by_frame : (o : Result ℕ FileFault) → frame_words f.kind f.width file ≡ o → FrameRead f l file o (Ok s) weights weights' sets sets' → Accepted s.words
        by_frame (Err d) is a = absurd (let z = a.0 in cc)
        by_frame (Ok n) is a = by_opening n is (open_check n l) refl a

pub file_stands : {K : Type 0} → FileStands K
file_stands {K = K} f file count h d = ap (λ (arcs : Arcs K). arcs h d) (stands_as_put f file count)
