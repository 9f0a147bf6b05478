-- A reader's answer is what the file says.
use Rattle.std.proofs.Common.{◌≡◌, ℕ, ◌+◌, ◌*◌, ◌-◌, ◌≤◌, false, ltb, List, Some, None, Ok, Err, Option, Result, refl, sym, ap, ◌∙◌, arith, le-ltb}
use Rattle.file.specs.Formats.{Format}
use Rattle.file.specs.Reading.{HeldAfter, OpeningRead, ReadAs, FrameRead, RecordsRead, frame_words, record_count}
use Rattle.file.specs.Records.{put_records, records_check}
use Rattle.file.specs.declared.fault.FileFault.{FileFault}
use Rattle.file.specs.declared.fault.RecordFault.{RecordFault}
use Rattle.filing.specs.Outcomes.{ReadsTruly, for_any_line, with_arcs}
use Rattle.ranking.specs.Memory.{MemoryParts}
use Rattle.refusal.specs.declared.Refusal.{Refusal}
use Rattle.run.specs.Files.{frame_answer, opening_answer, read_answer, records_answer}
use Rattle.sheet.specs.Arcs.{Arcs, arcs_in, no_arcs}
use Rattle.sheet.specs.Calls.{open_check, too_short}
use Rattle.sheet.specs.declared.Lengths.{Lengths}
use Rattle.sheet.specs.declared.Sheet.{Sheet}
use Rattle.std.proofs.Math.Nat.{mul-le-mul_left}
use Rattle.weight.specs.Range.{Range}
use Rattle.weight.specs.Worth.{Worth}

-- memory for forty words is long enough for any line
pub long_enough : (n : ℕ) (l : Lengths) → n ≤ 40 → l.weights ≡ 1640 → l.sets ≡ 40 → l.candidates ≡ 51 → l.nodes ≡ 41 → l.merges ≡ 39 → l.potentials ≡ 41 → too_short n l ≡ false
long_enough n l few w s c o m p =
    let all : n * (n + 1) ≤ 1640 = omega (arith, mul-le-mul_left n few, mul-le-mul_left 40 few) in
    let e1 : ltb l.weights (n * (n + 1)) ≡ false = le-ltb _ _ (omega arith) in
    let e2 : ltb l.sets n ≡ false = le-ltb _ _ (omega arith) in
    let e3 : ltb l.candidates 51 ≡ false = le-ltb _ _ (omega arith) in
    let e4 : ltb l.nodes (n + 1) ≡ false = le-ltb _ _ (omega arith) in
    let e5 : ltb l.merges (n - 1) ≡ false = le-ltb _ _ (omega arith) in
    let e6 : ltb l.potentials (n + 1) ≡ false = le-ltb _ _ (omega arith) in
    rw (e1, e2, e3, e4, e5, e6) refl

module _ {K : Type 0} (f : Format K) (l : Lengths) (file : List ℕ) (weights weights' : List K) (sets sets' : List ℕ) where
  abbrev words_of : Result (Sheet K) FileFault → Result ℕ FileFault
  words_of (Ok s) = Ok s.words
  words_of (Err e) = Err e

  by_records : (n : ℕ) (x : Option RecordFault) (r : Result (Sheet K) FileFault) → RecordsRead f n file x r weights weights' sets sets' → records_answer n x ≡ words_of r
  by_records n (Some e) r is = sym (ap words_of is.0)
  by_records n None (Ok s) is = sym (ap Ok is.1)
  by_records n None (Err e) is = absurd (let no = is.0 in cc)

  by_opening : (n : ℕ) (x : Option Refusal) (r : Result (Sheet K) FileFault) → OpeningRead f n file x r weights weights' sets sets' → opening_answer f file n x ≡ words_of r
  by_opening n (Some e) r is = sym (ap words_of is.0)
  by_opening n None r is = by_records n (records_check f n file 0 (record_count f.width file)) r is

  by_frame : (x : Result ℕ FileFault) (r : Result (Sheet K) FileFault) → FrameRead f l file x r weights weights' sets sets' → frame_answer f l file x ≡ words_of r
  by_frame (Err e) r is = sym (ap words_of is.0)
  by_frame (Ok n) r is = by_opening n (open_check n l) r is

  -- a reader answers by the file and by how long its memory is
  answers : (r : Result (Sheet K) FileFault) → ReadAs f l file r weights weights' sets sets' → read_answer f l file ≡ words_of r
  answers r is = by_frame (frame_words f.kind f.width file) r is

module _ {K : Type 0} (f : Format K) (worth : K → Worth) (ranges : List Range) (file : List ℕ) (memory : MemoryParts K) (weights : List K) (sets : List ℕ) where
  pub reads_truly : (l : Lengths) (r : Result (Sheet K) FileFault) → l ≡ for_any_line → ReadAs f l file r weights memory.weights sets memory.sets → HeldAfter f worth ranges file r memory.weights memory.sets → ReadsTruly f worth ranges file memory r
  reads_truly l (Err e) any is held =
      let put : Arcs K = put_records f file 0 (record_count f.width file) no_arcs in
      ap (λ (m : Lengths). with_arcs put (read_answer f m file)) (sym any) ∙ ap (with_arcs put) (answers f l file weights memory.weights sets memory.sets (Err e) is)
  reads_truly l (Ok s) any is held =
      let put : Arcs K = put_records f file 0 (record_count f.width file) no_arcs in
      let same : arcs_in s.words memory.weights memory.sets ≡ put = λ i. λ h d. held.standing h d i in (
        ap (λ (m : Lengths). with_arcs put (read_answer f m file)) (sym any) ∙ ap (with_arcs put) (answers f l file weights memory.weights sets memory.sets (Ok s) is) ∙ ap (λ (a : Arcs K). Ok (s.words, a)) (sym same),
        record { standing = λ h d. refl; entries = λ h d k is. held.entries h d k (sym (held.standing h d) ∙ is) },
      )
