-- The arcs that the memory of a sheet holds once a file was read.
use Rattle.std.proofs.Common.{◌≡◌, ℕ, zero, suc, ◌+◌, ◌-◌, ◌%◌, Bool, true, false, cond, not, ◌||◌, eqb, ltb, List, length, get_or, Some, None, Ok, Err, Option, Result, sym, refl, ◌∙◌}
use Rattle.file.specs.Formats.{Format}
use Rattle.file.specs.Frame.{kind_of}
use Rattle.file.specs.Kinds.{kind_number}
use Rattle.file.specs.Reading.{frame_words, words_of_kind}
use Rattle.file.specs.Records.{fault_in, first_of, put_record, put_records, record_check, record_place, records_check}
use Rattle.file.specs.declared.fault.FileFault.TheVariants.{Length, Kind, Sheet as SheetFault}
use Rattle.file.specs.declared.fault.FileFault.{FileFault}
use Rattle.file.specs.declared.fault.FileKind.{FileKind}
use Rattle.file.specs.declared.fault.RecordFault.{RecordFault}
use Rattle.refusal.specs.declared.Refusal.TheVariants.{WordCount, NoEntry}
use Rattle.refusal.specs.declared.Refusal.{Refusal}
use Rattle.sheet.proofs.Tables.{last_passes}
use Rattle.sheet.specs.Arcs.{Arcs, HoldsArcs, named, no_arcs}
use Rattle.sheet.specs.Calls.{arc_check, Holds, or_else, refuse_if}
use Rattle.std.proofs.lemmas.Bool.{not-false}
use Rattle.weight.specs.Range.{Range, entry_in}
use Rattle.weight.specs.Worth.{Worth}

-- ---- the number of words is byte 4

-- what is no refusal is what comes behind it
behind : {A E : Type 0} (b : Bool) (e : E) (next : Result A E) (x : A) → cond b (Err e) next ≡ Ok x → next ≡ Ok x
behind true e next x h = cc
behind false e next x h = h

words_are : (kind : FileKind) (width : ℕ) (file : List ℕ) (told : Result FileKind FileFault) (n : ℕ) → words_of_kind kind width file told ≡ Ok n → get_or file 4 0 ≡ n
words_are kind width file (Err why) n h = cc
words_are kind width file (Ok told) n h =
    let a = behind (not (eqb (kind_number told) (kind_number kind))) Kind _ n h in
    let b = behind (eqb (get_or file 4 0) 0 || ltb 40 (get_or file 4 0)) (SheetFault WordCount) _ n a in
    let c = behind (not (eqb ((length file - 5) % (width + 2)) 0)) Length (Ok (get_or file 4 0)) n b in
    cc

pub fourth : (kind : FileKind) (width : ℕ) (file : List ℕ) (n : ℕ) → frame_words kind width file ≡ Ok n → get_or file 4 0 ≡ n
fourth kind width file n h = words_are kind width file (kind_of file) n h

-- ---- the weights of records that pass are entries

both_pass : (q next : Option RecordFault) → first_of q next ≡ None → (q ≡ None) × (next ≡ None)
both_pass (Some e) next h = ((cc), (cc))
both_pass None next h = (refl, h)

no_fault : (k at : ℕ) (q : Option Refusal) → fault_in k at q ≡ None → q ≡ None
no_fault k at None h = refl
no_fault k at (Some e) h = cc

last_check : (q next : Option Refusal) → or_else q next ≡ None → next ≡ None
last_check None next h = h
last_check (Some e) next h = cc

module _ {K : Type 0} (f : Format K) (worth : K → Worth) (ranges : List Range) (entries : (x : K) → f.entry x ≡ entry_in ranges (worth x)) (file : List ℕ) (n : ℕ) where
  abbrev AllEntries : Arcs K → Type 0
  AllEntries arcs = (h d : ℕ) (x : K) → arcs h d ≡ Some x → entry_in ranges (worth x) ≡ true

  put_entry : (k : ℕ) (arcs : Arcs K) → record_check f n file k ≡ None → AllEntries arcs → AllEntries (put_record f file k arcs)
  put_entry k arcs passes old h d x = by (named (get_or file (record_place f.width k) 0) (get_or file (record_place f.width k + 1) 0) h d)
    where
      put : K
      put = f.weight_at file (record_place f.width k + 2)

      entry : entry_in ranges (worth put) ≡ true
      entry =
          let all = no_fault k (record_place f.width k) _ passes in
          let last = last_check (arc_check n (get_or file (record_place f.width k) 0) (get_or file (record_place f.width k + 1) 0)) (refuse_if (not (f.entry put)) NoEntry) all in
          sym (entries put) ∙ not-false (f.entry put) (last_passes (not (f.entry put)) NoEntry last)

      by : (b : Bool) → cond b (Some put) (arcs h d) ≡ Some x → entry_in ranges (worth x) ≡ true
      by true e = let s : x ≡ put = cc in rw s entry
      by false e = old h d x e

  puts_entries : (k left : ℕ) (arcs : Arcs K) → records_check f n file k left ≡ None → AllEntries arcs → AllEntries (put_records f file k left arcs)
  puts_entries k zero arcs passes old = old
  puts_entries k (suc left) arcs passes old =
      let p = both_pass (record_check f n file k) (records_check f n file (k + 1) left) passes in
      puts_entries (k + 1) left (put_record f file k arcs) p.1 (put_entry k arcs p.0 old)

  pub puts_held : (count : ℕ) (weights weights' : List K) (sets sets' : List ℕ) → records_check f n file 0 count ≡ None → Holds n (put_records f file 0 count no_arcs) weights weights' sets sets' → HoldsArcs worth ranges n weights' sets' (put_records f file 0 count no_arcs)
  puts_held count weights weights' sets sets' passes new = record { standing = new.standing; entries = puts_entries 0 count no_arcs passes (λ h d x e. cc) }
