-- What a reader answers, and what it leaves in the memory.
use Rattle.std.specs.Prelude.{◌≡◌, ℕ, ◌+◌, ◌-◌, ◌/◌, ◌%◌, true, cond, not, ◌||◌, List, length, is_ok, IfOk, Some, None, Ok, Err, Option, Result, ◌==◌, nat_lt, slice_index}
use Rattle.file.specs.Formats.{Format}
use Rattle.file.specs.Frame.{kind_of}
use Rattle.file.specs.Kinds.{kind_number}
use Rattle.file.specs.Records.{put_records, records_check}
use Rattle.file.specs.declared.fault.FileFault.TheVariants.{Length, Kind, Sheet as SheetFault, Record}
use Rattle.file.specs.declared.fault.FileFault.{FileFault}
use Rattle.file.specs.declared.fault.FileKind.{FileKind}
use Rattle.file.specs.declared.fault.RecordFault.{RecordFault}
use Rattle.refusal.specs.declared.Refusal.TheVariants.{WordCount}
use Rattle.refusal.specs.declared.Refusal.{Refusal}
use Rattle.sheet.specs.Arcs.{HoldsArcs, no_arcs}
use Rattle.sheet.specs.Calls.{Holds, open_check}
use Rattle.sheet.specs.declared.Lengths.{Lengths}
use Rattle.sheet.specs.declared.Sheet.{Sheet}
use Rattle.weight.specs.Range.{Range}
use Rattle.weight.specs.Worth.{Worth}

-- the number of words of a file whose kind was told, if that is the reader's, or the first fault:
-- another kind, not 1 to 40 words, a part record at the end
abbrev pub words_told : FileKind → ℕ → List ℕ → FileKind → Result ℕ FileFault
words_told kind width file told =
    cond (not (kind_number told == kind_number kind)) (Err Kind)
    (cond (slice_index file 4 == 0 || nat_lt 40 (slice_index file 4)) (Err (SheetFault WordCount))
    (cond (not ((length file - 5) % (width + 2) == 0)) (Err Length)
    (Ok (slice_index file 4))))

abbrev pub words_of_kind : FileKind → ℕ → List ℕ → Result FileKind FileFault → Result ℕ FileFault
words_of_kind kind width file (Err e) = Err e
words_of_kind kind width file (Ok told) = words_told kind width file told

-- the number of words that the frame of a file tells, or the frame's first fault
abbrev pub frame_words : FileKind → ℕ → List ℕ → Result ℕ FileFault
frame_words kind width file = words_of_kind kind width file (kind_of file)

-- how many records the file has
abbrev pub record_count : ℕ → List ℕ → ℕ
record_count width file = (length file - 5) / (width + 2)

-- a record that is refused leaves every arc absent; else the puts of all records stand, in their order
abbrev pub RecordsRead : {K : Type 0} → Format K → ℕ → List ℕ → Option RecordFault → Result (Sheet K) FileFault → (weights weights' : List K) → (sets sets' : List ℕ) → Type 0
RecordsRead f n file (Some e) r weights weights' sets sets' = (r ≡ Err (Record e)) × Holds n no_arcs weights weights' sets sets'
RecordsRead f n file None r weights weights' sets sets' =
    (is_ok r ≡ true) × IfOk r (λ s. s.words ≡ n) × Holds n (put_records f file 0 (record_count f.width file) no_arcs) weights weights' sets sets'

-- an opening that is refused leaves the memory as it was
abbrev pub OpeningRead : {K : Type 0} → Format K → ℕ → List ℕ → Option Refusal → Result (Sheet K) FileFault → (weights weights' : List K) → (sets sets' : List ℕ) → Type 0
OpeningRead f n file (Some e) r weights weights' sets sets' = (r ≡ Err (SheetFault e)) × (weights' ≡ weights) × (sets' ≡ sets)
OpeningRead f n file None r weights weights' sets sets' = RecordsRead f n file (records_check f n file 0 (record_count f.width file)) r weights weights' sets sets'

-- and so does a frame that is refused
abbrev pub FrameRead : {K : Type 0} → Format K → Lengths → List ℕ → Result ℕ FileFault → Result (Sheet K) FileFault → (weights weights' : List K) → (sets sets' : List ℕ) → Type 0
FrameRead f l file (Err e) r weights weights' sets sets' = (r ≡ Err e) × (weights' ≡ weights) × (sets' ≡ sets)
FrameRead f l file (Ok n) r weights weights' sets sets' = OpeningRead f n file (open_check n l) r weights weights' sets sets'

-- what a reader answers to a file, and what the memory holds afterwards
abbrev pub ReadAs : {K : Type 0} → Format K → Lengths → List ℕ → Result (Sheet K) FileFault → (weights weights' : List K) → (sets sets' : List ℕ) → Type 0
ReadAs f l file r weights weights' sets sets' = FrameRead f l file (frame_words f.kind f.width file) r weights weights' sets sets'

-- the arcs that the memory holds after a reader's answer, their weights entries: those of the file's puts in their order, and after a refused
-- record, on a line as long as the file tells, none. Any other refusal leaves the memory as it was, whatever it held.
abbrev pub HeldAfter : {K : Type 0} → Format K → (K → Worth) → List Range → List ℕ → Result (Sheet K) FileFault → (weights : List K) → (sets : List ℕ) → Type 0
HeldAfter f worth ranges file (Ok s) weights sets = HoldsArcs worth ranges s.words weights sets (put_records f file 0 (record_count f.width file) no_arcs)
HeldAfter f worth ranges file (Err (Record e)) weights sets = HoldsArcs worth ranges (slice_index file 4) weights sets no_arcs
HeldAfter f worth ranges file (Err _) weights sets = Unit {0}
