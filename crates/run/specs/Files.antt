-- A run on the sheet of a file. The puts of the file's records are the first turns of the run.
use Rattle.std.specs.Prelude.{◌≡◌, ℕ, zero, suc, ◌+◌, true, List, [], ◌∷◌, map, reverse, length, is_ok, Some, None, Ok, Err, Option, Result, slice_index}
use Rattle.file.specs.Formats.{Format}
use Rattle.file.specs.Reading.{frame_words, record_count, ReadAs}
use Rattle.file.specs.Records.{put_records, record_place, records_check}
use Rattle.file.specs.declared.fault.FileFault.TheVariants.{Sheet, Record}
use Rattle.file.specs.declared.fault.FileFault.{FileFault}
use Rattle.file.specs.declared.fault.RecordFault.{RecordFault}
use Rattle.ranking.specs.Calls.{part_lengths}
use Rattle.ranking.specs.Memory.{MemoryParts}
use Rattle.refusal.specs.declared.Refusal.{Refusal}
use Rattle.run.specs.Law.{Run, standing}
use Rattle.run.specs.Steps.{Ran, turns_check}
use Rattle.run.specs.declared.Answer.TheVariants.{Done}
use Rattle.run.specs.declared.Call.TheVariants.{Put}
use Rattle.run.specs.declared.Call.{Call}
use Rattle.run.specs.declared.Turn.{Turn}
use Rattle.sheet.specs.Arcs.{no_arcs}
use Rattle.sheet.specs.Calls.{open_check}
use Rattle.sheet.specs.declared.Lengths.{Lengths}
use Rattle.weight.specs.Range.{Range}
use Rattle.weight.specs.Worth.{Worth}

-- ---- the puts of a file as turns

-- the put of the record at a place
abbrev pub put_at : {K : Type 0} → Format K → List ℕ → ℕ → Call K
put_at f file at = Put (slice_index file at) (slice_index file (at + 1)) (f.weight_at file (at + 2))

-- the puts of the first so many records, each of them done, the newest first
abbrev pub file_turns : {K : Type 0} → Format K → List ℕ → ℕ → Run K
file_turns f file zero = []
file_turns f file (suc count) = record { call = put_at f file (record_place f.width count); answer = Done } ∷ file_turns f file count

-- the same as a list of calls, in the order of the records
abbrev pub file_puts : {K : Type 0} → Format K → List ℕ → ℕ → List (Call K)
file_puts f file count = map (λ t. t.call) (reverse (file_turns f file count))

-- they leave the arcs that the reader leaves
abbrev pub FileStands : Type 0 → Type 0
FileStands K = (f : Format K) (file : List ℕ) (count h d : ℕ) → standing (file_turns f file count) h d ≡ put_records f file 0 count no_arcs h d

-- ---- what a run on the sheet of a file answers

-- a fault of the records, or the number of words
abbrev pub records_answer : ℕ → Option RecordFault → Result ℕ FileFault
records_answer n (Some e) = Err (Record e)
records_answer n None = Ok n

abbrev pub opening_answer : {K : Type 0} → Format K → List ℕ → ℕ → Option Refusal → Result ℕ FileFault
opening_answer f file n (Some e) = Err (Sheet e)
opening_answer f file n None = records_answer n (records_check f n file 0 (record_count f.width file))

abbrev pub frame_answer : {K : Type 0} → Format K → Lengths → List ℕ → Result ℕ FileFault → Result ℕ FileFault
frame_answer f l file (Err e) = Err e
frame_answer f l file (Ok n) = opening_answer f file n (open_check n l)

-- the number of words of the sheet that the reader makes of a file, or the first fault of the file: in its frame, the opening, its records
abbrev pub read_answer : {K : Type 0} → Format K → Lengths → List ℕ → Result ℕ FileFault
read_answer f l file = frame_answer f l file (frame_words f.kind f.width file)

module _ {K : Type 0} (f : Format K) (worth : K → Worth) (ranges : List Range) (file : List ℕ) (calls : List (Call K)) (memory memory' : MemoryParts K) (turns turns' : List (Turn K)) (r : Result (Unit {0}) FileFault) where
  -- the reader's fault, with the memory as the reader leaves it
  pub record RefusedAsRead (e : FileFault) : Type 0 where
    pub answer : r ≡ Err e
    pub read : ReadAs f (part_lengths memory) file (Err e) memory.weights memory'.weights memory.sets memory'.sets
    pub others : memory' ≡ record memory { weights = memory'.weights; sets = memory'.sets }
    pub turns_same : turns' ≡ turns

  abbrev pub RanOnRead : Result ℕ FileFault → Type 0
  RanOnRead (Err e) = RefusedAsRead e
  RanOnRead (Ok n) = (is_ok r ≡ true) × Ran worth ranges n (file_turns f file (record_count f.width file)) calls memory memory' turns turns'

  abbrev pub RanOnTurns : Option Refusal → Type 0
  RanOnTurns (Some e) = (r ≡ Err (Sheet e)) × (memory' ≡ memory) × (turns' ≡ turns)
  RanOnTurns None = RanOnRead (read_answer f (part_lengths memory) file)

  -- with a turn for each call the file is read, and the calls are made on its sheet: one run, of which the file's puts are the first turns
  abbrev pub RanFile : Type 0
  RanFile = RanOnTurns (turns_check (length calls) (length turns))
