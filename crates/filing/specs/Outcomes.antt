-- What a file says.
use Rattle.std.specs.Prelude.{◌≡◌, ℕ, List, Ok, Err, Result}
use Rattle.file.specs.Formats.{Format}
use Rattle.file.specs.Reading.{record_count}
use Rattle.file.specs.Records.{put_records}
use Rattle.file.specs.declared.fault.FileFault.{FileFault}
use Rattle.ranking.specs.Memory.{MemoryParts}
use Rattle.run.specs.Files.{read_answer}
use Rattle.sheet.specs.Arcs.{Arcs, arcs_in, HoldsArcs, no_arcs}
use Rattle.sheet.specs.declared.Lengths.{Lengths}
use Rattle.sheet.specs.declared.Sheet.{Sheet}
use Rattle.weight.specs.Range.{Range}
use Rattle.weight.specs.Worth.{Worth}

-- how long each part of a memory for forty words is, so that no line is refused for its memory
abbrev pub for_any_line : Lengths
for_any_line = record { weights = 1640; sets = 40; candidates = 51; nodes = 41; merges = 39; potentials = 41 }

-- a reader's answer with the arcs that it leaves where it is a number of words
abbrev pub with_arcs : {K : Type 0} → Arcs K → Result ℕ FileFault → Result (ℕ × Arcs K) FileFault
with_arcs arcs (Ok n) = Ok (n, arcs)
with_arcs arcs (Err e) = Err e

-- the number of words and the arcs that the puts of a file's records leave, or the file's first fault
abbrev pub file_says : {K : Type 0} → Format K → List ℕ → Result (ℕ × Arcs K) FileFault
file_says f file = with_arcs (put_records f file 0 (record_count f.width file) no_arcs) (read_answer f for_any_line file)

-- a reader's answer is what the file says: the memory holds its arcs, and their weights are entries
abbrev pub ReadsTruly : {K : Type 0} → Format K → (K → Worth) → List Range → List ℕ → MemoryParts K → Result (Sheet K) FileFault → Type 0
ReadsTruly f worth ranges file memory (Err e) = file_says f file ≡ Err e
ReadsTruly f worth ranges file memory (Ok s) =
    (file_says f file ≡ Ok (s.words, arcs_in s.words memory.weights memory.sets)) × HoldsArcs worth ranges s.words memory.weights memory.sets (arcs_in s.words memory.weights memory.sets)
