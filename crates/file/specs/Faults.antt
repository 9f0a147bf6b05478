-- The numbers by which the faults of a file are told, and the places of the bytes at fault.
use Rattle.std.specs.Prelude.{ℕ}
use Rattle.file.specs.declared.fault.FileFault.TheVariants.{Version, Length, Kind, Sheet, Record}
use Rattle.file.specs.declared.fault.FileFault.{FileFault}
use Rattle.refusal.specs.Refusals.{number_of}
use Rattle.refusal.specs.declared.Refusal.TheVariants.{WordCount}
use Rattle.refusal.specs.declared.Refusal.{Refusal}

abbrev pub fault_number : FileFault → ℕ
fault_number Version = 11
fault_number Length = 12
fault_number Kind = 13
fault_number (Sheet e) = number_of e
fault_number (Record f) = number_of f.refusal

-- an opening is refused for the number of words, byte 4, or else for the memory, and a run for too few turns: no byte stands for those
abbrev pub opening_place : Refusal → ℕ
opening_place WordCount = 4
opening_place _ = 0

abbrev pub fault_place : FileFault → ℕ
fault_place Version = 0
fault_place Length = 1
fault_place Kind = 3
fault_place (Sheet e) = opening_place e
fault_place (Record f) = f.place
