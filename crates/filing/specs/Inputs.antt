-- What a program reads of its input, and how it tells a refused file.
use Rattle.std.specs.Prelude.{◌≡◌, ℕ, List, take, IfSome, Option}
use Rattle.file.specs.Faults.{fault_number, fault_place}
use Rattle.file.specs.declared.fault.FileFault.{FileFault}
use Rattle.lines.specs.Lines.{refused_line_text}

-- the file is the first bytes of the input, where they are known: all of them, but no more than the longest file has and one
abbrev pub ReadIn : Option (List ℕ) → List ℕ → Type 0
ReadIn known file = IfSome known (λ bytes. file ≡ take 11206 bytes)

-- the line of a refused file
abbrev pub fault_text : FileFault → List ℕ
fault_text fault = refused_line_text (fault_number fault) (fault_place fault)
