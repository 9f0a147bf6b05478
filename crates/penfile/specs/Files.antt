-- What is written for a file.
use Rattle.std.specs.Prelude.{ℕ, List, ◌++◌, Ok, Err, Option, Result, slice_index}
use Rattle.file.specs.Formats.{Format, score_format, cost_format, mark_format}
use Rattle.file.specs.Frame.{kind_of}
use Rattle.file.specs.Reading.{record_count}
use Rattle.file.specs.declared.fault.FileFault.{FileFault}
use Rattle.file.specs.declared.fault.FileKind.TheVariants.{Score, Cost, Mark}
use Rattle.file.specs.declared.fault.FileKind.{FileKind}
use Rattle.filing.specs.Inputs.{ReadIn, fault_text}
use Rattle.filing.specs.Outcomes.{file_says}
use Rattle.penfile.specs.Lines.{all_standing, arc_lines, kind_line, record_lines, words_line}
use Rattle.sheet.specs.Arcs.{Arcs}
use Rattle.std.specs.Io.KnownBytes.{Appends}
use Rattle.weight.specs.Layers.{mark_worth}
use Rattle.weight.specs.Numbers.{score_worth, cost_worth}
use Rattle.weight.specs.Worth.{Worth}

-- the records and the arcs that stand in the end, or the line of the fault
abbrev pub said_text : {K : Type 0} → (K → Worth) → ℕ → List ℕ → Result (ℕ × Arcs K) FileFault → List ℕ
said_text worth width file (Err e) = fault_text e
said_text worth width file (Ok said) = record_lines width file (record_count width file) ++ arc_lines worth (all_standing said.0 said.1 said.0)

abbrev pub kind_shown : {K : Type 0} → Format K → (K → Worth) → List ℕ → List ℕ
kind_shown f worth file = said_text worth f.width file (file_says f file)

abbrev pub shown_as : List ℕ → FileKind → List ℕ
shown_as file Score = kind_shown score_format score_worth file
shown_as file Cost = kind_shown cost_format cost_worth file
shown_as file Mark = kind_shown mark_format (mark_worth score_worth) file

-- a file with its kind and its words, which are told before its other faults
abbrev pub shown_by : List ℕ → Result FileKind FileFault → List ℕ
shown_by file (Err e) = fault_text e
shown_by file (Ok kind) = kind_line kind ++ (words_line (slice_index file 4) ++ shown_as file kind)

abbrev pub file_shown : List ℕ → List ℕ
file_shown file = shown_by file (kind_of file)

-- a file was read of the input, and is shown
abbrev pub FileShown : (input before after : Option (List ℕ)) → Type 0
FileShown input before after = (file : List ℕ) × ReadIn input file × Appends before after (file_shown file)
