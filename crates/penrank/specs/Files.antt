-- What is written for a file.
use Rattle.std.specs.Prelude.{◌≡◌, ℕ, List, Ok, Err, Option, Result}
use Rattle.console.specs.Answers.{Writes}
use Rattle.file.specs.Formats.{Format, score_format, cost_format, mark_format}
use Rattle.file.specs.Frame.{kind_of}
use Rattle.file.specs.declared.fault.FileFault.{FileFault}
use Rattle.file.specs.declared.fault.FileKind.TheVariants.{Score, Cost, Mark}
use Rattle.file.specs.declared.fault.FileKind.{FileKind}
use Rattle.filing.specs.Inputs.{ReadIn, fault_text}
use Rattle.filing.specs.Outcomes.{file_says}
use Rattle.penrank.specs.Rankings.{RankingText}
use Rattle.sheet.specs.Arcs.{Arcs}
use Rattle.weight.specs.Layers.{mark_worth}
use Rattle.weight.specs.Numbers.{score_worth, cost_worth}
use Rattle.weight.specs.Worth.{Worth}

-- the line of a file's fault, or the ranking of its arcs
abbrev pub TextOf : {K : Type 0} → (K → Worth) → Result (ℕ × Arcs K) FileFault → List ℕ → Type 0
TextOf worth (Err e) text = text ≡ fault_text e
TextOf worth (Ok said) text = RankingText worth said.0 said.1 text

-- the text for a file that is read as one of this kind
abbrev pub KindText : {K : Type 0} → Format K → (K → Worth) → List ℕ → List ℕ → Type 0
KindText f worth file text = TextOf worth (file_says f file) text

-- the text for a file, by the kind that it tells
abbrev pub TextByKind : List ℕ → Result FileKind FileFault → List ℕ → Type 0
TextByKind file (Err e) text = text ≡ fault_text e
TextByKind file (Ok Score) text = KindText score_format score_worth file text
TextByKind file (Ok Cost) text = KindText cost_format cost_worth file text
TextByKind file (Ok Mark) text = KindText mark_format (mark_worth score_worth) file text

abbrev pub FileText : List ℕ → List ℕ → Type 0
FileText file text = TextByKind file (kind_of file) text

-- a file was read of the input, and its text was written
abbrev pub FileRanked : (input before after : Option (List ℕ)) → Type 0
FileRanked input before after = (file : List ℕ) × ReadIn input file × Writes before after (FileText file)

-- ---- what is to show
-- a file settles its text, to the byte
abbrev pub OneText : Type 0
OneText = (file text text' : List ℕ) → FileText file text → FileText file text' → text ≡ text'
