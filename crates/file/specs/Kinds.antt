-- The kinds of file: the number of each, and the name by which it is printed.
use Rattle.std.specs.Prelude.{ℕ, List, [], ◌∷◌, codes}
use Rattle.file.specs.declared.fault.FileKind.TheVariants.{Score, Cost, Mark}
use Rattle.file.specs.declared.fault.FileKind.{FileKind}

-- the number that stands for the kind in byte 3 of a file
abbrev pub kind_number : FileKind → ℕ
kind_number Score = 1
kind_number Cost = 2
kind_number Mark = 3

-- every kind
abbrev pub kinds : List FileKind
kinds = Score ∷ Cost ∷ Mark ∷ []

abbrev pub kind_text : FileKind → List ℕ
kind_text Score = codes "score"
kind_text Cost = codes "cost"
kind_text Mark = codes "mark over score"
