-- What becomes of a line of heads.
use Rattle.std.specs.Prelude.{◌≡◌, ℕ, ◌<◌, ◌≤◌, List, length, Ok, Err, Result, vec_items}
use Rattle.penbracket.specs.declared.Drawing.{Drawing}
use Rattle.penbracket.specs.declared.Fault.TheVariants.{NoList, NoTree, TooLong}
use Rattle.penbracket.specs.declared.Fault.{Fault}
use Rattle.reading.specs.Spaced.{Spells, SpellsNone}
use Rattle.tree.specs.Brackets.{bracketed}
use Rattle.tree.specs.Trees.{LineTree, ToldCycle}

-- the tree of its heads and their brackets, or why there are none
abbrev pub DrawingOf : List ℕ → Result Drawing Fault → Type 0
DrawingOf line (Ok drawing) =
    Spells line (vec_items drawing.heads)
    × LineTree (vec_items drawing.heads) drawing.root
    × (vec_items drawing.brackets ≡ bracketed (vec_items drawing.heads) drawing.root)
    × (length (vec_items drawing.brackets) ≤ 160)
DrawingOf line (Err NoList) = SpellsNone line
DrawingOf line (Err (NoTree heads cycle)) = Spells line (vec_items heads) × ((root : ℕ) → LineTree (vec_items heads) root → ⊥) × ToldCycle (vec_items heads) cycle
DrawingOf line (Err (TooLong heads)) = Spells line (vec_items heads) × ((root : ℕ) × LineTree (vec_items heads) root × (160 < length (bracketed (vec_items heads) root)))
