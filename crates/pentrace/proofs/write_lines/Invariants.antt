use Rattle.std.proofs.Common.{◌≡◌, ◌++◌, List, ℕ, drop}
use Rattle.std.specs.Io.KnownBytes.{Appends}
use Rattle.std.specs.Slice.Iter.{iter_rest}
use Rattle.pentrace.specs.Texts.{lines_text}
use Rattle.pentrace.proofs.write_lines.Given as goal

-- what is written, with the text of the lines to come behind it, is the text of all
abbrev pub invariant-loop-line : goal.invariant-loop-line
invariant-loop-line g l =
    (done : List ℕ) × Appends (g.W.Write.contents l.initial.out) (g.W.Write.contents l.out) done
    × (done ++ lines_text l.words (drop l.line-index l.lines) (iter_rest l.left) ≡ lines_text l.words l.lines l.turns)
