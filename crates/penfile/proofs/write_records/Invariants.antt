use Rattle.penfile.specs.Lines.{record_lines}
use Rattle.std.specs.Io.KnownBytes.{Appends}
use Rattle.penfile.proofs.write_records.Given as goal

abbrev pub invariant-loop-number : goal.invariant-loop-number
invariant-loop-number g l = Appends (g.W.Write.contents l.fn.out) (g.W.Write.contents l.out) (record_lines l.width l.file l.number-counter)
