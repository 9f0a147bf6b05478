use Rattle.std.proofs.Common.{take}
use Rattle.penfile.specs.Lines.{arc_line}
use Rattle.std.specs.Io.KnownBytes.{Appends}
use Rattle.std.specs.List.{flat_map}
use Rattle.penfile.proofs.write_arcs.Given as goal

abbrev pub invariant-loop-arc : goal.invariant-loop-arc
invariant-loop-arc g l = Appends (g.W.Write.contents l.fn.out) (g.W.Write.contents l.out) (flat_map (arc_line g.K.Kind.worth) (take l.arc-index l.arcs))
