use Rattle.std.proofs.Common.{◌≡◌, ◌-◌}
use Rattle.penfile.specs.Lines.{all_standing}
use Rattle.sheet.specs.Arcs.{arcs_in}
use Rattle.penfile.proofs.arcs_of.Given as goal

abbrev pub invariant-loop-dependent : goal.invariant-loop-dependent
invariant-loop-dependent g l = l.arcs.items ≡ all_standing l.words (arcs_in l.words l.memory.weights.items l.memory.sets.items) (l.dependent - 1)
