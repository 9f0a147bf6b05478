use Rattle.std.proofs.Common.{◌≡◌, ◌++◌}
use Rattle.penfile.specs.Lines.{standing_into}
use Rattle.sheet.specs.Arcs.{arcs_in}
use Rattle.penfile.proofs.push_into.Given as goal

abbrev pub invariant-loop-head : goal.invariant-loop-head
invariant-loop-head g l = l.arcs.items ≡ l.fn.arcs.items ++ standing_into (arcs_in l.words l.memory.weights.items l.memory.sets.items) l.dependent l.head
