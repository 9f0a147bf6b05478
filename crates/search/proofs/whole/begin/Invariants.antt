use Rattle.std.proofs.Common.{suc, ◌-◌}
use Rattle.weight.specs.Worth.{zeros}
use Rattle.search.specs.Arcs.{stands_in, arc_in}
use Rattle.search.specs.Family.{Begun}
use Rattle.search.specs.State.{group_at}
use Rattle.search.proofs.whole.begin.Given as goal

abbrev pub invariant-loop-to : goal.invariant-loop-to
invariant-loop-to g l = Begun l.graph.words (l.to - 1) (stands_in l.graph) (arc_in g.K.Kind.worth l.graph) (zeros (suc g.K.Kind.places)) (group_at g.K.Kind.worth l.nodes)
