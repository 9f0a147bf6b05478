use Rattle.search.specs.Arcs.{stands_in, arc_in, potential, Best, SetArc, with_potential}
use Rattle.search.proofs.graph.Graph.best_into.Given as goal

abbrev pub invariant-loop-to : goal.invariant-loop-to
invariant-loop-to g l = Best g.K.Kind.worth (SetArc l.self.words l.to (stands_in l.self) l.inside) (with_potential (arc_in g.K.Kind.worth l.self) (potential g.K.Kind.worth l.potentials)) l.best
