use Rattle.search.specs.Arcs.{weight_in_graph}
use Rattle.search.proofs.Scan.{Seen}
use Rattle.search.proofs.graph.Graph.best_word.Given as goal

abbrev pub invariant-loop-from : goal.invariant-loop-from
invariant-loop-from g l = Seen (λ h. weight_in_graph g.K.Kind.worth l.self h l.to) l.heads l.from-iterator.left l.best
