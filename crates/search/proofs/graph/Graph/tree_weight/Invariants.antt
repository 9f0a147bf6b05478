use Rattle.std.proofs.Common.{◌≡◌, suc}
use Rattle.weight.specs.Worth.{zeros, plus}
use Rattle.weight.specs.Layers.{root_worth}
use Rattle.tree.specs.Chains.{head_of}
use Rattle.arborescence.specs.Search.{worth_of_heads}
use Rattle.search.specs.Arcs.{arc_in}
use Rattle.search.proofs.graph.Graph.tree_weight.Given as goal

abbrev pub invariant-loop-i : goal.invariant-loop-i
invariant-loop-i g l = root_worth g.K.Kind.worth l.sum ≡ plus (zeros (suc g.K.Kind.places)) (worth_of_heads (arc_in g.K.Kind.worth l.self) (head_of l.heads) l.i)
