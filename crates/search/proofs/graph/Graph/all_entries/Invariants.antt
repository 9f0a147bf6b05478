use Rattle.std.proofs.Common.{◌≡◌, ℕ, ◌<◌, ◌≤◌, true}
use Rattle.weight.specs.Range.{entry_in}
use Rattle.tree.specs.Chains.{Word}
use Rattle.search.specs.Arcs.{stands_in, weight_in_graph}
use Rattle.search.proofs.graph.Graph.all_entries.Given as goal

abbrev pub invariant-loop-to : goal.invariant-loop-to
invariant-loop-to g l = (h d : ℕ) → Word l.self.words d → d < l.to → h ≤ l.self.words → stands_in l.self h d ≡ true → entry_in g.K.Kind.ranges (weight_in_graph g.K.Kind.worth l.self h d) ≡ true
