use Rattle.std.proofs.Common.{◌-◌, ◌≤◌, take}
use Rattle.search.specs.State.{StateIn}
use Rattle.search.proofs.merging.grow.Given as goal

abbrev pub invariant-rounds : goal.invariant-rounds
invariant-rounds g l = StateIn g.K.Kind.worth g.K.Kind.places l.graph l.nodes (take l.made l.merges) l.potentials × (l.made ≤ l.graph.words - 1)

abbrev pub decreases-rounds : goal.decreases-rounds
decreases-rounds g l = l.graph.words - l.made
