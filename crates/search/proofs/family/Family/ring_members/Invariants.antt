use Rattle.search.specs.Ring.{Going}
use Rattle.search.specs.State.{base_in, sets_in}
use Rattle.search.proofs.Counts.{missing}
use Rattle.search.proofs.family.Family.ring_members.Given as goal

abbrev pub invariant-steps : goal.invariant-steps
invariant-steps g l = Going l.self.words (base_in g.K.Kind.worth l.self) (sets_in g.K.Kind.worth l.self) l.word l.at l.members

abbrev pub decreases-steps : goal.decreases-steps
decreases-steps g l = missing l.self.words l.members
