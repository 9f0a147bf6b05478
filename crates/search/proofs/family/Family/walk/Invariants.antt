use Rattle.std.proofs.Common.{◌≡◌, ℕ, ◌≤◌, true, ◌⊎◌}
use Rattle.tree.specs.Chains.{up}
use Rattle.word_set.specs.Bits.{in_set}
use Rattle.search.specs.State.{head_in}
use Rattle.search.proofs.Records.{Leads}
use Rattle.search.proofs.Counts.{missing}
use Rattle.search.proofs.family.Family.walk.Given as goal

abbrev pub invariant-steps : goal.invariant-steps
invariant-steps g l = (l.word ≤ l.self.words) × Leads (head_in g.K.Kind.worth l.self) l.seen l.word × ((l.word ≡ l.start) ⊎ (in_set l.seen l.start ≡ true)) × ((k : ℕ) × (up (head_in g.K.Kind.worth l.self) k l.start ≡ l.word))

abbrev pub decreases-steps : goal.decreases-steps
decreases-steps g l = missing l.self.words l.seen
