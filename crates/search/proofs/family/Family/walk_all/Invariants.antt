use Rattle.std.proofs.Common.{◌≡◌, ℕ, ◌<◌, ◌≤◌, true}
use Rattle.word_set.specs.Bits.{in_set}
use Rattle.search.specs.State.{head_in}
use Rattle.search.proofs.Records.{Fine}
use Rattle.search.proofs.family.Family.walk_all.Given as goal

abbrev pub invariant-loop-start : goal.invariant-loop-start
invariant-loop-start g l = Fine (head_in g.K.Kind.worth l.self) l.fine × (in_set l.fine 0 ≡ true) × ((v : ℕ) → 1 ≤ v → v < l.start → in_set l.fine v ≡ true)
