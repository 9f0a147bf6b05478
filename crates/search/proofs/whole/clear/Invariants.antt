use Rattle.std.proofs.Common.{◌≡◌, ℕ, suc, ◌<◌}
use Rattle.weight.specs.Worth.{zeros}
use Rattle.search.specs.Arcs.{potential}
use Rattle.search.proofs.whole.clear.Given as goal

abbrev pub invariant-loop-potential : goal.invariant-loop-potential
invariant-loop-potential g l = (w : ℕ) → w < l.potential-index → potential g.K.Kind.worth l.potential-items w ≡ zeros (suc g.K.Kind.places)
