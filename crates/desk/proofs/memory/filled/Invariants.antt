use Rattle.std.proofs.Common.{◌≡◌, replicate, vec_len}
use Rattle.desk.proofs.memory.filled.Given as goal

abbrev pub invariant-loop : goal.invariant-loop
invariant-loop g l = (l.items.items ≡ replicate l.counter l.value) × (vec_len l.items ≡ l.counter)
