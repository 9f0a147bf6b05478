use Rattle.std.proofs.Common.{◌<◌, length}
use Rattle.queue.specs.Heap.{Lowest}
use Rattle.queue.proofs.lowest.Given as goal

abbrev pub invariant-loop-i : goal.invariant-loop-i
invariant-loop-i g l = (l.best < length l.list) × Lowest g.T.Ranked.above l.list l.best l.i
