use Rattle.std.proofs.Common.{◌-◌, length}
use Rattle.std.specs.List.Sorted.{IsPermutation}
use Rattle.queue.specs.Heap.{Sinking}
use Rattle.queue.proofs.sift_down.Given as goal

abbrev pub invariant-loop-i : goal.invariant-loop-i
invariant-loop-i g l =
    IsPermutation l.initial.heap l.heap
    × (Sinking g.T.Ranked.above l.initial.heap 0 → Sinking g.T.Ranked.above l.heap l.i)

abbrev pub decreases-loop-i : goal.decreases-loop-i
decreases-loop-i g l = length l.initial.heap - l.i
