use Rattle.std.proofs.Common.{◌<◌, length}
use Rattle.std.specs.List.Sorted.{IsPermutation}
use Rattle.queue.specs.Heap.{Rising}
use Rattle.queue.proofs.sift_up.Given as goal

abbrev pub invariant-loop-i : goal.invariant-loop-i
invariant-loop-i g l =
    (l.i < length l.heap)
    × IsPermutation l.initial.heap l.heap
    × (Rising g.T.Ranked.above l.initial.heap l.initial.i → Rising g.T.Ranked.above l.heap l.i)

abbrev pub decreases-loop-i : goal.decreases-loop-i
decreases-loop-i g l = l.i
