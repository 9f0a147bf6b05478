use Rattle.std.proofs.Common.{◌-◌, length}
use Rattle.queue.proofs.Runs.{Emptying}
use Rattle.queue.proofs.pop_all.Given as goal

abbrev pub invariant-loop-i : goal.invariant-loop-i
invariant-loop-i g l =
    Emptying g.T.Ranked.above g.met.T.Ranked.ranks l.initial.heap l.heap l.place-items (length l.initial.heap - l.i) l.i
