use Rattle.queue.proofs.Runs.{Filling}
use Rattle.queue.proofs.push_all.Given as goal

abbrev pub invariant-loop-i : goal.invariant-loop-i
invariant-loop-i g l = Filling g.T.Ranked.above g.met.T.Ranked.ranks l.given l.heap l.i
