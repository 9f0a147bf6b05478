use Rattle.std.proofs.Common.{arith}
use Rattle.queue.proofs.Runs.{fills}
use Rattle.queue.proofs.push_all.Goals as goal

pub loop-i-preserved : goal.loop-i-preserved
loop-i-preserved g c =
    fills g.T.Ranked.above g.met.T.Ranked.ranks c.args.given.now c.loop-i.heap c.push.new.slots c.loop-i.i _ c.index-given-i.result (omega arith) c.index-given-i.is c.in_ok-push.ensures c.loop-i.invariant
