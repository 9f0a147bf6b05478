use Rattle.std.proofs.Common.{◌≡◌, length, take, arith}
use Rattle.std.proofs.lemmas.List.{length-take-le}
use Rattle.queue.proofs.Ends.{dropped}
use Rattle.queue.proofs.push_drop_least.Goals as goal

pub returns : goal.returns
returns g c =
    let a = c.args in
    let t = c.keep_higher.ensures in
    let n : length (take a.len a.slots.now) ≡ a.len = length-take-le a.len a.slots.now (omega arith) in
    dropped g.T.Ranked.above g.met.T.Ranked.ranks a.slots.now c.keep_higher.new.heap a.len a.x c.keep_higher.result (omega arith) (omega arith) t.same t.ordered t.least
