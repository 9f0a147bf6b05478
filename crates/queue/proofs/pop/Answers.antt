use Rattle.std.proofs.Common.{◌≡◌, length, take, arith}
use Rattle.std.proofs.lemmas.List.{length-take-le}
use Rattle.queue.proofs.Ends.{popped}
use Rattle.queue.proofs.pop.Goals as goal

pub returns : goal.returns
returns g c =
    let a = c.args in
    let t = c.take_first.ensures in
    let n : length (take a.len a.slots.now) ≡ a.len = length-take-le a.len a.slots.now (omega arith) in
    popped g.T.Ranked.above g.met.T.Ranked.ranks a.slots.now c.take_first.new.heap a.len _ c.take_first.result (omega arith) (omega arith) (omega arith) t.same t.left t.ordered t.greatest
