use Rattle.std.proofs.Common.{◌≡◌, ◌++◌, length, take, drop, length-append, arith}
use Rattle.std.proofs.lemmas.List.{length-take-le}
use Rattle.queue.proofs.Runs.{came_out}
use Rattle.queue.proofs.rank.Goals as goal

pub returns : goal.returns
returns g c =
    let a = c.args in
    let filled = c.in_ok-push_all.ensures in
    let zs = c.push_all.new.heap ++ drop (length a.given.now) a.slots.now in
    let n : length (take (length a.given.now) zs) ≡ length a.given.now = length-take-le (length a.given.now) zs (omega (arith, length-append c.push_all.new.heap (drop (length a.given.now) a.slots.now))) in
    came_out g.T.Ranked.above g.met.T.Ranked.ranks a.given.now a.slots.now a.out.now c.push_all.new.heap c.pop_all.new.heap c.pop_all.new.out (omega arith) (omega arith) (omega arith) filled.0 filled.1 c.in_ok-pop_all.ensures
