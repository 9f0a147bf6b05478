use Rattle.std.proofs.Common.{◌≡◌, ◌+◌, ◌-◌, length, set, take, subst, arith}
use Rattle.std.proofs.lemmas.List.{length-take-le}
use Rattle.queue.proofs.Runs.{Emptying, empties, emptied}
use Rattle.queue.proofs.pop_all.Goals as goal

pub loop-i-preserved : goal.loop-i-preserved
loop-i-preserved g c =
    let v = g.T.Ranked.above in
    let o = g.met.T.Ranked.ranks in
    let hs = c.args.heap.now in
    let l = c.loop-i in
    let ys = c.pop.new.slots in
    let x = c.in_ok-place.field-0 in
    let e : length hs - l.i - 1 ≡ length hs - (l.i + 1) = omega arith in
    subst (λ m. Emptying v o hs ys (set l.place-items l.i x) m (l.i + 1)) e (empties v o hs l.heap ys l.place-items (length hs - l.i) l.i x (omega arith) (omega arith) c.in_ok-place.ensures l.invariant)

pub returns : goal.returns
returns g c =
    let l = c.loop-i in
    let hs = c.args.heap.now in
    let n : length (take (length hs) c.args.out.now) ≡ length hs = length-take-le (length hs) c.args.out.now (omega arith) in
    emptied g.T.Ranked.above g.met.T.Ranked.ranks hs l.heap c.args.out.now l.place-items _ l.i (omega arith) (omega arith) (omega arith) l.invariant
