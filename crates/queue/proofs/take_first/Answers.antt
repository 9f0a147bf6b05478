use Rattle.std.proofs.Common.{◌≡◌, ◌-◌, ◌∷◌, length, take, sym, subst, arith}
use Rattle.std.specs.List.Sorted.{IsPermutation}
use Rattle.std.proofs.lemmas.List.{length-take-le, take_at}
use Rattle.queue.specs.Heap.{Ordered}
use Rattle.queue.proofs.Heaps.{greatest}
use Rattle.queue.proofs.Ends.{shrunk, stays, took}
use Rattle.queue.proofs.take_first.Goals as goal

pub returns : goal.returns
returns g c =
    let v = g.T.Ranked.above in
    let o = g.met.T.Ranked.ranks in
    let xs = c.args.heap.now in
    let ys = c.swap.new.self in
    let zs = c.sift_down.new.heap in
    let m = length xs - 1 in
    let w = c.swap.ensures in
    let t = c.sift_down.ensures in
    let s = w.by_index in
    let x = c.index-heap-0.result in
    let n : length (take m ys) ≡ m = length-take-le m ys (omega arith) in
    let front = take_at zs _ m (omega arith) in
    record {
      same = subst (λ l. IsPermutation xs (x ∷ l)) (sym front) (took v o xs ys m (omega arith) w.len s x zs c.index-heap-0.is w.permutation t.shuffled);
      left = stays v o xs ys m (omega arith) w.len s x zs c.index-heap-0.is (omega arith);
      ordered = λ h. subst (Ordered v) (sym front) (t.sinks (shrunk v o xs ys m (omega arith) w.len s h));
      greatest = λ h. greatest v o xs x c.index-heap-0.is h;
    }
