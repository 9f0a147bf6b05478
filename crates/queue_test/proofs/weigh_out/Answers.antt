use Rattle.std.proofs.Common.{arith}
use Rattle.queue_test.proofs.Weights.{same_ones, heaviest_first}
use Rattle.queue_test.proofs.weigh_out.Goals as goal

pub returns : goal.returns
returns c =
    let h = c.in_ok-rank.ensures in
    (same_ones _ _ _ _ _ (omega arith) h, heaviest_first _ _ _ _ _ (omega arith) h)
