use Rattle.std.proofs.Common.{◌≤◌, length, replicate, arith}
use Rattle.penfile.proofs.Shown.{entry_shown}
use Rattle.penfile.proofs.write_arc.Goals as goal

pub unwrap-long-requires : goal.unwrap-long-requires
unwrap-long-requires g c =
    let weight = g.K.Kind.worth c.args.arc.now.weight in
    let two : length weight ≤ 2 = omega (arith, g.K.Kind.sized c.args.arc.now.weight, g.met.K.Recorded.few_places) in
    entry_shown g.K.Kind.ranges weight (replicate 64 0) c.show.new.space c.show.result g.K.Kind.ranged.1 c.requires two c.show.ensures (omega arith)
