use Rattle.std.proofs.Common.{take, arith}
use Rattle.search.proofs.Steps.{known}
use Rattle.search.proofs.merging.grow.Goals as goal

pub rounds-init : goal.rounds-init
rounds-init g c = (c.requires.state, omega arith)

pub walk_all-requires : goal.walk_all-requires
walk_all-requires g c =
    let k = known g.K.Kind.worth g.K.Kind.places c.args.graph.now c.requires.sound c.args.nodes.now (take c.rounds.made c.rounds.merges) c.rounds.potentials c.rounds.invariant.0 in
    record { heads = λ w v. k.laid.in_line w v.1 }

pub merge-requires : goal.merge-requires
merge-requires g c =
    let s = c.requires.space in
    let at = c.in-Err.ensures in
    record {
      space = record { nodes_in = s.nodes_in; merges_in = omega (arith, s.merges_in, c.rounds.auto.merges); potentials_in = omega (arith, c.rounds.auto.potentials, s.potentials_in) };
      sound = c.requires.sound;
      state = c.rounds.invariant.0;
      made = omega (arith, c.rounds.invariant.1, at.0.0, at.0.1);
      word = at.0;
      ring = at.1;
      first = at.2;
    }

pub rounds-preserved : goal.rounds-preserved
rounds-preserved g c = (c.in_ok-merge.ensures.merged, omega (arith, c.merge.ensures.room))

pub rounds-smaller : goal.rounds-smaller
rounds-smaller g c = omega (arith, c.merge.ensures.room)

pub returns-in_err-merge : goal.returns-in_err-merge
returns-in_err-merge g c = rw c.from_residual.ensures c.in_err-merge.ensures.merged

pub returns-in_default : goal.returns-in_default
returns-in_default g c = (c.rounds.invariant.0, c.in_default.ensures, c.rounds.invariant.1)
