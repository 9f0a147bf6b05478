use Rattle.std.proofs.Common.{suc, arith}
use Rattle.weight.specs.Worth.{zeros}
use Rattle.search.specs.Arcs.{stands_in, arc_in}
use Rattle.search.specs.Opening.{Ended}
use Rattle.search.specs.State.{group_at}
use Rattle.search.proofs.Heads.{lined}
use Rattle.search.proofs.whole.heaviest.Goals as goal

pub grow-requires : goal.grow-requires
grow-requires g c =
    let s = c.requires.space in
    record {
      space = record { nodes_in = omega (arith, s.nodes_in, c.begin.auto.nodes); merges_in = s.merges_in; potentials_in = omega (arith, s.potentials_in, c.clear.auto.potentials) };
      sound = c.requires.sound;
      state = record { valid = c.in_ok-begin.ensures; agree = λ d v. c.clear.ensures d v.1 };
    }

pub open-requires-clause-lined : goal.open-requires-clause-lined
open-requires-clause-lined g c =
    let f = g.K.Kind.worth in
    let graph = c.args.graph.now in
    lined graph.words (stands_in graph) (arc_in f graph) (zeros (suc g.K.Kind.places)) c.requires.sound.whole (group_at f c.begin.new.nodes) _ c.in_ok-made.ensures.0.valid

pub returns : goal.returns
returns g c =
    let graph = c.args.graph.now in
    let r = c.in_ok-made.ensures in
    let ended : Ended g.K.Kind.places graph.words (stands_in graph) (arc_in g.K.Kind.worth graph) _ _ = record { sound = c.requires.sound; valid = r.0.valid; reach = r.1 } in
    (c.open.ensures.best (stands_in graph) (arc_in g.K.Kind.worth graph) ended, record { base = _; sets = _; ended = ended; heads = c.open.ensures.order })
