use Rattle.std.proofs.Common.{◌+◌, length, take, arith}
use Rattle.search.specs.Answer.{barring}
use Rattle.search.specs.Arcs.{allowed, weight_at}
use Rattle.search.specs.State.{Room}
use Rattle.search.proofs.Barring.{searched_same, barring_none}
use Rattle.search.proofs.Found.{settles_same}
use Rattle.search.proofs.aside.best_tree_barring.Goals as goal

pub returns-then-held-sets-clause-told : goal.returns-then-held-sets-clause-told
returns-then-held-sets-clause-told g c =
    let W = g.K.Kind in
    let a = allowed c.args.sets.now c.args.held.now in
    searched_same W.worth W.ranges c.args.words a (barring a (length c.args.held.now + 1) c.args.barred) (weight_at W.worth c.args.words c.args.weights.now)
    (Room c.args.words (length c.args.sets.now) (length c.args.weights.now) (length c.args.working.now.nodes.now) (length c.args.working.now.merges.now) (length c.args.working.now.potentials.now)) c.args.heads.now c.best_tree.new.heads c.best_tree.result
    (λ room h d v. barring_none c.args.words c.args.sets.now c.args.held.now c.args.barred h d (omega (arith, room.sets_in, c.if-held-sets.true)) v) c.best_tree.ensures.told

pub returns-then-held-sets-clause-settled : goal.returns-then-held-sets-clause-settled
returns-then-held-sets-clause-settled g c =
    let W = g.K.Kind in
    let a = allowed c.args.sets.now c.args.held.now in
    settles_same W.worth W.ranges c.args.words a (barring a (length c.args.held.now + 1) c.args.barred) (weight_at W.worth c.args.words c.args.weights.now)
    (Room c.args.words (length c.args.sets.now) (length c.args.weights.now) (length c.args.working.now.nodes.now) (length c.args.working.now.merges.now) (length c.args.working.now.potentials.now)) c.args.heads.now c.best_tree.new.heads (take c.args.words c.best_tree.new.heads) c.best_tree.result
    (λ room h d v. barring_none c.args.words c.args.sets.now c.args.held.now c.args.barred h d (omega (arith, room.sets_in, c.if-held-sets.true)) v) c.best_tree.ensures.told c.best_tree.ensures.settled
