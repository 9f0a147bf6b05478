use Rattle.std.proofs.Common.{drop, Ok, Err, replicate, ◌∙◌, arith}
use Rattle.std.proofs.lemmas.List.{length-take-le, take-append-drop}
use Rattle.run.specs.Loans.{lists}
use Rattle.run.proofs.Turns.{take_turn}
use Rattle.run.proofs.take_into.Goals as goal

pub returns-in-Ok : goal.returns-in-Ok
returns-in-Ok g c =
    let before = lists c.args.weights.now c.args.sets.now c.args.candidates.now c.args.nodes.now c.args.merges.now c.args.potentials.now in
    let after = lists c.args.weights.now c.take_in.new.sets c.take_in.new.candidates c.take_in.new.nodes c.take_in.new.merges c.take_in.new.potentials in
    let long = length-take-le c.min-lent.result (replicate 40 0) (let e = c.min-lent.ensures in omega arith) in
    take_turn g.K.Kind.worth g.K.Kind.ranges c.args.ranking.now c.take_in.new.ranking before after c.args.room c.min-lent.result c.min-lent.ensures _ c.take_in.new.space (drop c.min-lent.result (replicate 40 0)) long (c.take_in.auto.space ∙ long) (take-append-drop c.min-lent.result (replicate 40 0)) (Ok c.in-Ok.taken) c.in-Ok.ensures

pub returns-in-Err : goal.returns-in-Err
returns-in-Err g c =
    let before = lists c.args.weights.now c.args.sets.now c.args.candidates.now c.args.nodes.now c.args.merges.now c.args.potentials.now in
    let after = lists c.args.weights.now c.take_in.new.sets c.take_in.new.candidates c.take_in.new.nodes c.take_in.new.merges c.take_in.new.potentials in
    let long = length-take-le c.min-lent.result (replicate 40 0) (let e = c.min-lent.ensures in omega arith) in
    take_turn g.K.Kind.worth g.K.Kind.ranges c.args.ranking.now c.take_in.new.ranking before after c.args.room c.min-lent.result c.min-lent.ensures _ c.take_in.new.space (drop c.min-lent.result (replicate 40 0)) long (c.take_in.auto.space ∙ long) (take-append-drop c.min-lent.result (replicate 40 0)) (Err c.in-Err.why) c.in-Err.ensures
