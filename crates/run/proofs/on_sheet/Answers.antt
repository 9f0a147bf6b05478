use Rattle.std.proofs.Common.{refl}
use Rattle.run.specs.Loans.{lists}
use Rattle.run.proofs.Turns.{same_all, step_as, put_turn, strike_turn}
use Rattle.run.specs.declared.Answer.TheVariants.{Done}
use Rattle.run.specs.declared.Call.TheVariants.{Put, Strike, Begin}
use Rattle.run.specs.declared.State.TheVariants.{Open, Ranked}
use Rattle.run.proofs.on_sheet.Goals as goal

pub returns-in-Put : goal.returns-in-Put
returns-in-Put g c =
    let W = g.K.Kind in
    let s = c.args.sheet in
    λ candidates nodes merges potentials.
    let before = lists c.args.weights.now c.args.sets.now candidates nodes merges potentials in
    let after = lists c.put-done.new.weights c.put-done.new.sets candidates nodes merges potentials in
    step_as W.worth W.ranges (Open s) (Open s) before after c.args.call (Put c.in-Put.head c.in-Put.dependent c.in-Put.weight) c.from.result _ c.in-Put.is c.from.ensures
    (put_turn W.worth W.ranges s before after c.in-Put.head c.in-Put.dependent (record { candidates = refl; nodes = refl; merges = refl; potentials = refl }) c.in-Put.weight c.put-done.result c.put-done.ensures.answer c.put-done.ensures.law)

pub returns-in-Strike : goal.returns-in-Strike
returns-in-Strike g c =
    let W = g.K.Kind in
    let s = c.args.sheet in
    λ candidates nodes merges potentials.
    let before = lists c.args.weights.now c.args.sets.now candidates nodes merges potentials in
    let after = lists c.args.weights.now c.strike-done.new.sets candidates nodes merges potentials in
    step_as W.worth W.ranges (Open s) (Open s) before after c.args.call (Strike c.in-Strike.head c.in-Strike.dependent) c.from-in-Strike.result _ c.in-Strike.is c.from-in-Strike.ensures
    (strike_turn W.worth W.ranges s before after c.in-Strike.head c.in-Strike.dependent (record { candidates = refl; nodes = refl; merges = refl; potentials = refl }) refl c.strike-done.result c.strike-done.ensures.answer c.strike-done.ensures.law)

pub returns-in-Begin : goal.returns-in-Begin
returns-in-Begin g c =
    let W = g.K.Kind in
    let s = c.args.sheet in
    λ candidates nodes merges potentials.
    let before = lists c.args.weights.now c.args.sets.now candidates nodes merges potentials in
    step_as W.worth W.ranges (Open s) (Ranked c.begin-ranking.result) before before c.args.call Begin Done Done c.in-Begin.is refl
    (record { words = c.begin-ranking.ensures.words; ranking = refl; rest = same_all s.words before; law = λ arcs ts enough old. (refl, c.begin-ranking.ensures.law before arcs old) })
