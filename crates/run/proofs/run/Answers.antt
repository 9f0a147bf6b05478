use Rattle.std.proofs.Common.{◌≡◌, ◌+◌, ◌-◌, [], length, drop, Err, refl, ap, ◌∙◌}
use Rattle.std.proofs.lemmas.Result.{err_from_is_err_and}
use Rattle.ranking.specs.Calls.{part_lengths}
use Rattle.run.specs.Loans.{lists, lists_of}
use Rattle.run.specs.Steps.{Begins, SameRest, turns_check}
use Rattle.sheet.specs.declared.Sheet.{Sheet}
use Rattle.run.proofs.Runs.{ran_from, was_opened, was_refused, enough_turns, long_enough, check_on}
use Rattle.run.proofs.run.Goals as goal

pub returns-in_err-sheet-clause-ran : goal.returns-in_err-sheet-clause-ran
returns-in_err-sheet-clause-ran g c =
    let none = enough_turns (turns_check (length c.args.calls.now) (length c.args.turns.now)) c.in_ok-turns_for.field-0 c.in_ok-turns_for.ensures in
    let a = was_refused (Sheet g.row.K.Denot) _ c.in_err-sheet.field-0.0 _ _ c.in_err-sheet.ensures.opened in
    let is = err_from_is_err_and {Q = λ why. why ≡ c.in_err-sheet.field-0.0} c.from_residual-in_err-sheet.result c.from_residual-in_err-sheet.ensures.1 in
    let e : c.from_residual-in_err-sheet.result ≡ Err c.in_err-sheet.field-0.0 = is.1 ∙ ap Err is.2 in
    let same : lists c.opened.new.weights c.opened.new.sets c.opened.new.candidates c.opened.new.nodes c.opened.new.merges c.opened.new.potentials ≡ lists_of c.args.memory.now = rw (c.opened.ensures.weights, a.1, c.opened.ensures.candidates, c.opened.ensures.nodes, c.opened.ensures.merges, c.opened.ensures.potentials) refl in
    rw (check_on c.args.words (part_lengths (lists_of c.args.memory.now)) (length c.args.calls.now) (length c.args.turns.now) none, a.0) (e, (same, refl))

pub make_calls-requires-clause-memory : goal.make_calls-requires-clause-memory
make_calls-requires-clause-memory g c =
    let o = c.opened.ensures in
    let a = was_opened _ _ _ _ c.in_ok-sheet.ensures.opened in
    rw (a.1.0, o.weights, c.opened.auto.sets, o.candidates, o.nodes, o.merges, o.potentials) (long_enough c.args.words (part_lengths (lists_of c.args.memory.now)) a.0)

pub returns-clause-ran : goal.returns-clause-ran
returns-clause-ran g c =
    let W = g.K.Kind in
    let n = c.args.words in
    let o = c.opened.ensures in
    let none = enough_turns (turns_check (length c.args.calls.now) (length c.args.turns.now)) c.in_ok-turns_for.field-0 c.in_ok-turns_for.ensures in
    let a = was_opened _ _ _ _ c.in_ok-sheet.ensures.opened in
    let before = lists_of c.args.memory.now in
    let start = lists c.opened.new.weights c.opened.new.sets c.opened.new.candidates c.opened.new.nodes c.opened.new.merges c.opened.new.potentials in
    let rest : SameRest n before start =
    record {
      weights = ap (drop _) o.weights;
      sets = a.1.1.sets_beyond;
      others = record { candidates = ap (drop 51) o.candidates; nodes = ap (drop (n + 1)) o.nodes; merges = ap (drop (n - 1)) o.merges; potentials = ap (drop (n + 1)) o.potentials };
    } in
    let begins : Begins W.worth W.ranges c.in_ok-sheet.sheet.words [] start = record { no_ranking = refl; keeps = tt; holds = c.in_ok-sheet.ensures.law } in
    rw (check_on n (part_lengths before) (length c.args.calls.now) (length c.args.turns.now) none, a.0)
    (refl, ran_from W.worth W.ranges n c.in_ok-sheet.sheet.words [] c.args.calls.now before start (lists_of c.make_calls.new.memory) c.args.turns.now c.make_calls.new.turns a.1.0 rest (c.make_calls.ensures.ran [] begins))
