use Rattle.std.proofs.Common.{◌≡◌, ◌+◌, ◌-◌, length, drop, Err, refl, ap, ◌∙◌}
use Rattle.std.proofs.lemmas.Result.{err_from_is_err_and}
use Rattle.ranking.specs.Calls.{part_lengths}
use Rattle.file.specs.Reading.{record_count}
use Rattle.run.specs.Files.{file_turns}
use Rattle.run.specs.Loans.{lists, lists_of}
use Rattle.run.specs.Steps.{Begins, SameRest, turns_check}
use Rattle.run.proofs.Files.{file_begins, refused_read, accepted_read}
use Rattle.run.proofs.Runs.{ran_from, enough_turns, long_enough}
use Rattle.run.proofs.run_file.Goals as goal

pub returns-in_err-sheet-clause-ran : goal.returns-in_err-sheet-clause-ran
returns-in_err-sheet-clause-ran g c =
    let none = enough_turns (turns_check (length c.args.calls.now) (length c.args.turns.now)) c.in_ok-turns_for.field-0 c.in_ok-turns_for.ensures in
    let l = part_lengths (lists_of c.args.memory.now) in
    let answer = refused_read g.K.Recorded.format c.args.file.now l c.args.memory.now.weights.now c.read_in.new.weights c.args.memory.now.sets.now c.read_in.new.sets c.in_err-sheet.field-0.0 c.in_err-sheet.ensures.read in
    let is = err_from_is_err_and {Q = λ why. why ≡ c.in_err-sheet.field-0.0} c.from_residual-in_err-sheet.result c.from_residual-in_err-sheet.ensures.1 in
    let e : c.from_residual-in_err-sheet.result ≡ Err c.in_err-sheet.field-0.0 = is.1 ∙ ap Err is.2 in
    rw (none, answer) (record { answer = e; read = c.in_err-sheet.ensures.read; others = rw (c.read_in.ensures.candidates, c.read_in.ensures.nodes, c.read_in.ensures.merges, c.read_in.ensures.potentials) refl; turns_same = refl })

pub make_calls-requires-clause-memory : goal.make_calls-requires-clause-memory
make_calls-requires-clause-memory g c =
    let o = c.read_in.ensures in
    let l = part_lengths (lists_of c.args.memory.now) in
    let a = accepted_read g.K.Recorded.format c.args.file.now l c.args.memory.now.weights.now c.read_in.new.weights c.args.memory.now.sets.now c.read_in.new.sets c.in_ok-sheet.sheet c.in_ok-sheet.ensures.read in
    rw (c.read_in.auto.weights, c.read_in.auto.sets, o.candidates, o.nodes, o.merges, o.potentials) (long_enough c.in_ok-sheet.sheet.words l a.opens)

pub returns-clause-ran : goal.returns-clause-ran
returns-clause-ran g c =
    let W = g.K.Kind in
    let f = g.K.Recorded.format in
    let file = c.args.file.now in
    let n = c.in_ok-sheet.sheet.words in
    let o = c.read_in.ensures in
    let none = enough_turns (turns_check (length c.args.calls.now) (length c.args.turns.now)) c.in_ok-turns_for.field-0 c.in_ok-turns_for.ensures in
    let before = lists_of c.args.memory.now in
    let start = lists c.read_in.new.weights c.read_in.new.sets c.read_in.new.candidates c.read_in.new.nodes c.read_in.new.merges c.read_in.new.potentials in
    let a = accepted_read f file (part_lengths before) c.args.memory.now.weights.now c.read_in.new.weights c.args.memory.now.sets.now c.read_in.new.sets c.in_ok-sheet.sheet c.in_ok-sheet.ensures.read in
    let first = file_turns f file (record_count f.width file) in
    let rest : SameRest n before start =
    record {
      weights = a.holds.weights_beyond;
      sets = a.holds.sets_beyond;
      others = record { candidates = ap (drop 51) o.candidates; nodes = ap (drop (n + 1)) o.nodes; merges = ap (drop (n - 1)) o.merges; potentials = ap (drop (n + 1)) o.potentials };
    } in
    let begins : Begins W.worth W.ranges n first start = file_begins f file W.worth W.ranges g.met.K.Recorded.entries n (record_count f.width file) start a.passes c.in_ok-sheet.ensures.law in
    rw (none, a.answer) (refl, ran_from W.worth W.ranges n n first c.args.calls.now before start (lists_of c.make_calls.new.memory) c.args.turns.now c.make_calls.new.turns refl rest (c.make_calls.ensures.ran first begins))
