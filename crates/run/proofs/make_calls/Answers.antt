use Rattle.std.proofs.Common.{◌<◌, length, refl, arith, rules}
use Rattle.run.specs.Loans.{lists_of}
use Rattle.run.proofs.Runs.{none_noted, notes_on, all_noted, still_long, same_on}
use Rattle.run.proofs.make_calls.Goals as goal

pub loop-i-init : goal.loop-i-init
loop-i-init g c =
    let W = g.K.Kind in
    record {
      noted = λ first begins. none_noted W.worth W.ranges c.args.sheet.words first (lists_of c.args.memory.now) c.args.sheet c.args.calls.now c.args.turns.now refl begins;
      parts = record { weights = refl; sets = refl; candidates = refl; nodes = refl; merges = refl; potentials = refl; long = refl };
    }

pub offset_bounds-turns-i : goal.offset_bounds-turns-i
offset_bounds-turns-i g c = let within : c.loop-i.i < length c.args.turns.now = omega arith in search rules

pub loop-i-preserved : goal.loop-i-preserved
loop-i-preserved g c =
    let W = g.K.Kind in
    let l = c.loop-i in
    let n = c.args.sheet.words in
    let enough = still_long n c.args.memory.now l.memory l.invariant.parts c.requires.memory in
    record {
      noted = λ first begins.
          notes_on W.worth W.ranges n first (lists_of c.args.memory.now) c.args.calls.now c.args.turns.now l.turns l.i l.state c.step-next.result.0 (lists_of l.memory) (lists_of c.step-next.new.memory) (record { call = c.index-calls-i.result; answer = c.step-next.result.1 })
          (omega arith) (omega arith) c.index-calls-i.is enough c.step-next.ensures.stepped (l.invariant.noted first begins);
      parts = same_on c.args.memory.now l.memory c.step-next.new.memory l.invariant.parts c.step-next.ensures.parts;
    }

pub returns-clause-ran : goal.returns-clause-ran
returns-clause-ran g c =
    let W = g.K.Kind in
    let l = c.loop-i in
    λ first begins. all_noted W.worth W.ranges c.args.sheet.words first (lists_of c.args.memory.now) c.args.calls.now c.args.turns.now l.turns l.i l.state (lists_of l.memory) (omega arith) (l.invariant.noted first begins)
