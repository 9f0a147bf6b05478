use Rattle.run.proofs.Runs.{Noted}
use Rattle.run.specs.Law.{Run}
use Rattle.run.specs.Loans.{lists_of, SameLoans}
use Rattle.run.specs.Steps.{Begins}
use Rattle.run.proofs.make_calls.Given as goal

abbrev pub invariant-loop-i : goal.invariant-loop-i
invariant-loop-i g l =
    let W = g.K.Kind in
    record {
      noted : (first : Run g.row.K.Denot) → Begins W.worth W.ranges l.fn.sheet.words first (lists_of l.fn.memory) →
          Noted W.worth W.ranges l.fn.sheet.words first (lists_of l.fn.memory) l.calls l.initial.turns l.turns l.i l.state (lists_of l.memory);
      parts : SameLoans l.fn.memory l.memory;
    }
