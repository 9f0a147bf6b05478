use Rattle.std.proofs.Common.{◌≤◌, length, subst, arith, length-append}
use Rattle.console.specs.Lines.{GivesPart}
use Rattle.console.proofs.Fronts.{given_long, given_line, given_clean}
use Rattle.console.proofs.read_line.Goals as goal

pub returns-then-room-eq0-clause-gives : goal.returns-then-room-eq0-clause-gives
returns-then-room-eq0-clause-gives g c = given_long _ _ _ c.loop.invariant.read c.loop.invariant.no_end (omega arith)

pub returns-then-branch-clause-gives : goal.returns-then-branch-clause-gives
returns-then-branch-clause-gives g c =
    let read = c.loop.line.items in
    let whole = c.take_part.new.line.items in
    let (part, grown, fits, taken, stops, ends, over) = subst (λ b. GivesPart (g.R.Read.remaining c.loop.input) read c.saturating_sub-room.result b whole (g.R.Read.remaining c.take_part.new.input)) c.if-branch.true c.in_ok-take_part.ensures in
    let few : length whole ≤ 65536 = rw grown (omega (arith, length-append read part)) in
    given_line _ _ _ read part whole c.without_end.result c.loop.invariant.read c.loop.invariant.no_end taken stops ends over grown (omega arith) few c.without_end.ensures

pub returns-then-branch-clause-line : goal.returns-then-branch-clause-line
returns-then-branch-clause-line g c =
    let read = c.loop.line.items in
    let whole = c.take_part.new.line.items in
    let (part, grown, fits, taken, stops, ends, over) = subst (λ b. GivesPart (g.R.Read.remaining c.loop.input) read c.saturating_sub-room.result b whole (g.R.Read.remaining c.take_part.new.input)) c.if-branch.true c.in_ok-take_part.ensures in
    let few : length whole ≤ 65536 = rw grown (omega (arith, length-append read part)) in
    given_clean read part whole c.without_end.result c.loop.invariant.no_end stops ends grown (omega arith) few c.without_end.ensures
