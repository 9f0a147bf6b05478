-- What was read and written so far is the front of the script and of its text, and the lines read and those that may still be asked for are fewer than 2^64.
use Rattle.std.proofs.Common.{◌+◌, ◌<◌, ◌^◌}
use Rattle.console.specs.Inputs.{lines_remaining}
use Rattle.pentrace.proofs.Reading.{SoFar}
use Rattle.pentrace.proofs.run_script.Given as goal

abbrev pub invariant-loop-line : goal.invariant-loop-line
invariant-loop-line g l =
    (goal.iterator-loop-line g).can_next l.line-iterator ×
    (goal.iterator-loop-line g).is_finite l.line-iterator ×
    SoFar (g.R.Read.remaining l.fn.input) (lines_remaining g.R.Read.remaining l.line-iterator) l.script (g.W.Write.contents l.initial.out) (g.W.Write.contents l.out) ×
    (l.script.read + l.line-iterator.left < 2 ^ 64)
