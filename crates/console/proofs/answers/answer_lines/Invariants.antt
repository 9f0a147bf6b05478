-- The lines so far are answered.
use Rattle.console.proofs.Texts.{SoFar}
use Rattle.console.specs.Inputs.{lines_remaining}
use Rattle.console.proofs.answers.answer_lines.Given as goal

abbrev pub invariant-loop-line : goal.invariant-loop-line
invariant-loop-line g l =
    (goal.iterator-loop-line g).can_next l.line-iterator ×
    (goal.iterator-loop-line g).is_finite l.line-iterator ×
    SoFar g.A.Answer.answers (g.R.Read.remaining l.fn.input) (lines_remaining g.R.Read.remaining l.line-iterator) (g.W.Write.contents l.initial.out) (g.W.Write.contents l.out)
