use Rattle.std.proofs.Common.{Some, subst}
use Rattle.std.proofs.lemmas.Result.{err_from_is_err_and}
use Rattle.std.specs.Io.KnownBytes.{Appends}
use Rattle.console.specs.Inputs.{lines_remaining}
use Rattle.console.specs.Lines.{GivesLine, IsLine}
use Rattle.console.proofs.Texts.{so_far_more, so_far_failed}
use Rattle.console.proofs.answers.answer_lines.Goals as goal

pub returns-in_err-text : goal.returns-in_err-text
returns-in_err-text g c =
    let p = err_from_is_err_and c.from_residual-in_err-text.result c.from_residual-in_err-text.ensures.1 in
    rw p.1 (so_far_failed g.A.Answer.answers (g.R.Read.remaining c.args.input) (g.W.Write.contents c.args.out.now) (g.W.Write.contents c.loop-line.out) p.0 p.2)

pub loop-line-preserved : goal.loop-line-preserved
loop-line-preserved g c =
    let left = lines_remaining g.R.Read.remaining c.loop-line.line-iterator in
    let rest = lines_remaining g.R.Read.remaining c.next.new.self in
    let (given, line) = subst (λ item. GivesLine left (Some item) rest × IsLine (Some item)) c.in_ok-line.was c.in-Some.ensures.steps in
    let is = subst (λ l. g.A.Answer.answers l c.in_ok-text.text.items) c.as_slice.ensures.value c.in_ok-text.ensures in
    let written = subst (λ l. Appends (g.W.Write.contents c.loop-line.out) (g.W.Write.contents c.write_all.new.self) l) c.as_slice-in-loop-line.ensures.value c.in_ok-write_all.ensures.bytes in
    (tt, tt, so_far_more g.A.Answer.answers _ left rest _ _ _ c.in_ok-line.field-0 c.in_ok-text.text.items c.loop-line.invariant.2 given line.1 is written)
