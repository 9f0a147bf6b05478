use Rattle.std.proofs.Common.{◌≡◌, ◌∙◌, ◌+◌, ◌<◌, ◌^◌, ap, sym, subst, Some, Option, List, ℕ, arith, Bool, true, false, Err}
use Rattle.std.proofs.lemmas.Result.{err_from_is_err_and}
use Rattle.console.specs.Inputs.{lines_remaining}
use Rattle.console.specs.Lines.{GivesLine, IsLine}
use Rattle.pentrace.proofs.Reading.{SoFar, so_far_none, so_far_more, so_far_full, so_far_all, so_far_long}
use Rattle.pentrace.specs.Reading.{LineRead}
use Rattle.pentrace.proofs.run_script.Goals as goal

pub loop-line-init : goal.loop-line-init
loop-line-init g c =
    let held = g.W.Write.contents c.args.out.now in
    let s = c.new-script.result in
    let lines = c.into_iter-line-iterator.ensures.into_iter_gives in (
      tt,
      tt,
      subst (λ (o : Option (List ℕ)). SoFar (g.R.Read.remaining c.args.input) o s held held) (sym (ap (λ ls. lines_remaining g.R.Read.remaining ls) lines ∙ c.lines_of-line-items.ensures.all))
          (so_far_none (g.R.Read.remaining c.args.input) held s c.new-script.ensures.read c.new-script.ensures.words c.new-script.ensures.lines),
      omega (arith, c.new-script.ensures.read, ap (λ ls. ls.left) lines, c.lines_of-line-items.ensures.many),
    )

pub returns-in_err-line : goal.returns-in_err-line
returns-in_err-line g c =
    let s = c.loop-line.script in
    let left = lines_remaining g.R.Read.remaining c.loop-line.line-iterator in
    let rest = lines_remaining g.R.Read.remaining c.next.new.self in
    let (given, line) = subst (λ item. GivesLine left (Some item) rest × IsLine (Some item)) c.in_err-line.was c.in-Some.ensures.steps in
    let is = err_from_is_err_and {Q = λ why. why ≡ c.in_err-line.field-0.0} c.from_residual.result c.from_residual.ensures.1 in
    let e : c.from_residual.result ≡ Err c.in_err-line.field-0.0 = is.1 ∙ ap Err is.2 in
    rw e (so_far_long (g.R.Read.remaining c.args.input) left rest (g.W.Write.contents c.args.out.now) (g.W.Write.contents c.loop-line.out) s c.in_err-line.field-0.0 (omega (arith, s.few, s.lines.ok.0)) c.loop-line.invariant.2 given)

pub returns-then-not-branch : goal.returns-then-not-branch
returns-then-not-branch g c =
    let s = c.loop-line.script in
    let left = lines_remaining g.R.Read.remaining c.loop-line.line-iterator in
    let rest = lines_remaining g.R.Read.remaining c.next.new.self in
    let holds = g.W.Write.contents c.loop-line.out in
    let longer = g.W.Write.contents c.step.new.out in
    let (given, line) = subst (λ item. GivesLine left (Some item) rest × IsLine (Some item)) c.in_ok-line.was c.in-Some.ensures.steps in
    let step = subst (λ (l : List ℕ). LineRead s c.step.new.self l holds longer c.in_ok-step.field-0) c.as_slice.ensures.value c.in_ok-step.ensures in
    let stop : c.in_ok-step.field-0 ≡ false = cc in
    let fewer = (c.in-Some.ensures.goes.on tt).2 in
    let number : s.read + 1 < 2 ^ 64 = omega (arith, c.loop-line.invariant.3, fewer) in
    so_far_full (g.R.Read.remaining c.args.input) left rest (g.W.Write.contents c.args.out.now) holds longer s c.step.new.self c.in_ok-line.line (omega (arith, s.few, s.lines.ok.0)) number c.loop-line.invariant.2 given line.1
    (subst (λ (more : Bool). LineRead s c.step.new.self c.in_ok-line.line.items holds longer more) stop step)

pub loop-line-preserved : goal.loop-line-preserved
loop-line-preserved g c =
    let s = c.loop-line.script in
    let left = lines_remaining g.R.Read.remaining c.loop-line.line-iterator in
    let rest = lines_remaining g.R.Read.remaining c.next.new.self in
    let holds = g.W.Write.contents c.loop-line.out in
    let longer = g.W.Write.contents c.step.new.out in
    let (given, line) = subst (λ item. GivesLine left (Some item) rest × IsLine (Some item)) c.in_ok-line.was c.in-Some.ensures.steps in
    let step = subst (λ (l : List ℕ). LineRead s c.step.new.self l holds longer c.in_ok-step.field-0) c.as_slice.ensures.value c.in_ok-step.ensures in
    let goes : c.in_ok-step.field-0 ≡ true = cc in
    let fewer = (c.in-Some.ensures.goes.on tt).2 in
    let number : s.read + 1 < 2 ^ 64 = omega (arith, c.loop-line.invariant.3, fewer) in
    let counted = step.counted number in (
      tt,
      tt,
      so_far_more (g.R.Read.remaining c.args.input) left rest (g.W.Write.contents c.args.out.now) holds longer s c.step.new.self c.in_ok-line.line (omega (arith, s.few, s.lines.ok.0)) number c.loop-line.invariant.2 given line.1
          (subst (λ (more : Bool). LineRead s c.step.new.self c.in_ok-line.line.items holds longer more) goes step),
      omega (arith, c.loop-line.invariant.3, fewer, counted),
    )

pub returns : goal.returns
returns g c =
    let s = c.loop-line.script in
    let left = lines_remaining g.R.Read.remaining c.loop-line.line-iterator in
    let rest = lines_remaining g.R.Read.remaining c.next.new.self in
    so_far_all (g.R.Read.remaining c.args.input) left rest (g.W.Write.contents c.args.out.now) (g.W.Write.contents c.loop-line.out) (g.W.Write.contents c.finish.new.out) s (omega (arith, s.few, s.lines.ok.0)) c.loop-line.invariant.2 c.in-None.ensures.steps.0 c.in_ok-finish.ensures
