use Rattle.std.proofs.Common.{◌++◌, List, ℕ, ◌∙◌, ap, subst, [], Ok, pos}
use Rattle.std.proofs.KnownBytes.{Appends-nil, Appends-trans}
use Rattle.std.specs.Io.KnownBytes.{Appends}
use Rattle.std.specs.Prelude.{string_bytes}
use Rattle.std.specs.Slice.Iter.{iter_rest}
use Rattle.run.specs.declared.Call.TheVariants.{Put}
use Rattle.run.specs.declared.Turn.{Turn}
use Rattle.weight.specs.Numbers.{Score}
use Rattle.pentrace.specs.Texts.{lines_text}
use Rattle.pentrace.proofs.Lines.{next, none}
use Rattle.pentrace.proofs.write_lines.Goals as goal

pub loop-line-init : goal.loop-line-init
loop-line-init g c = ([], Appends-nil (g.W.Write.contents c.args.out.now), ap (λ (ts : List (Turn Score)). lines_text c.args.words c.args.lines.now ts) c.iter-left.ensures.rest)

pub loop-line-preserved : goal.loop-line-preserved
loop-line-preserved g c =
    let done = c.loop-line.invariant.0 in
    let text = string_bytes c.in_ok-text.text in
    let held = g.W.Write.contents c.loop-line.out in
    let holds = g.W.Write.contents c.write_all.new.self in
    let written = subst (λ (bs : List ℕ). Appends held holds bs) c.as_bytes.ensures.value c.in_ok-write_all.ensures.bytes in
    let more = next c.args.words done text c.args.lines.now c.loop-line.line-index (Ok (Put 0 0 (record { value = pos 0; of = record {} }))) (iter_rest c.loop-line.left) (iter_rest c.line_text.new.turns) c.loop-line-test.true c.in_ok-text.ensures in
    (done ++ text, Appends-trans (g.W.Write.contents c.args.out.now) held holds done text c.loop-line.invariant.1 written, more ∙ c.loop-line.invariant.2)

pub returns : goal.returns
returns g c =
    let rest = none c.args.words c.loop-line.invariant.0 c.args.lines.now c.loop-line.line-index (iter_rest c.loop-line.left) c.loop-line-test.false in
    subst (λ (bs : List ℕ). Appends (g.W.Write.contents c.args.out.now) (g.W.Write.contents c.loop-line.out) bs) (rest ∙ c.loop-line.invariant.2) c.loop-line.invariant.1
