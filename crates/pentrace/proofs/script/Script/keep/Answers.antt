use Rattle.std.proofs.Common.{◌++◌, List, ℕ, ◌∙◌, refl, subst, arith}
use Rattle.std.proofs.KnownBytes.{Appends-trans}
use Rattle.std.specs.Io.KnownBytes.{Appends}
use Rattle.pentrace.specs.Texts.{too_many_text}
use Rattle.pentrace.proofs.script.Script.keep.Goals as goal

pub returns-then-len-ge-MOST_LINES-clause-kept : goal.returns-then-len-ge-MOST_LINES-clause-kept
returns-then-len-ge-MOST_LINES-clause-kept g c =
    let s = c.args.self.now in
    let held = g.W.Write.contents c.args.out.now in
    let holds = g.W.Write.contents c.finish.new.out in
    let longer = g.W.Write.contents c.write_all.new.self in
    let part = c.in_ok-finish.ensures in
    let more = subst (λ (bs : List ℕ). Appends holds longer bs) (c.as_bytes.ensures.value ∙ c.in_ok-told.ensures) c.in_ok-write_all.ensures.bytes in
    (omega (arith, s.few, s.lines.ok.0), (part.0 ++ too_many_text s.read, (part.0, part.1, refl), Appends-trans held holds longer part.0 (too_many_text s.read) part.2 more))
