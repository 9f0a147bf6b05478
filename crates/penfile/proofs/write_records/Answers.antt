use Rattle.std.proofs.Common.{◌≡◌, ℕ, ◌+◌, List, ◌++◌, refl, sym, ap, ◌∙◌, subst, arith}
use Rattle.penfile.proofs.Lists.{one_more}
use Rattle.penfile.specs.Lines.{record_line, record_lines}
use Rattle.std.proofs.KnownBytes.{Appends-trans}
use Rattle.std.specs.Io.KnownBytes.{Appends}
use Rattle.penfile.proofs.write_records.Goals as goal

pub loop-number-preserved : goal.loop-number-preserved
loop-number-preserved g c =
    let out = g.W.Write.contents in
    let file = c.args.file.now in
    let width = c.args.width in
    let k = c.loop-number.number-counter in
    let at : 0 + k ≡ k = omega arith in
    let step : record_lines width file (k + 1) ≡ record_lines width file k ++ record_line width file k = one_more (record_line width file) 0 k (k + 1) refl ∙ ap (λ (i : ℕ). record_lines width file k ++ record_line width file i) at in
    let line : Appends (out c.loop-number.out) (out c.writeln.new.self) (record_line width file k) = c.in_ok-writeln.ensures.bytes in
    subst (λ (t : List ℕ). Appends (out c.args.out.now) (out c.writeln.new.self) t) (sym step) (Appends-trans (out c.args.out.now) (out c.loop-number.out) (out c.writeln.new.self) _ _ c.loop-number.invariant line)
