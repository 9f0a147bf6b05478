use Rattle.std.proofs.Common.{◌≡◌, ℕ, List, OnOk, ap, ◌∙◌, subst, arith}
use Rattle.std.specs.Io.KnownBytes.{Appends}
use Rattle.file.specs.Faults.{fault_number}
use Rattle.filing.specs.Inputs.{fault_text}
use Rattle.lines.proofs.Lengths.{line_fits, refused_short}
use Rattle.lines.specs.Lines.{refused_line_text}
use Rattle.filing.proofs.write_fault.Goals as goal

pub unwrap-long-requires : goal.unwrap-long-requires
unwrap-long-requires g c =
    let short = refused_short c.number.result c.place.result (omega arith) (omega arith) in
    (line_fits (refused_line_text c.number.result c.place.result) _ _ _ c.refused_line.ensures (omega (arith, short))).0

pub returns : goal.returns
returns g c =
    let short = refused_short c.number.result c.place.result (omega arith) (omega arith) in
    let put = (line_fits (refused_line_text c.number.result c.place.result) _ _ _ c.refused_line.ensures (omega (arith, short))).1 c.unwrap-long.result c.unwrap-long.ensures in
    let told : refused_line_text c.number.result c.place.result ≡ fault_text c.args.fault = ap (λ n. refused_line_text n c.place.result) c.number.ensures ∙ ap (λ n. refused_line_text (fault_number c.args.fault) n) c.place.ensures in
    subst (λ (t : List ℕ). OnOk c.write_all.result (Appends (g.W.Write.contents c.args.out.now) (g.W.Write.contents c.write_all.new.self) t)) (put.1 ∙ told) c.write_all.ensures.bytes
