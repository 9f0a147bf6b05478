use Rattle.std.proofs.Common.{◌∙◌, ap, subst, List, OnOk, Result}
use Rattle.std.specs.Io.KnownBytes.{Appends}
use Rattle.pentrace.proofs.Turns.{sheet_done, sheet_refused}
use Rattle.pentrace.specs.Script.{TurnsOf}
use Rattle.pentrace.specs.Texts.{lines_text, open_text}
use Rattle.refusal.specs.declared.Refusal.{Refusal}
use Rattle.run.specs.declared.Turn.{Turn}
use Rattle.std.specs.Global.{Vec}
use Rattle.weight.specs.Numbers.{Score}
use Rattle.pentrace.proofs.write_sheet.Goals as goal

pub returns-in_ok-write_all-in-Ok : goal.returns-in_ok-write_all-in-Ok
returns-in_ok-write_all-in-Ok g c =
    let held = g.W.Write.contents c.args.out.now in
    let holds = g.W.Write.contents c.write_all.new.self in
    let longer = g.W.Write.contents c.write_lines.new.out in
    sheet_done c.args.words c.args.lines.now c.in-Ok.turns held holds longer c.as_bytes.result.now c.write_lines.result
    (subst (λ (r : Result (Vec (Turn Score)) Refusal). TurnsOf c.args.words c.args.lines.now r) c.in-Ok.is c.in_ok-turns.ensures)
    (c.as_bytes.ensures.value ∙ c.in_ok-open-in-Ok.ensures) c.in_ok-write_all-in-Ok.ensures.bytes
    (subst (λ (ts : List (Turn Score)). OnOk c.write_lines.result (Appends holds longer (lines_text c.args.words c.args.lines.now ts))) c.as_slice.ensures.value c.write_lines.ensures)

pub returns-in_ok-write_all-in-Err : goal.returns-in_ok-write_all-in-Err
returns-in_ok-write_all-in-Err g c =
    let held = g.W.Write.contents c.args.out.now in
    let holds = g.W.Write.contents c.write_all-in-Err.new.self in
    let longer = g.W.Write.contents c.write_lines-in-Err.new.out in
    sheet_refused c.args.words c.args.lines.now c.in-Err.why held holds longer c.as_bytes-in-Err.result.now c.write_lines-in-Err.result
    (subst (λ (r : Result (Vec (Turn Score)) Refusal). TurnsOf c.args.words c.args.lines.now r) c.in-Err.is c.in_ok-turns.ensures)
    (c.as_bytes-in-Err.ensures.value ∙ c.in_ok-open-in-Err.ensures ∙ ap (open_text c.args.words) (c.as_str.ensures.value ∙ c.in_ok-why-in-Err.ensures)) c.in_ok-write_all-in-Err.ensures.bytes
    c.write_lines-in-Err.ensures
