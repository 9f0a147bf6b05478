use Rattle.std.proofs.Common.{◌≡◌, List, [], Ok, Err, length, ◌∙◌, subst, arith}
use Rattle.std.proofs.lemmas.List.{with_items_is}
use Rattle.desk.specs.Parts.{parts_of}
use Rattle.pentrace.proofs.Turns.{opened_by, run_of}
use Rattle.pentrace.specs.Script.{RunOf, score_ranges}
use Rattle.ranking.specs.Calls.{part_lengths}
use Rattle.run.specs.Steps.{Ran}
use Rattle.run.specs.declared.Call.{Call}
use Rattle.weight.specs.Numbers.{Score, score_worth}
use Rattle.pentrace.proofs.turns_of.Goals as goal

pub returns-in-Ok : goal.returns-in-Ok
returns-in-Ok c =
    let m = c.in_ok-memory.memory in
    let before = parts_of m in
    let after = parts_of c.run.new.self in
    let calls = c.as_slice.result.now in
    let turns = c.as_mut_slice.result.now in
    let ran = opened_by c.args.words (part_lengths before) (length calls) (length turns) (Ok c.in-Ok.field-0)
    ((after ≡ before) × (c.run.new.turns ≡ turns)) (Ran score_worth score_ranges c.args.words [] calls before after turns c.run.new.turns)
    (omega (arith, m.weights.ok.0)) (omega (arith, m.sets.ok.0)) (omega (arith, m.candidates.ok.0)) (omega (arith, m.nodes.ok.0)) (omega (arith, m.merges.ok.0)) (omega (arith, m.potentials.ok.0))
    (omega (arith, c.in_ok-turns.ensures.len, c.len.ensures, c.as_slice.ensures.len, c.as_mut_slice.ensures.len)) c.in-Ok.ensures in
    let run = run_of c.args.words calls before after turns c.run.new.turns ran.1 (omega (arith, c.in_ok-turns.ensures.len, c.len.ensures, c.as_slice.ensures.len, c.as_mut_slice.ensures.len, c.run.auto.turns)) in
    rw (with_items_is c.in_ok-turns.turns c.run.new.turns (c.run.auto.turns ∙ c.as_mut_slice.ensures.len))
    (ran.0, subst (λ (cs : List (Call Score)). RunOf c.args.words cs c.run.new.turns) (c.as_slice.ensures.value ∙ c.in_ok-calls.ensures) run)

pub returns : goal.returns
returns c =
    let m = c.in_ok-memory.memory in
    let before = parts_of m in
    let after = parts_of c.run.new.self in
    let calls = c.as_slice.result.now in
    let turns = c.as_mut_slice.result.now in
    opened_by c.args.words (part_lengths before) (length calls) (length turns) (Err c.in-Err.why)
    ((after ≡ before) × (c.run.new.turns ≡ turns)) (Ran score_worth score_ranges c.args.words [] calls before after turns c.run.new.turns)
    (omega (arith, m.weights.ok.0)) (omega (arith, m.sets.ok.0)) (omega (arith, m.candidates.ok.0)) (omega (arith, m.nodes.ok.0)) (omega (arith, m.merges.ok.0)) (omega (arith, m.potentials.ok.0))
    (omega (arith, c.in_ok-turns.ensures.len, c.len.ensures, c.as_slice.ensures.len, c.as_mut_slice.ensures.len)) c.in-Err.ensures
