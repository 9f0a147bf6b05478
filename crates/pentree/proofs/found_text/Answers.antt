use Rattle.std.proofs.Common.{take, rules}
use Rattle.pentree.proofs.Searches.{told_of, chosen_of}
use Rattle.pentree.proofs.Steps.{if_ok, none_refused}
use Rattle.pentree.specs.Texts.{score_ranges}
use Rattle.weight.specs.Numbers.{score_worth}
use Rattle.pentree.proofs.found_text.Goals as goal

pub returns-in-Err : goal.returns-in-Err
returns-in-Err c = absurd (none_refused c.args.words c.in-Err.refusal c.requires c.in-Err.ensures.told.0)

pub returns-in-Ok : goal.returns-in-Ok
returns-in-Ok c =
    let memory = c.args.memory.now in
    let heads = take c.args.words c.search.new.heads in
    if_ok _ _ c.answer_text.result (λ v told arcs holds. (
      c.in-Ok.found,
      heads,
      told,
      told_of score_worth score_ranges c.args.words memory.weights.items memory.sets.items arcs (search rules) holds heads c.in-Ok.found c.in-Ok.ensures.told.4,
      chosen_of c.args.words memory.weights.items memory.sets.items arcs (search rules) holds heads c.in-Ok.found c.in-Ok.ensures.settled,
    )) c.answer_text.ensures
