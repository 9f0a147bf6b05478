use Rattle.by_contract.proofs.Composed.{done, kept, opened, passed, settled}
use Rattle.by_contract.proofs.two_words.Goals as goal
use Rattle.by_contract.specs.declared.Answers.{Answers}
use Rattle.ranking.specs.Calls.{part_lengths}
use Rattle.ranking.specs.Memory.{memory_of, MemoryParts}
use Rattle.refusal.specs.declared.Refusal.TheVariants.{ShortMemory}
use Rattle.sheet.specs.Calls.{too_short}
use Rattle.std.proofs.Common.{◌≡◌, false, refl, ◌∙◌, rules}

pub returns : goal.returns
returns g c =
    let given = c.args in
    let lent : MemoryParts g.row.K.Denot = record { weights = given.weights.now; sets = given.sets.now; candidates = given.candidates.now; nodes = given.nodes.now; merges = given.merges.now; potentials = given.potentials.now } in
    let lengths = part_lengths lent in
    let answers : Answers g.row.K.Denot =
    record { first = c.put-first.result; second = c.put-second.result; taken = c.take-taken.result; heads = c.take-taken.new.space; struck = c.strike-struck.result } in
    let memory : MemoryParts g.row.K.Denot =
    record { weights = c.put-second.new.weights; sets = c.put-second.new.sets; candidates = given.candidates.now; nodes = given.nodes.now; merges = given.merges.now; potentials = given.potentials.now } in
    let memory' : MemoryParts g.row.K.Denot = memory_of c.put-second.new.weights c.take-taken.new.sets c.take-taken.new.candidates c.take-taken.new.working in
    let fresh = opened _ _ _ c.in_ok-sheet.sheet c.in_ok-sheet.ensures.answer in
    let long : too_short 2 lengths ≡ false = passed (too_short 2 lengths) ShortMemory fresh.0 in
    let opens = c.open.auto.sets in
    let weights' = c.put-first.auto.weights in
    let sets' = c.put-first.auto.sets ∙ opens in
    done _ _ _ answers fresh.0
    (kept g.K.Kind.worth g.K.Kind.ranges lengths given.first given.second answers
    c.in_ok-sheet.sheet.words c.end-sheet.result.words given.weights.now c.put-first.new.weights c.open.new.sets c.put-first.new.sets c.strike-struck.new.sets _
    c.begin-ranking.result c.take-taken.new.ranking memory memory'
    fresh.1.0 c.in_ok-sheet.ensures.law c.put-first.ensures.law c.put-second.ensures.law c.begin-ranking.ensures.words c.begin-ranking.ensures.law
    (settled _ _ _ c.put-first.result c.put-first.ensures.answer) (settled _ _ _ c.put-second.result c.put-second.ensures.answer)
    refl weights' opens sets' (rw (c.put-second.auto.weights ∙ weights', c.put-second.auto.sets ∙ sets') refl) (search rules) long refl
    c.take-taken.ensures.took c.end-sheet.ensures.words c.end-sheet.ensures.law c.strike-struck.ensures.law (settled _ _ _ c.strike-struck.result c.strike-struck.ensures.answer))
