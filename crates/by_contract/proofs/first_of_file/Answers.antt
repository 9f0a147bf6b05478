use Rattle.by_contract.proofs.OfFiles.{kept}
use Rattle.by_contract.proofs.first_of_file.Goals as goal
use Rattle.by_contract.specs.declared.FirstTaken.{FirstTaken}
use Rattle.ranking.specs.Calls.{part_lengths}
use Rattle.ranking.specs.Memory.{memory_of, MemoryParts}
use Rattle.std.proofs.Common.{◌≡◌, Err, refl, ap, ◌∙◌}
use Rattle.std.proofs.lemmas.Result.{err_from_is_err_and}

pub returns-in_err-sheet : goal.returns-in_err-sheet
returns-in_err-sheet g c =
    let is = err_from_is_err_and {Q = λ why. why ≡ c.in_err-sheet.field-0.0} c.from_residual.result c.from_residual.ensures.1 in
    let e : c.from_residual.result ≡ Err c.in_err-sheet.field-0.0 = is.1 ∙ ap Err is.2 in
    (Err c.in_err-sheet.field-0.0, c.in_err-sheet.ensures.answer, rw e refl)

pub returns : goal.returns
returns g c =
    let given = c.args in
    let lent : MemoryParts g.row.K.Denot = record { weights = given.weights.now; sets = given.sets.now; candidates = given.candidates.now; nodes = given.nodes.now; merges = given.merges.now; potentials = given.potentials.now } in
    let answer : FirstTaken g.row.K.Denot = record { words = c.words-words.result; taken = c.take-taken.result; heads = c.take-taken.new.space } in
    let memory : MemoryParts g.row.K.Denot =
    record { weights = c.read.new.weights; sets = c.read.new.sets; candidates = given.candidates.now; nodes = given.nodes.now; merges = given.merges.now; potentials = given.potentials.now } in
    let memory' : MemoryParts g.row.K.Denot = memory_of c.read.new.weights c.take-taken.new.sets c.take-taken.new.candidates c.take-taken.new.working in
    kept g.K.Recorded.format g.K.Kind.worth g.K.Kind.ranges (part_lengths lent) given.file.now c.in_ok-sheet.sheet answer given.weights.now given.sets.now _ c.begin-ranking.result c.take-taken.new.ranking memory memory'
    c.words-words.ensures (rw (c.read.auto.weights, c.read.auto.sets) refl) c.in_ok-sheet.ensures.answer c.in_ok-sheet.ensures.law c.begin-ranking.ensures.words c.begin-ranking.ensures.law refl c.take-taken.ensures.took
