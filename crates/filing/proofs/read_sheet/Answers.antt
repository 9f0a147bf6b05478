use Rattle.std.proofs.Common.{◌≡◌, rules}
use Rattle.desk.specs.Parts.{parts_of}
use Rattle.filing.proofs.Outcomes.{reads_truly}
use Rattle.filing.specs.Outcomes.{for_any_line}
use Rattle.ranking.specs.Calls.{part_lengths}
use Rattle.filing.proofs.read_sheet.Goals as goal

pub returns-clause-truly : goal.returns-clause-truly
returns-clause-truly g c =
    let old = c.args.memory.now in
    let any : part_lengths (parts_of old) ≡ for_any_line = search rules in
    reads_truly g.K.Recorded.format g.K.Kind.worth g.K.Kind.ranges c.args.file.now (parts_of c.read.new.self) old.weights.items old.sets.items (part_lengths (parts_of old)) c.read.result
    any c.read.ensures.answer c.read.ensures.law
