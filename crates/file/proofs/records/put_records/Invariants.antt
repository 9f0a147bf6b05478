use Rattle.file.proofs.Steps.{Left}
use Rattle.file.proofs.records.put_records.Given as goal

abbrev pub invariant-loop-number : goal.invariant-loop-number
invariant-loop-number g l = Left g.K.Recorded.format l.sheet.words l.file l.count l.number l.initial.weights l.weights l.initial.sets l.sets
