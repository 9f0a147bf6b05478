use Rattle.file.proofs.Steps.{left_more, left_refused}
use Rattle.file.proofs.records.put_records.Goals as goal
use Rattle.std.proofs.Common.{rules}

pub loop-number-preserved : goal.loop-number-preserved
loop-number-preserved g c = left_more _ _ _ _ _ _ _ _ _ c.loop-number.invariant c.loop-number-test.true _ _ _ c.in_ok-put_record.ensures

pub returns-in_err-put_record : goal.returns-in_err-put_record
returns-in_err-put_record g c = left_refused _ _ _ _ _ _ _ _ _ c.loop-number.invariant c.loop-number-test.true _ _ _ _ _ c.in_err-put_record.ensures (search rules)
