use Rattle.sheet.proofs.Rows.{none_level}
use Rattle.sheet.proofs.laws.Goals as goal

pub returns : goal.returns
returns c = none_level
