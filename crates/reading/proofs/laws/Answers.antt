use Rattle.reading.proofs.Readings.{spelled_once}
use Rattle.reading.proofs.laws.Goals as goal

pub returns : goal.returns
returns c = spelled_once
