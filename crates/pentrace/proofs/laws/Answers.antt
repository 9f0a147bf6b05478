use Rattle.pentrace.proofs.Settled.{one_text}
use Rattle.pentrace.proofs.laws.Goals as goal

pub returns : goal.returns
returns c = one_text c.laws.ensures.settled
