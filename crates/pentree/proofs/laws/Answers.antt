use Rattle.pentree.proofs.Once.{one_text}
use Rattle.pentree.proofs.laws.Goals as goal

pub returns : goal.returns
returns c = one_text c.laws.ensures c.laws-2.ensures.once
