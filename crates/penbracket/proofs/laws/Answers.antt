use Rattle.penbracket.proofs.Settled.{one_text}
use Rattle.penbracket.proofs.laws.Goals as goal

pub returns : goal.returns
returns c = one_text c.laws.ensures c.find_cycle.ensures.laws.3
