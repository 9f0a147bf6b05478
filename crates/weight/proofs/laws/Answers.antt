use Rattle.weight.proofs.Worths.{worth_laws, order_laws, bound_laws}
use Rattle.weight.proofs.Ranges.{entry_within}
use Rattle.weight.proofs.Texts.{text_laws}
use Rattle.weight.proofs.laws.Goals as goal

pub returns : goal.returns
returns c = record { group = worth_laws; order = order_laws; bounds = bound_laws; entries = entry_within; texts = text_laws }
