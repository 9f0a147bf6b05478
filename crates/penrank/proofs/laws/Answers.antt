use Rattle.penrank.proofs.Texts.{one_file_text}
use Rattle.penrank.proofs.laws.Goals as goal

pub returns : goal.returns
returns c = one_file_text
