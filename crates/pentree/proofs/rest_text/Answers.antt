use Rattle.std.proofs.Common.{rules}
use Rattle.pentree.proofs.Steps.{none_left, some_left}
use Rattle.pentree.proofs.rest_text.Goals as goal

pub returns-then-is_empty : goal.returns-then-is_empty
returns-then-is_empty c = λ words. none_left words c.args.rest.now (search rules)

pub returns : goal.returns
returns c = λ words. some_left words c.args.rest.now (search rules) c.requires
