use Rattle.lines.proofs.Lengths.{short_lines}
use Rattle.lines.proofs.Tabs.{told_fields}
use Rattle.lines.proofs.laws.Goals as goal

pub returns-clause-fields : goal.returns-clause-fields
returns-clause-fields c = told_fields

pub returns-clause-lengths : goal.returns-clause-lengths
returns-clause-lengths c = short_lines
