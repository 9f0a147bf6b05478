use Rattle.file.proofs.Numbered.{kinds_told}
use Rattle.file.proofs.fault.FileKind.number.Goals as goal

pub returns-clause-told : goal.returns-clause-told
returns-clause-told c = kinds_told
