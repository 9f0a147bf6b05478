use Rattle.examples.proofs.Rows.{Computed, right}
use Rattle.examples.proofs.worked_lines.Goals as goal
use Rattle.examples.proofs.Printed.{printed}
use Rattle.examples.specs.Lines.{Right}
use Rattle.examples.specs.Worked.{worked_lines}
use Rattle.std.proofs.ByRecursion.{All-weaker}
use Rattle.std.specs.List.{AllByRecursion}
use Rattle.std.proofs.Common.{refl}

computed : AllByRecursion Computed worked_lines
computed =
    ((refl, refl), ((refl, refl), ((refl, refl), ((record { frame = refl; records = refl; standing = λ h d. refl }, (refl, refl), printed), ((refl, refl), ((refl, refl), ((refl, refl), ((refl, refl), ((refl, refl), (refl, tt))))))))))

pub returns : goal.returns
returns c = All-weaker Computed Right right worked_lines computed
