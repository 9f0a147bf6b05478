use Rattle.cells.proofs.Parting.{parts, tested}
use Rattle.cells.proofs.Keeping.{kept_trees, sub_searched}
use Rattle.cells.proofs.Accounting.{all_steps}
use Rattle.cells.proofs.Slotted.{all_slot_steps}
use Rattle.cells.proofs.Worded.{worded}
use Rattle.cells.proofs.laws.Goals as goal

pub returns : goal.returns
returns c = record { parts = parts; tested = tested; trees = kept_trees; searched = sub_searched; steps = all_steps; slots = all_slot_steps; words = worded }
