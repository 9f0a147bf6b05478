use Rattle.std.proofs.Common.{rules}
use Rattle.std.proofs.lemmas.Int.{to_z-of_z}
use Rattle.weight.proofs.Places.{placed_shown}
use Rattle.weight.proofs.showing.show_place.Goals as goal

pub returns : goal.returns
returns c = search (rules, to_z-of_z, placed_shown)
