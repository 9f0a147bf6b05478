use Rattle.std.proofs.Common.{◌≡◌, ℕ, ◌<◌, List, [], ◌∷◌, get_or}
use Rattle.lines.proofs.LastTryFromRefusal.try_from.Given as goal
use Rattle.lines.specs.Ends.{end_number}
use Rattle.lines.specs.declared.Last.TheVariants.{NoTree, NoMore, Fifty}
use Rattle.lines.specs.declared.Last.{Last}
use Rattle.refusal.specs.Refusals.{number_of}

abbrev ends : List Last
ends = NoTree ∷ NoMore ∷ Fifty ∷ []

-- no end that was looked at has the number
abbrev pub invariant-loop-last : goal.invariant-loop-last
invariant-loop-last l = (l.last-items ≡ ends) × ((k : ℕ) → k < l.last-index → end_number (get_or ends k NoTree) ≡ number_of l.why → ⊥)
