-- The arcs so far are told, and the memory holds them.
use Rattle.std.proofs.Common.{◌≡◌, ℕ, ◌++◌, List, length}
use Rattle.pentree.specs.Texts.{PutsHeld, puts_text}
use Rattle.weight.specs.Numbers.{Score}
use Rattle.pentree.proofs.puts_text.Given as goal

abbrev pub invariant-loop-rest : goal.invariant-loop-rest
invariant-loop-rest l =
    (l.text.items ++ puts_text l.sheet.words l.rest ≡ puts_text l.sheet.words l.arcs)
    × ((weights : List Score) (sets : List ℕ) →
    PutsHeld l.sheet.words l.rest l.memory.weights.items weights l.memory.sets.items sets → PutsHeld l.sheet.words l.arcs l.initial.memory.weights.items weights l.initial.memory.sets.items sets)

abbrev pub decreases-loop-rest : goal.decreases-loop-rest
decreases-loop-rest l = length l.rest
