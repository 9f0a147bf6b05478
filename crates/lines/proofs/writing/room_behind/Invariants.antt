use Rattle.std.proofs.Common.{◌≡◌, ◌+◌, length, drop}
use Rattle.lines.proofs.Spacing.{blanked}
use Rattle.lines.proofs.writing.room_behind.Given as goal

-- the room that is left is for what is still to come
abbrev pub invariant-loop-number : goal.invariant-loop-number
invariant-loop-number l = l.free + length (blanked l.rest) ≡ l.initial.free + length (blanked (drop l.number-index l.rest))
