use Rattle.std.proofs.Common.{◌≡◌, ◌+◌, ◌≤◌, length, drop}
use Rattle.lines.proofs.Spacing.{blanked}
use Rattle.lines.proofs.writing.write_spaced.Given as goal
use Rattle.text.specs.Space.{written}

-- with the text that is still to come, the space is as it will be
abbrev pub invariant-loop-number : goal.invariant-loop-number
invariant-loop-number l =
    (written l.space l.end (blanked (drop l.number-index l.rest)) ≡ written l.initial.space l.initial.end (blanked l.rest))
    × (l.end + length (blanked (drop l.number-index l.rest)) ≡ l.initial.end + length (blanked l.rest))
    × (l.initial.end + length (blanked l.rest) ≤ length l.space)
