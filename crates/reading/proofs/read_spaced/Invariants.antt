use Rattle.reading.proofs.Readings.{Bytes, in_front, read_on, text_of}
use Rattle.reading.proofs.read_spaced.Given as goal
use Rattle.std.proofs.Common.{◌≡◌, [], ◌++◌, drop, None, vec_items}

-- the line is what was read and the bytes that are left, and what is read with these is what is read of the line
abbrev pub invariant-loop-byte : goal.invariant-loop-byte
invariant-loop-byte l =
    Bytes (vec_items l.numbers)
    × (in_front (vec_items l.numbers) (text_of l.number ++ drop l.byte-index l.line) ≡ l.line)
    × (read_on (vec_items l.numbers) l.number (drop l.byte-index l.line) ≡ read_on [] None l.line)
