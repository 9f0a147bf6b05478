-- A set of words as a number: bit w is up where word w is in the set. Bit 0 is the root's.
use Rattle.std.specs.Prelude.{ℕ, ◌/◌, ◌%◌, ◌^◌, Bool, ◌==◌}

unfoldable pub in_set : ℕ → ℕ → Bool
in_set set w = (set / 2 ^ w) % 2 == 1
