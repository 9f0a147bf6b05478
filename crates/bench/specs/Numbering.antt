-- The digits of a number
use Rattle.std.specs.Prelude.{ℕ, ◌/◌, ◌%◌, ◌^◌}

-- the digit at a place, the lowest at place 0
abbrev pub digit : ℕ → ℕ → ℕ → ℕ
digit base place number = number / base ^ place % base
