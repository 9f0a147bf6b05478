-- A number of a line, read digit by digit.
use Rattle.std.specs.Prelude.{ℕ, ◌+◌, ◌-◌, ◌*◌, cond, Some, None, Option, ◌==◌, nat_lt}

-- a digit behind the number read so far: none behind a leading zero, and none where the number is no byte
abbrev pub with_digit : Option ℕ → ℕ → Option ℕ
with_digit None b = Some (b - 48)
with_digit (Some n) b = cond (n == 0) None (cond (nat_lt 255 (n * 10 + (b - 48))) None (Some (n * 10 + (b - 48))))
