-- The numbers that are drawn at random
use Rattle.std.specs.Prelude.{ℕ, ◌+◌, ◌*◌, ◌/◌, ◌%◌, ◌^◌, ℤ, pos, ◌-ℤ◌}

-- the seed after a draw
abbrev pub seed_after : ℕ → ℕ
seed_after seed = (seed * 6364136223846793005 + 1442695040888963407) % 2 ^ 64

-- the number that a draw from the seed gives
abbrev pub drawn_from : ℕ → ℕ
drawn_from seed = seed_after seed / 2 ^ 33

-- the score that a draw from the seed gives, one of those that are entries
abbrev pub score_from : ℕ → ℤ
score_from seed = pos (drawn_from seed % 2000001) -ℤ pos 1000000
