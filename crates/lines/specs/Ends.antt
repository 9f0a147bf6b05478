-- Which refusals of a take end a ranking, and with which last line.
use Rattle.std.specs.Prelude.{◌≡◌, ◌≢◌, ℕ, Ok, Err, Result}
use Rattle.lines.specs.declared.Last.TheVariants.{NoTree, NoMore, Fifty}
use Rattle.lines.specs.declared.Last.{Last}
use Rattle.refusal.specs.Refusals.{number_of}
use Rattle.refusal.specs.declared.Refusal.{Refusal}

-- the number of the refusal that tells the end
abbrev pub end_number : Last → ℕ
end_number NoTree = 8
end_number NoMore = 9
end_number Fifty = 10

-- the end that the refusal tells, or the refusal again where it tells none
abbrev pub ToldEnd : Refusal → Result Last Refusal → Type 0
ToldEnd why (Ok last) = end_number last ≡ number_of why
ToldEnd why (Err back) = ((last : Last) → end_number last ≢ number_of why) × (back ≡ why)
