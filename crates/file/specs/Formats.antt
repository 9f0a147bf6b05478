-- How the weights of each kind lie in a record.
use Rattle.std.specs.Prelude.{ℕ, ◌+◌, ◌*◌, Bool, cond, List, [], ◌∷◌, length, Some, None, Option, ℤ, pos, neg_ℤ, nat_le, slice_index}
use Rattle.file.specs.declared.fault.FileKind.TheVariants.{Score as ScoreFile, Cost as CostFile, Mark as MarkFile}
use Rattle.file.specs.declared.fault.FileKind.{FileKind}
use Rattle.weight.specs.Layers.{Mark, layer, mark_worth}
use Rattle.weight.specs.Numbers.{Score, Cost, single, score_worth, cost_worth}
use Rattle.weight.specs.Range.{Range, entry_in}
use Rattle.weight.specs.Worth.{Worth}
use Rattle.std.specs.Int.{w32}
use Rattle.std.proofs.Common.{to_z}

-- what a reader knows of its kind
pub record Format (K : Type 0) : Type 0 where
  pub kind : FileKind
  -- how many bytes a weight has
  pub width : ℕ
  -- the weight in the bytes from a place on
  pub weight_at : List ℕ → ℕ → K
  -- whether a sheet takes the weight
  pub entry : K → Bool

-- the weight in the bytes from a place on, if they are all there
abbrev pub weight_read : {K : Type 0} → Format K → List ℕ → ℕ → Option K
weight_read f file at = cond (nat_le (at + f.width) (length file)) (Some (f.weight_at file at)) None

-- the number in the four bytes from a place on, big-endian
abbrev pub number_at : List ℕ → ℕ → ℕ
number_at file at = slice_index file at * 16777216 + slice_index file (at + 1) * 65536 + slice_index file (at + 2) * 256 + slice_index file (at + 3)

-- the same, signed in two's complement
abbrev pub signed_at : List ℕ → ℕ → ℤ
signed_at file at = to_z w32 (number_at file at)

abbrev pub score_at : List ℕ → ℕ → Score
score_at file at = single (signed_at file at)

abbrev pub cost_at : List ℕ → ℕ → Cost
cost_at file at = single (neg_ℤ (pos (number_at file at)))

abbrev pub mark_at : List ℕ → ℕ → Mark Score
mark_at file at = layer (pos (slice_index file at)) (score_at file (at + 1))

-- from −1,000,000 to 1,000,000
abbrev pub score_range : Range
score_range = record { least = neg_ℤ (pos 1000000); greatest = pos 1000000 }

-- the negative of a cost from 0 to 1,000,000
abbrev pub cost_range : Range
cost_range = record { least = neg_ℤ (pos 1000000); greatest = pos 0 }

-- from 0 to 9
abbrev pub mark_range : Range
mark_range = record { least = pos 0; greatest = pos 9 }

-- a format, with the entries told by the ranges of the worth's places
abbrev pub format_of : {K : Type 0} → FileKind → ℕ → (List ℕ → ℕ → K) → List Range → (K → Worth) → Format K
format_of kind width weight_at ranges worth = record { kind = kind; width = width; weight_at = weight_at; entry = λ x. entry_in ranges (worth x) }

abbrev pub score_format : Format Score
score_format = format_of ScoreFile 4 score_at (score_range ∷ []) score_worth

abbrev pub cost_format : Format Cost
cost_format = format_of CostFile 4 cost_at (cost_range ∷ []) cost_worth

abbrev pub mark_format : Format (Mark Score)
mark_format = format_of MarkFile 5 mark_at (mark_range ∷ score_range ∷ []) (mark_worth score_worth)
