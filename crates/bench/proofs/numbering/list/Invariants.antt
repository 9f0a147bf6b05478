use Rattle.std.proofs.Common.{◌≡◌, ℕ, ◌+◌, ◌/◌, ◌^◌, ◌<◌, length, slice_index}
use Rattle.bench.specs.Numbering.{digit}
use Rattle.bench.proofs.numbering.list.Given as goal

-- the digits so far, and what is left of the number
abbrev pub invariant-loop-head : goal.invariant-loop-head
invariant-loop-head l = (length l.head-items ≡ 5) × (l.base ≡ l.words + 1) × (l.rest ≡ l.number / l.base ^ l.head-index) × ((place : ℕ) → place < l.head-index → slice_index l.head-items place ≡ digit (l.words + 1) place l.number)
