-- A weight that is shown into space enough.
use Rattle.std.proofs.Common.{◌≡◌, ℕ, ◌^◌, ◌≤◌, true, List, length, Ok, Err, Result, IsOk, refl, arith}
use Rattle.lines.proofs.Lengths.{weight_short}
use Rattle.refusal.specs.declared.Refusal.{Refusal}
use Rattle.weight.proofs.Ranges.{entry_within}
use Rattle.weight.proofs.Worths.{within_more}
use Rattle.weight.specs.Range.{Range, Ranged, entry_in, limit}
use Rattle.weight.specs.Text.{Shown, text}
use Rattle.weight.specs.Worth.{Worth}

by_length : (a : Worth) (before after : List ℕ) (r : Result ℕ Refusal) → length (text a) ≤ length before → Shown a before after r → IsOk r
by_length a before after (Ok n) fits is = refl
by_length a before after (Err e) fits is = absurd (omega (arith, is.1))

-- an entry of one or two places
pub entry_shown : (ranges : List Range) (a : Worth) (before after : List ℕ) (r : Result ℕ Refusal) → Ranged ranges → entry_in ranges a ≡ true → length a ≤ 2 → Shown a before after r → 64 ≤ length before → IsOk r
entry_shown ranges a before after r ranged entry two is room =
    let short = weight_short a two (within_more limit (2 ^ 40) a (omega arith) (entry_within ranges a ranged entry)) in
    by_length a before after r (omega arith) is
