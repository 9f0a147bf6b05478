-- The ranges in which the places of an entry lie: what a sheet takes as the weight of an arc.
use Rattle.std.specs.Prelude.{◌≡◌, ℕ, Bool, true, false, ◌&&◌, List, [], ◌∷◌, ℤ, pos, neg_ℤ, ◌≤ℤ◌, int_le}
use Rattle.weight.specs.Worth.{Worth, Within}

-- from the least to the greatest, both included
pub record Range : Type 0 where
  pub least : ℤ
  pub greatest : ℤ

abbrev pub in_range : Range → ℤ → Bool
in_range r x = int_le r.least x && int_le x r.greatest

-- whether each place lies in its range
abbrev pub entry_in : List Range → Worth → Bool
entry_in [] [] = true
entry_in [] (x ∷ xs) = false
entry_in (r ∷ rs) [] = false
entry_in (r ∷ rs) (x ∷ xs) = in_range r x && entry_in rs xs

-- no place of an entry is beyond this
abbrev pub limit : ℕ
limit = 1000000

-- each range contains 0 and lies within ± the limit
abbrev pub Ranged : List Range → Type 0
Ranged [] = Unit {0}
Ranged (r ∷ rs) = (neg_ℤ (pos limit) ≤ℤ r.least) × (r.least ≤ℤ pos 0) × (pos 0 ≤ℤ r.greatest) × (r.greatest ≤ℤ pos limit) × Ranged rs

-- an entry of such ranges lies within the limit
abbrev pub EntryWithin : Type 0
EntryWithin = (rs : List Range) (a : Worth) → Ranged rs → entry_in rs a ≡ true → Within limit a
