-- A weight as it is shown: its places in order in decimal, joined by commas.
use Rattle.std.specs.Prelude.{◌≡◌, ℕ, ◌^◌, ◌<◌, ◌≤◌, List, [], ◌∷◌, ◌++◌, length, drop, Ok, Err, decimal, Result, slice_index}
use Rattle.std.specs.Fmt.{signed_decimal}
use Rattle.refusal.specs.declared.Refusal.{Refusal}
use Rattle.refusal.specs.declared.Refusal.TheVariants.{ShortSpace}
use Rattle.weight.specs.Worth.{Worth, Within}

-- `signed` has a minus before a negative and no leading zero; 44 is the comma
abbrev pub text : Worth → List ℕ
text [] = []
text (x ∷ []) = signed_decimal x
text (x ∷ (y ∷ ys)) = signed_decimal x ++ (44 ∷ text (y ∷ ys))

-- the text stands at the front of the space, the rest of which is as before, and the answer is its length;
-- or it does not fit, and the whole space is as before
abbrev pub Shown : Worth → List ℕ → List ℕ → Result ℕ Refusal → Type 0
Shown a before after (Ok n) = (n ≡ length (text a)) × (n ≤ length before) × (after ≡ text a ++ drop n before)
Shown a before after (Err e) = (e ≡ ShortSpace) × (length before < length (text a)) × (after ≡ before)

-- No number but 0 begins with the digit 0, and a text says which worth it shows.
pub record TextLaws : Type 0 where
  pub no_leading_zero : (n : ℕ) → 0 < n → n < 2 ^ 64 → 48 < slice_index (decimal n) 0
  pub told_apart : (a b : Worth) → length a ≡ length b → Within (2 ^ 40) a → Within (2 ^ 40) b → text a ≡ text b → a ≡ b
