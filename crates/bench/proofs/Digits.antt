-- Digits, one after another.
use Rattle.std.proofs.Common.{◌≡◌, ℕ, suc, ◌+◌, ◌/◌, ◌%◌, ◌^◌, ◌<◌, List, length, slice_index, slice_set, ◌∙◌, ap, sym, arith}
use Rattle.std.proofs.Math.Nat.{div-div-eq-div-mul, pow-suc}
use Rattle.std.proofs.lemmas.Grind.{get_or-set_at}
use Rattle.std.proofs.lemmas.List.{get_or-set_other}
use Rattle.bench.specs.Numbering.{digit}

-- what is left of a number after one digit more
pub rest_next : (n b i r : ℕ) → r ≡ n / b ^ i → r / b ≡ n / b ^ (i + 1)
rest_next n b i r e =
    let step : suc i ≡ i + 1 = omega arith in
    ap (λ x. x / b) e ∙ div-div-eq-div-mul n (b ^ i) b ∙ ap (λ p. n / p) (sym (pow-suc b i)) ∙ ap (λ k. n / b ^ k) step

-- one digit more stands in its place
pub digits_next : (n b i r x : ℕ) (heads : List ℕ) → i < length heads → r ≡ n / b ^ i → x ≡ r % b → ((place : ℕ) → place < i → slice_index heads place ≡ digit b place n) → (place : ℕ) → place < i + 1 → slice_index (slice_set heads i x) place ≡ digit b place n
digits_next n b i r x heads inside rest now before place lower = grind (arith, rest, now, before place, inside, lower, get_or-set_at heads i place x 0, get_or-set_other heads i place x 0)
