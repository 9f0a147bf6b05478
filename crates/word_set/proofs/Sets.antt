-- The bits of a number as a set of words.
use Rattle.std.proofs.Common.{◌≡◌, ℕ, ◌+◌, ◌-◌, ◌*◌, ◌/◌, ◌%◌, ◌^◌, ◌<◌, ◌≤◌, min, max, true, false, not, ◌&&◌, ◌||◌, eqb, ltb, leb, sym, refl, ap, ◌∙◌, ⊎_elim, one-mul, mul_comm, arith}
use lib.Bits.{bit_and, bit_or, bit_xor}
use lib.Count.{count_trailing_zeros}
use mir.Syntax.{w64}
use Rattle.std.specs.Int.{bit_at}
use Rattle.std.proofs.lemmas.Nat.Bits.{bit_at-zero, shr_and_one, bit_at_and, bit_at_or, bit_at_xor, bit_at-pow_same, bit_at-pow_other, bit_at_ones, bit_at_ones_above, bit_at_above, bit_at-lt, bit_at-trailing_zeros, bit_at_cat_low, same_from_bits}
use Rattle.std.proofs.Math.Nat.{add-mul, div-add-mod}
use Rattle.std.proofs.lemmas.Nat.{one_shl, pow_pos, shr_high}
use Rattle.std.proofs.lemmas.Bool.{cases_lt, cases_eq, eq-eqb, ne_eqb, le-leb, lt-leb}
use Rattle.std.proofs.lemmas.Bool.Decides.{nat_tests}
use Rattle.word_set.specs.Bits.{in_set}
use Rattle.word_set.specs.Words.{Takes}

-- a word is in a set where its bit is one
by_bit : (s v b : ℕ) → bit_at s v ≡ b → in_set s v ≡ eqb b 1
unfolding in_set
by_bit s v b e = ap (λ (x : ℕ). eqb x 1) e

pub bit_is : (s v : ℕ) → eqb (bit_and (s / 2 ^ v) 1) 1 ≡ in_set s v
bit_is s v = ap (λ (x : ℕ). eqb x 1) (shr_and_one s v) ∙ sym (by_bit s v (bit_at s v) refl)

-- sets of the same words are the same number
pub same_set : (a b : ℕ) → ((v : ℕ) → in_set a v ≡ in_set b v) → a ≡ b
unfolding in_set
same_set a b same = same_from_bits a b (λ i. by (bit_at a i) (bit_at b i) (bit_at-lt a i) (bit_at-lt b i) (same i))
  where
    by : (x y : ℕ) → x < 2 → y < 2 → eqb x 1 ≡ eqb y 1 → x ≡ y
    by x y p q e = grind (arith, nat_tests)

pub in_set_empty : (v : ℕ) → in_set 0 v ≡ false
in_set_empty v = by_bit 0 v 0 (bit_at-zero v)

pub in_set_or : (a b v : ℕ) → in_set (bit_or a b) v ≡ (in_set a v || in_set b v)
unfolding in_set
in_set_or a b v = by_bit _ v _ (bit_at_or a b v) ∙ at (bit_at a v) (bit_at b v) (bit_at-lt a v) (bit_at-lt b v)
  where
    at : (x y : ℕ) → x < 2 → y < 2 → eqb (max x y) 1 ≡ (eqb x 1 || eqb y 1)
    at x y p q = grind (arith, nat_tests)

pub in_set_and : (a b v : ℕ) → in_set (bit_and a b) v ≡ (in_set a v && in_set b v)
unfolding in_set
in_set_and a b v = by_bit _ v _ (bit_at_and a b v) ∙ at (bit_at a v) (bit_at b v) (bit_at-lt a v) (bit_at-lt b v)
  where
    at : (x y : ℕ) → x < 2 → y < 2 → eqb (min x y) 1 ≡ (eqb x 1 && eqb y 1)
    at x y p q = grind (arith, nat_tests)

pub in_set_less : (a b v : ℕ) → in_set (bit_xor a (bit_and a b)) v ≡ (in_set a v && not (in_set b v))
unfolding in_set
in_set_less a b v = by_bit _ v _ (bit_at_xor a (bit_and a b) v ∙ ap (λ (x : ℕ). (bit_at a v + x) % 2) (bit_at_and a b v)) ∙ at (bit_at a v) (bit_at b v) (bit_at-lt a v) (bit_at-lt b v)
  where
    at : (x y : ℕ) → x < 2 → y < 2 → eqb ((x + min x y) % 2) 1 ≡ (eqb x 1 && not (eqb y 1))
    at x y p q = grind (arith, nat_tests)

pub in_set_one : (w v : ℕ) → in_set (2 ^ w) v ≡ eqb v w
in_set_one w v = ⊎_elim
    (λ e. by_bit _ v 1 (ap (bit_at (2 ^ w)) e ∙ bit_at-pow_same w) ∙ sym (eq-eqb v w e))
    (λ n. by_bit _ v 0 (bit_at-pow_other w v n) ∙ sym (ne_eqb v w n))
    (cases_eq v w)

-- all the words of a line
pub in_set_line : (n v : ℕ) → in_set (2 ^ (n + 1) - 1) v ≡ leb v n
in_set_line n v = ⊎_elim
    (λ l. by_bit _ v 0 (bit_at_ones_above (n + 1) v (omega arith)) ∙ sym (lt-leb v n l))
    (λ l. by_bit _ v 1 (bit_at_ones (n + 1) v (omega arith)) ∙ sym (le-leb v n l))
    (cases_lt n v)

-- ---- the lowest word of a set
in_parts : (s v : ℕ) → s / 2 ^ v * 2 ^ v + s % 2 ^ v ≡ s
in_parts s v = ap (λ (x : ℕ). x + s % 2 ^ v) (mul_comm (s / 2 ^ v) (2 ^ v)) ∙ div-add-mod s (2 ^ v)

-- one less, where the lowest bit is at w
module _ (s w : ℕ) (here : bit_at s w ≡ 1) (below : (i : ℕ) → i < w → bit_at s i ≡ 0) where
  above : (v : ℕ) → w < v → bit_at (s - 1) v ≡ bit_at s v
  above v l =
      let q : ℕ = s / 2 ^ v in
      let r : ℕ = s % 2 ^ v in
      let few = pow_pos v in
      let e : q * 2 ^ v + r ≡ s = in_parts s v in
      let at : bit_at r w ≡ 1 = sym (bit_at_cat_low q v r w l) ∙ ap (λ (x : ℕ). bit_at x w) e ∙ here in
      let more : 0 < r = ⊎_elim (λ z. absurd (omega (arith, ap (λ (x : ℕ). bit_at x w) z, bit_at-zero w))) (λ n. omega arith) (cases_eq r 0) in
      let f : s - 1 ≡ q * 2 ^ v + (r - 1) = omega arith in
      ap (λ (x : ℕ). x / 2 ^ v % 2) f ∙ ap (λ (x : ℕ). x % 2) (shr_high q v (r - 1) (omega arith))

  none_below : s % 2 ^ w ≡ 0
  none_below =
      let few = pow_pos w in
      same_from_bits (s % 2 ^ w) 0 (λ i. ⊎_elim
      (λ l. sym (bit_at_cat_low (s / 2 ^ w) w (s % 2 ^ w) i l) ∙ ap (λ (x : ℕ). bit_at x i) (in_parts s w) ∙ below i l ∙ sym (bit_at-zero i))
      (λ l. bit_at_above (s % 2 ^ w) w i (omega arith) l ∙ sym (bit_at-zero i))
      (cases_lt i w))

  gone : bit_at (s - 1) w ≡ 0
  gone =
      let q : ℕ = s / 2 ^ w in
      let few = pow_pos w in
      let odd : q ≡ q - 1 + 1 = omega (arith, here) in
      let e : (q - 1) * 2 ^ w + 2 ^ w + s % 2 ^ w ≡ s = ap (λ (x : ℕ). (q - 1) * 2 ^ w + x + s % 2 ^ w) (sym (one-mul (2 ^ w))) ∙ ap (λ (x : ℕ). x + s % 2 ^ w) (sym (add-mul (q - 1) 1 (2 ^ w))) ∙ ap (λ (x : ℕ). x * 2 ^ w + s % 2 ^ w) (sym odd) ∙ in_parts s w in
      let f : s - 1 ≡ (q - 1) * 2 ^ w + (2 ^ w - 1) = omega (arith, none_below) in
      ap (λ (x : ℕ). x / 2 ^ w % 2) f ∙ ap (λ (x : ℕ). x % 2) (shr_high (q - 1) w (2 ^ w - 1) (omega arith)) ∙ omega (arith, here)

  others : (v : ℕ) → in_set (bit_and s (s - 1)) v ≡ (in_set s v && not (eqb v w))
  unfolding in_set
  others v = by_bit _ v _ (bit_at_and s (s - 1) v) ∙ at (bit_at s v) (bit_at (s - 1) v) (bit_at-lt s v) (below v) (λ e. ap (bit_at (s - 1)) e ∙ gone) (above v)
    where
      at : (x y : ℕ) → x < 2 → (v < w → x ≡ 0) → (v ≡ w → y ≡ 0) → (w < v → y ≡ x) → eqb (min x y) 1 ≡ (eqb x 1 && not (eqb v w))
      at x y l p q r = grind (arith, nat_tests)

module _ (s : ℕ) (some : 0 < s) (few : s < 2 ^ 64) where
  pub lowest_in : (count_trailing_zeros 64 s < 64) × (in_set s (count_trailing_zeros 64 s) ≡ true)
  lowest_in = let t = bit_at-trailing_zeros w64 s some few in (t.0, by_bit s _ 1 t.1)

  -- s & (s - 1) is s without its lowest word
  pub takes : Takes s (count_trailing_zeros 64 s) (bit_and s (s - 1))
  takes =
      let w : ℕ = count_trailing_zeros 64 s in
      let t = bit_at-trailing_zeros w64 s some few in record {
        near = t.0;
        inside = by_bit s w 1 t.1;
        lowest = λ v l. by_bit s v 0 (t.2 v l);
        others = others s w t.1 t.2;
      }

-- words for which a set has no room
pub in_set_beyond : (s w : ℕ) → s < 2 ^ 64 → 64 ≤ w → in_set s w ≡ false
in_set_beyond s w few far = by_bit s w 0 (bit_at_above s 64 w few far)

pub only_small : (w v : ℕ) → w < 64 → in_set (1 * 2 ^ w % 2 ^ 64) v ≡ eqb v w
only_small w v near = rw (one_shl w 64 near) (in_set_one w v)

pub only_near : (w v : ℕ) → w < 64 → in_set (1 * 2 ^ w % 2 ^ 64) v ≡ (eqb v w && ltb w 64)
only_near w v near = only_small w v near ∙ grind (arith, nat_tests)

pub only_far : (w v : ℕ) → 64 ≤ w → in_set 0 v ≡ (eqb v w && ltb w 64)
only_far w v far = in_set_empty v ∙ grind (arith, nat_tests)
