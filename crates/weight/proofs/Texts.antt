-- What holds of the texts of worths
use Rattle.std.proofs.Common.{◌≡◌, ℕ, suc, ◌+◌, ◌%◌, ◌^◌, ◌<◌, List, [], ◌∷◌, ◌++◌, length, ℤ, pos, negsuc, neg_ℤ, ◌≤ℤ◌, decimal, refl, ap, arith}
use lib.Signed.{mag}
use Rattle.std.specs.Fmt.{signed_decimal}
use Rattle.std.proofs.lemmas.Fmt.{decimal_by_steps, first_decimal, signed_decimal_injective}
use Rattle.std.proofs.lemmas.Int.{ints}
use Rattle.weight.specs.Worth.{Worth, Within}
use Rattle.weight.specs.Text.{text, TextLaws}

-- no byte is a comma
abbrev NoComma : List ℕ → Type 0
NoComma [] = Unit {0}
NoComma (b ∷ bs) = (b ≡ 44 → ⊥) × NoComma bs

no_comma_push : (bs : List ℕ) (b : ℕ) → NoComma bs → (b ≡ 44 → ⊥) → NoComma (bs ++ (b ∷ []))
no_comma_push [] b h k = (k, tt)
no_comma_push (a ∷ as') b h k = (h.0, no_comma_push as' b h.1 k)

no_comma_decimal : (n : ℕ) → n < 2 ^ 64 → NoComma (decimal n)
no_comma_decimal n h =
    decimal_by_steps (λ _ ds. NoComma ds) (λ n l. (λ e. omega arith, tt)) (λ n ds l k. no_comma_push ds (48 + n % 10) k (λ e. omega arith)) n h

no_comma_signed : (x : ℤ) → mag x < 2 ^ 63 → NoComma (signed_decimal x)
no_comma_signed (pos n) h = no_comma_decimal n (omega arith)
no_comma_signed (negsuc n) h = (λ e. omega arith, no_comma_decimal (suc n) (omega arith))

-- the first comma parts two equal texts alike
parted : (f g s t : List ℕ) → NoComma f → NoComma g → f ++ (44 ∷ s) ≡ g ++ (44 ∷ t) → (f ≡ g) × (s ≡ t)
parted [] [] s t h k e = (refl, (cc))
parted [] (b ∷ bs) s t h k e = absurd (k.0 (cc))
parted (a ∷ as') [] s t h k e = absurd (h.0 (cc))
parted (a ∷ as') (b ∷ bs) s t h k e =
    let head : a ≡ b = cc in
    let tail : as' ++ (44 ∷ s) ≡ bs ++ (44 ∷ t) = cc in
    let p = parted as' bs s t h.1 k.1 tail in
    let q = p.0 in
    ((cc), p.1)

small : (x : ℤ) → neg_ℤ (pos (2 ^ 40)) ≤ℤ x → x ≤ℤ pos (2 ^ 40) → mag x < 2 ^ 63
small (pos n) l h = omega (arith, ints)
small (negsuc n) l h = omega (arith, ints)

told_apart : (a b : Worth) → length a ≡ length b → Within (2 ^ 40) a → Within (2 ^ 40) b → text a ≡ text b → a ≡ b
told_apart [] [] l v w e = refl
told_apart [] (y ∷ ys) l v w e = absurd (omega arith)
told_apart (x ∷ xs) [] l v w e = absurd (omega arith)
told_apart (x ∷ []) (y ∷ []) l v w e =
    ap (λ z. z ∷ []) (signed_decimal_injective x y (small x v.0 v.1) (small y w.0 w.1) e)
told_apart (x ∷ []) (y ∷ (b ∷ bs)) l v w e = absurd (omega arith)
told_apart (x ∷ (a ∷ as')) (y ∷ []) l v w e = absurd (omega arith)
told_apart (x ∷ (a ∷ as')) (y ∷ (b ∷ bs)) l v w e =
    let u = small x v.0 v.1 in
    let u' = small y w.0 w.1 in
    let p = parted (signed_decimal x) (signed_decimal y) _ _ (no_comma_signed x u) (no_comma_signed y u') e in
    let q : x ≡ y = signed_decimal_injective x y u u' p.0 in
    let r : ◌≡◌ {A = Worth} (a ∷ as') (b ∷ bs) = told_apart (a ∷ as') (b ∷ bs) (omega arith) v.2 w.2 p.1 in
    cc

pub text_laws : TextLaws
text_laws = record { no_leading_zero = first_decimal; told_apart = told_apart }
