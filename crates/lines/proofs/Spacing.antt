-- Numbers with one blank between, one after another.
use Rattle.std.proofs.Common.{◌≡◌, ℕ, ◌+◌, ◌-◌, ◌<◌, ◌≤◌, List, [], ◌∷◌, ◌++◌, length, get_or, take, drop, decimal, sym, refl, ap, ◌∙◌, append-nil, arith, length-append}
use Rattle.std.proofs.lemmas.List.{drop_more, take_rest}
use Rattle.text.specs.Spaced.{spaced}

-- each number with a blank before it
abbrev pub blanked : List ℕ → List ℕ
blanked [] = []
blanked (n ∷ ns) = 32 ∷ (decimal n ++ blanked ns)

pub spaced_first : (n : ℕ) (ns : List ℕ) → spaced (n ∷ ns) ≡ decimal n ++ blanked ns
spaced_first n [] = sym (append-nil (decimal n))
spaced_first n (m ∷ ns) = ap (λ t. decimal n ++ (32 ∷ t)) (spaced_first m ns)

pub blanked_more : (ns : List ℕ) (i : ℕ) → i < length ns → blanked (drop i ns) ≡ 32 ∷ (decimal (get_or ns i 0) ++ blanked (drop (i + 1) ns))
blanked_more ns i h = ap blanked (drop_more ns i 0 h)

pub length_blanked : (ns : List ℕ) (i : ℕ) → i < length ns → length (blanked (drop i ns)) ≡ 1 + length (decimal (get_or ns i 0)) + length (blanked (drop (i + 1) ns))
length_blanked ns i h = let p = length-append (decimal (get_or ns i 0)) (blanked (drop (i + 1) ns)) in omega (arith, ap length (blanked_more ns i h))

-- the first number, and then the others as the rest of the slice
pub split_first : (ns : List ℕ) → 1 ≤ length ns → spaced ns ≡ decimal (get_or ns 0 0) ++ blanked (take (length ns - 1) (drop 1 ns))
split_first [] h = absurd (omega arith)
split_first (n ∷ ns) h = spaced_first n ns ∙ ap (λ l. decimal n ++ blanked l) (sym (take_rest (n ∷ ns) 1))

pub length_split : (ns : List ℕ) → 1 ≤ length ns → length (spaced ns) ≡ length (decimal (get_or ns 0 0)) + length (blanked (take (length ns - 1) (drop 1 ns)))
length_split ns h = ap length (split_first ns h) ∙ length-append (decimal (get_or ns 0 0)) (blanked (take (length ns - 1) (drop 1 ns)))

pub spaced_none : (ns : List ℕ) → length ns < 1 → spaced ns ≡ []
spaced_none [] h = refl
spaced_none (n ∷ ns) h = absurd (omega arith)
