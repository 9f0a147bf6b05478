-- How long the lines are, and a line at the front of a space that is long enough.
use Rattle.std.proofs.Common.{◌≡◌, ℕ, suc, ◌+◌, ◌*◌, ◌^◌, ◌<◌, ◌≤◌, List, [], ◌∷◌, length, take, Ok, refl, ℤ, pos, negsuc, neg_ℤ, ◌≤ℤ◌, decimal, Result, IsOk, ap, ◌∙◌, arith, length-append}
use Rattle.lines.proofs.Pieces.{length_before, length_behind, length_refused, length_tree}
use Rattle.lines.specs.Lengths.{ShortLines}
use Rattle.lines.specs.Lines.{tree_text, last_text, refused_line_text}
use Rattle.lines.specs.declared.Last.TheVariants.{NoTree, NoMore, Fifty}
use Rattle.lines.specs.declared.Last.{Last}
use Rattle.refusal.specs.declared.Refusal.{Refusal}
use Rattle.std.proofs.lemmas.Fmt.{length-decimal-le}
use Rattle.std.proofs.lemmas.Int.{ints}
use Rattle.std.proofs.lemmas.List.{take_at}
use Rattle.std.specs.Fmt.{signed_decimal}
use Rattle.std.specs.List.{AllByRecursion}
use Rattle.text.proofs.Places.{few_digits, length_written}
use Rattle.text.specs.Space.{Placed}
use Rattle.text.specs.Spaced.{spaced}
use Rattle.weight.specs.Text.{text}
use Rattle.weight.specs.Worth.{Worth, Within}

-- a place of up to 2^40 takes thirteen digits and a minus
place_short : (x : ℤ) → neg_ℤ (pos (2 ^ 40)) ≤ℤ x → x ≤ℤ pos (2 ^ 40) → length (signed_decimal x) ≤ 14
place_short (pos n) l h = let d = length-decimal-le 13 n (omega arith) (omega (arith, ints)) (omega (arith, ints)) in omega arith
place_short (negsuc n) l h = let d = length-decimal-le 13 (suc n) (omega arith) (omega (arith, ints)) (omega (arith, ints)) in omega arith

pub weight_short : (a : Worth) → length a ≤ 2 → Within (2 ^ 40) a → length (text a) ≤ 29
weight_short [] h w = omega arith
weight_short (x ∷ []) h w = let p = place_short x w.0 w.1 in omega arith
weight_short (x ∷ (y ∷ [])) h w =
    let p = place_short x w.0 w.1 in
    let q = place_short y w.2.0 w.2.1 in
    let l = length-append (signed_decimal x) (44 ∷ signed_decimal y) in
    omega arith
weight_short (x ∷ (y ∷ (z ∷ zs))) h w = absurd (omega arith)

spaced_short : (ns : List ℕ) → AllByRecursion (λ n. n < 256) ns → length (spaced ns) ≤ 4 * length ns
spaced_short [] h = omega arith
spaced_short (n ∷ []) h = let d = length-decimal-le 3 n (omega arith) (omega (arith, h.0)) (omega (arith, h.0)) in omega arith
spaced_short (n ∷ (m ∷ ns)) h =
    let d = length-decimal-le 3 n (omega arith) (omega (arith, h.0)) (omega (arith, h.0)) in
    let more = spaced_short (m ∷ ns) h.1 in
    let l = length-append (decimal n) (32 ∷ spaced (m ∷ ns)) in
    omega arith

pub tree_short : (number : ℕ) (weight : Worth) (heads : List ℕ) → number < 2 ^ 64 → length weight ≤ 2 → Within (2 ^ 40) weight → length heads ≤ 40 → AllByRecursion (λ h. h < 256) heads → length (tree_text number weight heads) ≤ 212
tree_short number weight heads small two within forty bytes =
    omega (arith, few_digits number small, weight_short weight two within, spaced_short heads bytes, length_tree number weight heads, length_before number, length_behind heads)

pub last_short : (last : Last) → length (last_text last) ≤ 8
last_short NoTree = omega arith
last_short NoMore = omega arith
last_short Fifty = omega arith

pub refused_short : (number place : ℕ) → number < 2 ^ 64 → place < 2 ^ 64 → length (refused_line_text number place) ≤ 53
refused_short number place n p = omega (arith, few_digits number n, few_digits place p, length_refused number place)

pub short_lines : ShortLines
short_lines = record { tree = tree_short; last = last_short; refused = refused_short }

-- a line that fits is at the front of the space
pub line_fits : (t s after : List ℕ) (r : Result ℕ Refusal) → Placed t s 0 r after → length t ≤ length s → IsOk r × ((n : ℕ) → r ≡ Ok n → (n ≤ length after) × (take n after ≡ t))
line_fits t s after r p h =
    let put = p.fits (omega arith) in
    let zero : 0 + length t ≡ length t = omega arith in
    let told : r ≡ Ok (length t) = put.0 ∙ ap Ok zero in
    let long = ap length put.1 ∙ length_written s 0 t (omega arith) in
    let front : take (length t) after ≡ t = ap (take (length t)) put.1 ∙ take_at t _ (length t) refl in (
      rw told refl,
      λ n is. let same : n ≡ length t = cc in (omega arith, ap (λ k. take k after) same ∙ front),
    )
