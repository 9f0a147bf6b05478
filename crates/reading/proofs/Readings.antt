-- Reading a line of numbers gives back the numbers whose text it is, and fails at every other line.
use Rattle.std.proofs.Common.{◌≡◌, ℕ, ◌+◌, ◌-◌, ◌*◌, ◌/◌, ◌%◌, ◌^◌, ◌<◌, ◌≤◌, Bool, true, false, cond, ◌&&◌, eqb, ltb, leb, ◌⊎◌, List, [], ◌∷◌, ◌++◌, length, Some, None, decimal, Option, sym, refl, ap, ◌∙◌, inl, inr, append_assoc, append-nil, arith, length-append}
use Rattle.reading.specs.Reading.{with_digit}
use Rattle.reading.specs.Spaced.{Spells, SpellsNone, SpelledOnce}
use Rattle.std.proofs.lemmas.Fmt.{decimal_digit, decimal_step, decimal_by_steps}
use Rattle.std.proofs.lemmas.Bool.{cases_Bool, both_ways, and_from, le-leb, eqb-false, ne_eqb, ltb-false, le-ltb}
use Rattle.std.specs.List.{All, AllByRecursion}
use Rattle.std.proofs.lemmas.List.Elements.{All-nil, All-push, recursion_from_All}
use Rattle.text.specs.Spaced.{spaced}

abbrev is_digit : ℕ → Bool
is_digit b = leb 48 b && leb b 57

-- go on with the number, if there is one
abbrev go_on : Option ℕ → (ℕ → Option (List ℕ)) → Option (List ℕ)
go_on None f = None
go_on (Some n) f = f n

-- the numbers so far with those of the bytes to come; `number` is the one whose digits are being read
abbrev pub read_on : List ℕ → Option ℕ → List ℕ → Option (List ℕ)
read_on ns number [] = go_on number (λ n. Some (ns ++ (n ∷ [])))
read_on ns number (b ∷ bs) =
    cond (is_digit b) (go_on (with_digit number b) (λ n. read_on ns (Some n) bs))
    (cond (eqb b 32) (go_on number (λ n. read_on (ns ++ (n ∷ [])) None bs)) None)

-- the digits read of the number at hand
abbrev pub text_of : Option ℕ → List ℕ
text_of None = []
text_of (Some n) = decimal n

-- a number that is read is a byte, and its text grew by the digit
one_digit : (number : Option ℕ) (b n : ℕ) → 48 ≤ b → b ≤ 57 → with_digit number b ≡ Some n → decimal n ≡ text_of number ++ (b ∷ [])
one_digit None b n low high e =
    let is : b - 48 ≡ n = cc in
    let small : n < 10 = omega arith in
    let back : 48 + n ≡ b = omega arith in
    decimal_digit n small ∙ ap (λ x. x ∷ []) back
one_digit (Some m) b n low high e = by (cases_Bool (eqb m 0)) (cases_Bool (ltb 255 (m * 10 + (b - 48))))
  where
    by : (eqb m 0 ≡ true) ⊎ (eqb m 0 ≡ false) → (ltb 255 (m * 10 + (b - 48)) ≡ true) ⊎ (ltb 255 (m * 10 + (b - 48)) ≡ false) → decimal n ≡ decimal m ++ (b ∷ [])
    by (inl z) l = let no : None ≡ Some n = rw z at e in cc
    by (inr z) (inl l) = let no : None ≡ Some n = rw (z, l) at e in cc
    by (inr z) (inr l) =
        let yes : Some (m * 10 + (b - 48)) ≡ Some n = rw (z, l) at e in
        let is : m * 10 + (b - 48) ≡ n = cc in
        let some = eqb-false m 0 z in
        let small : m * 10 + (b - 48) ≤ 255 = ltb-false 255 (m * 10 + (b - 48)) l in
        let ten : 10 ≤ n = omega arith in
        let fits : n < 2 ^ 64 = omega arith in
        let front : n / 10 ≡ m = omega arith in
        let last : 48 + n % 10 ≡ b = omega arith in
        decimal_step n ten fits ∙ cc

pub digit_more : (number : Option ℕ) (b n : ℕ) (rest : List ℕ) → 48 ≤ b → b ≤ 57 → with_digit number b ≡ Some n → decimal n ++ rest ≡ text_of number ++ (b ∷ rest)
digit_more number b n rest low high e = ap (λ l. l ++ rest) (one_digit number b n low high e) ∙ append_assoc (text_of number) (b ∷ []) rest

-- numbers with a blank behind each, and then a text
abbrev pub in_front : List ℕ → List ℕ → List ℕ
in_front [] t = t
in_front (n ∷ ns) t = decimal n ++ (32 ∷ in_front ns t)

pub front_more : (ns t : List ℕ) (n : ℕ) → in_front (ns ++ (n ∷ [])) t ≡ in_front ns (decimal n ++ (32 ∷ t))
front_more [] t n = refl
front_more (m ∷ ns) t n = ap (λ l. decimal m ++ (32 ∷ l)) (front_more ns t n)

spaced_last : (ns : List ℕ) (n : ℕ) → spaced (ns ++ (n ∷ [])) ≡ in_front ns (decimal n ++ [])
spaced_last [] n = sym (append-nil (decimal n))
spaced_last (m ∷ []) n = ap (λ l. decimal m ++ (32 ∷ l)) (spaced_last [] n)
spaced_last (m ∷ k ∷ ns) n = ap (λ l. decimal m ++ (32 ∷ l)) (spaced_last (k ∷ ns) n)

-- each number is a byte
pub record Bytes (ns : List ℕ) : Type 0 where
  pub each : All (λ n. n < 256) ns

pub no_bytes : Bytes []
no_bytes = record { each = All-nil (λ n. n < 256) }

pub byte_more : (ns : List ℕ) (n : ℕ) → Bytes ns → n < 256 → Bytes (ns ++ (n ∷ []))
byte_more ns n bytes small = record { each = All-push (λ m. m < 256) ns n bytes.each small }

pub all_read : (line ns : List ℕ) (n : ℕ) → Bytes ns → n < 256 → in_front ns (decimal n ++ []) ≡ line → Spells line (ns ++ (n ∷ []))
all_read line ns n bytes small e = record { bytes = (byte_more ns n bytes small).each; some = omega (arith, length-append ns (n ∷ [])); text = sym (spaced_last ns n ∙ e) }

digit_is : (d : ℕ) → d < 10 → is_digit (48 + d) ≡ true
digit_is d h = and_from (leb 48 (48 + d)) (leb (48 + d) 57) (le-leb 48 (48 + d) (omega arith)) (le-leb (48 + d) 57 (omega arith))

-- the digits of a number are read as the number
number_read : (ns : List ℕ) (n : ℕ) → n < 2 ^ 64 → n < 256 → (rest : List ℕ) → read_on ns None (decimal n ++ rest) ≡ read_on ns (Some n) rest
number_read ns = decimal_by_steps (λ n ds. n < 256 → (rest : List ℕ) → read_on ns None (ds ++ rest) ≡ read_on ns (Some n) rest) one more
  where
    one : (n : ℕ) → n < 10 → n < 256 → (rest : List ℕ) → read_on ns None (((48 + n) ∷ []) ++ rest) ≡ read_on ns (Some n) rest
    one n h _ rest = rw (digit_is n h) (let back : 48 + n - 48 ≡ n = omega arith in ap (λ m. read_on ns (Some m) rest) back)

    more : (n : ℕ) (ds : List ℕ) → 10 ≤ n → (n / 10 < 256 → (rest : List ℕ) → read_on ns None (ds ++ rest) ≡ read_on ns (Some (n / 10)) rest) → n < 256 → (rest : List ℕ) → read_on ns None ((ds ++ ((48 + n % 10) ∷ [])) ++ rest) ≡ read_on ns (Some n) rest
    more n ds ten front small rest =
        let few : n / 10 < 256 = omega arith in
        let d : is_digit (48 + n % 10) ≡ true = digit_is (n % 10) (omega arith) in
        let some : eqb (n / 10) 0 ≡ false = ne_eqb (n / 10) 0 (λ e. omega arith) in
        let fits : ltb 255 (n / 10 * 10 + (48 + n % 10 - 48)) ≡ false = le-ltb 255 (n / 10 * 10 + (48 + n % 10 - 48)) (omega arith) in
        let back : n / 10 * 10 + (48 + n % 10 - 48) ≡ n = omega arith in
        ap (read_on ns None) (append_assoc ds ((48 + n % 10) ∷ []) rest) ∙ front few ((48 + n % 10) ∷ rest) ∙ rw (d, some, fits) (ap (λ m. read_on ns (Some m) rest) back)

-- the text of numbers is read as those numbers
complete : (before ns : List ℕ) → AllByRecursion (λ n. n < 256) ns → 1 ≤ length ns → read_on before None (spaced ns) ≡ Some (before ++ ns)
complete before [] small some = absurd (omega arith)
complete before (n ∷ []) small some = ap (read_on before None) (sym (append-nil (decimal n))) ∙ number_read before n (omega (arith, small.0)) small.0 []
complete before (n ∷ m ∷ ns) small some =
    number_read before n (omega (arith, small.0)) small.0 (32 ∷ spaced (m ∷ ns))
    ∙ complete (before ++ (n ∷ [])) (m ∷ ns) small.1 (omega arith)
    ∙ ap Some (append_assoc before (n ∷ []) (m ∷ ns))

read_spelled : (line ns : List ℕ) → Spells line ns → read_on [] None line ≡ Some ns
read_spelled line ns s = ap (read_on [] None) s.text ∙ complete [] ns (recursion_from_All (λ n. n < 256) ns s.bytes) s.some

pub read_none : (line : List ℕ) → read_on [] None line ≡ None → SpellsNone line
read_none line e ns spells =
    let yes : Some ns ≡ None = sym (read_spelled line ns spells) ∙ e in
    both_ways true (cc) refl

pub spelled_once : SpelledOnce
spelled_once line ns ms spells spells' =
    let same : Some ns ≡ Some ms = sym (read_spelled line ns spells) ∙ read_spelled line ms spells' in
    cc
