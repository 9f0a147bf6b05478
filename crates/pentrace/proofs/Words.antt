-- The words of a line come one after the other
use Rattle.std.proofs.Common.{◌≡◌, ◌∷◌, ◌++◌, inl, inr, refl, ℕ, ◌<◌, ◌≤◌, true, false, List, [], length, get_or, Option, Some, None, arith, ltb, ap, ◌∙◌, append-nil, sym, cond, filter}
use Rattle.std.proofs.lemmas.Bool.{cases_lt, lt-ltb}
use Rattle.std.proofs.lemmas.Bool.Decides.{nat_tests}
use Rattle.std.proofs.lemmas.List.{get_or_default}
use Rattle.std.proofs.lemmas.List.Elements.{recursion_from_All}
use Rattle.std.proofs.lemmas.List.Splits.{slice_split-cons_yes, slice_split_none, slice_split_at}
use Rattle.std.proofs.lemmas.Str.{NoCharPasses-byte}
use Rattle.std.specs.Borrow.{Bor}
use Rattle.std.specs.Char.{is_ascii_whitespace}
use Rattle.std.specs.List.{All, AllByRecursion, AllPass, slice_split}
use Rattle.std.specs.Str.{NoCharPasses}
use Rattle.std.specs.Str.Iter.{CutsAsciiWord}
use Rattle.pentrace.specs.Words.{words_of}

-- the word is the first of the words, and the rest are left; or there is none
abbrev pub Comes : List (List ℕ) → Option (Bor (List ℕ)) → List (List ℕ) → Type 0
Comes words None rest = (words ≡ []) × (rest ≡ [])
Comes words (Some word) rest = words ≡ word.now ∷ rest

beyond_ascii : (b : ℕ) → 128 ≤ b → is_ascii_whitespace b ≡ false
beyond_ascii b h = grind (arith, nat_tests)

-- no byte of a word is white space
bytes : (word : List ℕ) → NoCharPasses is_ascii_whitespace word → All (λ b. is_ascii_whitespace b ≡ false) word
bytes word h k d l =
    rw (get_or_default word k d 0 l) (elim (cases_lt (get_or word k 0) 128) [
      | inl low ↦ NoCharPasses-byte is_ascii_whitespace word k h l low
      | inr high ↦ beyond_ascii (get_or word k 0) high
    ])

white : (b : ℕ) (line : List ℕ) → is_ascii_whitespace b ≡ true → words_of (b ∷ line) ≡ words_of line
white b line h = ap (filter (λ word. ltb 0 (length word))) (slice_split-cons_yes is_ascii_whitespace b line h)

passed : (gap line : List ℕ) → AllByRecursion (λ b. is_ascii_whitespace b ≡ true) gap → words_of (gap ++ line) ≡ words_of line
passed [] line h = refl
passed (b ∷ gap) line h = white b (gap ++ line) h.0 ∙ passed gap line h.1

gap_passed : (gap line : List ℕ) → AllPass is_ascii_whitespace gap → words_of (gap ++ line) ≡ words_of line
gap_passed gap line h = passed gap line (recursion_from_All (λ b. is_ascii_whitespace b ≡ true) gap h)

some_word : (word : List ℕ) (words : List (List ℕ)) → 0 < length word → filter (λ word. ltb 0 (length word)) (word ∷ words) ≡ word ∷ filter (λ word. ltb 0 (length word)) words
some_word word words some = ap (λ b. cond b (word ∷ filter (λ word. ltb 0 (length word)) words) (filter (λ word. ltb 0 (length word)) words)) (lt-ltb 0 (length word) some)

-- a word that the line ends with
last : (word : List ℕ) → 0 < length word → All (λ b. is_ascii_whitespace b ≡ false) word → words_of word ≡ word ∷ []
last word some h = ap (filter (λ word. ltb 0 (length word))) (slice_split_none is_ascii_whitespace word h) ∙ some_word word [] some

-- a word with white space behind it
first : (word : List ℕ) (b : ℕ) (line : List ℕ) → 0 < length word → All (λ b. is_ascii_whitespace b ≡ false) word → is_ascii_whitespace b ≡ true → words_of (word ++ (b ∷ line)) ≡ word ∷ words_of line
first word b line some h w = ap (filter (λ word. ltb 0 (length word))) (slice_split_at is_ascii_whitespace word b line h w) ∙ some_word word (slice_split is_ascii_whitespace line) some

parted : (word sep rest : List ℕ) → 0 < length word → All (λ b. is_ascii_whitespace b ≡ false) word → AllPass is_ascii_whitespace sep → length sep ≤ 1 → (length sep ≡ 0 → length rest ≡ 0) → words_of (word ++ (sep ++ rest)) ≡ word ∷ words_of rest
parted word [] [] some h w one end = rw (append-nil word) (last word some h)
parted word [] (b ∷ rest) some h w one end = absurd (omega (arith, end refl))
parted word (b ∷ []) rest some h w one end = first word b rest some h (recursion_from_All (λ b. is_ascii_whitespace b ≡ true) (b ∷ []) w).0
parted word (b ∷ b' ∷ sep) rest some h w one end = absurd (omega arith)

empty : (bs : List ℕ) → length bs ≡ 0 → bs ≡ []
empty [] h = refl
empty (b ∷ bs) h = absurd (omega arith)

pub word_comes : (line : List ℕ) (word : Option (Bor (List ℕ))) (rest : List ℕ) → CutsAsciiWord line word rest (λ gap x sep. gap ++ (x ++ (sep ++ rest))) → Comes (words_of line) word (words_of rest)
word_comes line None rest h =
    (ap words_of (sym (append-nil line)) ∙ gap_passed line [] h.0, ap words_of (empty rest h.1))
word_comes line (Some word) rest h =
    let gap = h.3.0 in
    let sep = h.3.1 in
    let laid = h.3.2 in
    let behind = h.3.4 in
    ap words_of laid ∙ gap_passed gap (word.now ++ (sep ++ rest)) h.3.3
    ∙ parted word.now sep rest h.0 (bytes word.now h.1) behind.0 behind.1 behind.2
