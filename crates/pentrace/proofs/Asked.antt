-- A line asks for one order
use Rattle.std.proofs.Common.{◌≡◌, refl, ℕ, Bool, true, false, cond, eqb, List, [], ◌∷◌, get_or, Option, Some, None, sym, ap, ◌∙◌}
use Rattle.std.proofs.lemmas.Bool.{false≢true}
use Rattle.std.proofs.lemmas.Str.{IsUtf8-from_is_utf8, is_utf8-from_IsUtf8}
use Rattle.std.specs.Str.{IsUtf8, is_utf8}
use Rattle.std.specs.Str.Parse.{without_leading_plus, signed_digits_value, digits_value}
use Rattle.pentrace.specs.Orders.{Numbers, Readable, ReadableScore, Scores, Says, SaysNone, Said, WordsSay, Reads}
use Rattle.pentrace.specs.Words.{words_of}
use Rattle.pentrace.specs.declared.Order.TheVariants.{Open, Call}
use Rattle.pentrace.specs.declared.Order.{Order}
use Rattle.run.specs.declared.Call.TheVariants.{Put, Strike, Begin, Take, End}
use Rattle.weight.specs.Numbers.{Score, single}

-- the number that the word is, and the score; no word counts as an empty one
abbrev number : Option (List ℕ) → ℕ
number None = digits_value 10 []
number (Some word) = digits_value 10 (without_leading_plus word)

abbrev score : Option (List ℕ) → Score
score None = single (signed_digits_value 10 [])
score (Some word) = single (signed_digits_value 10 word)

-- the space that a take is given
abbrev room : Option (List ℕ) → ℕ
room None = 40
room (Some word) = number (Some word)

is_number : (word : Option (List ℕ)) (n : ℕ) → Numbers word n → n ≡ number word
is_number None n h = absurd h
is_number (Some word) n h = h.1

is_score : (word : Option (List ℕ)) (x : Score) → Scores word x → x ≡ score word
is_score None x h = absurd h
is_score (Some word) x h =
    let e : x.value ≡ signed_digits_value 10 word = cc in
    ap single e

readable : (word : Option (List ℕ)) (n : ℕ) → Numbers word n → Readable word
readable None n h = absurd h
readable (Some word) n h = h.0

readable_score : (word : Option (List ℕ)) (x : Score) → Scores word x → ReadableScore word
readable_score None x h = absurd h
readable_score (Some word) x h = h.0

-- the order of a name that begins with this letter: no two names begin with the same
abbrev by_letter : ℕ → Option (List ℕ) → Option (List ℕ) → Option (List ℕ) → Order
by_letter letter first second third =
    cond (eqb letter 111) (Open (number first)) (
    cond (eqb letter 112) (Call (Put (number first) (number second) (score third))) (
    cond (eqb letter 115) (Call (Strike (number first) (number second))) (
    cond (eqb letter 98) (Call Begin) (
    cond (eqb letter 116) (Call (Take (room first))) (Call End)))))

is_order : (name : List ℕ) (first second third : Option (List ℕ)) (order : Order) → Says name first second third order → order ≡ by_letter (get_or name 0 0) first second third
is_order name first second third (Open words) h = rw h.0 (ap Open (is_number first words h.1))
is_order name first second third (Call (Put head dependent x)) h =
    rw h.0 (ap (λ n. Call (Put n dependent x)) (is_number first head h.1) ∙ ap (λ n. Call (Put (number first) n x)) (is_number second dependent h.2) ∙ ap (λ s. Call (Put (number first) (number second) s)) (is_score third x h.3))
is_order name first second third (Call (Strike head dependent)) h =
    rw h.0 (ap (λ n. Call (Strike n dependent)) (is_number first head h.1) ∙ ap (λ n. Call (Strike (number first) n)) (is_number second dependent h.2))
is_order name first second third (Call Begin) h = rw h.0 refl
is_order name None second third (Call (Take space)) h = rw h.0 (ap (λ n. Call (Take n)) h.1)
is_order name (Some word) second third (Call (Take space)) h = rw h.0 (ap (λ n. Call (Take n)) (is_number (Some word) space h.1))
is_order name first second third (Call End) h = rw h.0 refl

-- what says an order does not say none
not_none : (name : List ℕ) (first second third : Option (List ℕ)) (order : Order) → Says name first second third order → SaysNone name first second third → ⊥
not_none name first second third (Open words) h none = none.no_open h.0 (readable first words h.1) h.2 h.3
not_none name first second third (Call (Put head dependent x)) h none = none.no_put h.0 (readable first head h.1) (readable second dependent h.2) (readable_score third x h.3)
not_none name first second third (Call (Strike head dependent)) h none = none.no_strike h.0 (readable first head h.1) (readable second dependent h.2) h.3
not_none name first second third (Call Begin) h none = none.no_begin h.0 h.1 h.2 h.3
not_none name None second third (Call (Take space)) h none = none.no_take h.0 tt h.2 h.3
not_none name (Some word) second third (Call (Take space)) h none = none.no_take_into h.0 h.1.0 h.2 h.3
not_none name first second third (Call End) h none = none.no_end h.0 h.1 h.2 h.3

one_said : (name : List ℕ) (first second third : Option (List ℕ)) (a b : Option Order) → Said name first second third a → Said name first second third b → a ≡ b
one_said name first second third None None h k = refl
one_said name first second third None (Some b) h k = absurd (not_none name first second third b k h)
one_said name first second third (Some a) None h k = absurd (not_none name first second third a h k)
one_said name first second third (Some a) (Some b) h k = ap Some (is_order name first second third a h ∙ sym (is_order name first second third b k))

one_of_words : (words : List (List ℕ)) (a b : Option Order) → WordsSay words a → WordsSay words b → a ≡ b
one_of_words [] a b h k = h ∙ sym k
one_of_words (name ∷ []) a b h k = one_said name None None None a b h k
one_of_words (name ∷ first ∷ []) a b h k = one_said name (Some first) None None a b h k
one_of_words (name ∷ first ∷ second ∷ []) a b h k = one_said name (Some first) (Some second) None a b h k
one_of_words (name ∷ first ∷ second ∷ third ∷ []) a b h k = one_said name (Some first) (Some second) (Some third) a b h k
one_of_words (name ∷ first ∷ second ∷ third ∷ fourth ∷ words) a b h k = h ∙ sym k

pub one_order : (line : List ℕ) (a b : Option Order) → Reads line a → Reads line b → a ≡ b
one_order line a b h k = by (is_utf8 line) refl
  where
    by : (test : Bool) → is_utf8 line ≡ test → a ≡ b
    by true is = let text = IsUtf8-from_is_utf8 line is in one_of_words (words_of line) a b (h.text text) (k.text text)
    by false is =
        let no_text : IsUtf8 line → ⊥ = λ text. false≢true (sym is ∙ is_utf8-from_IsUtf8 line text) in
        h.no_text no_text ∙ sym (k.no_text no_text)
