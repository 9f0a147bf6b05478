-- What the words of a line ask for.
use Rattle.std.specs.Prelude.{◌≡◌, ℕ, ◌^◌, ◌<◌, List, [], ◌∷◌, Some, None, codes, Option, FitsSigned}
use Rattle.pentrace.specs.declared.Order.TheVariants.{Open, Call}
use Rattle.pentrace.specs.declared.Order.{Order}
use Rattle.run.specs.declared.Call.TheVariants.{Put, Strike, Begin, Take, End}
use Rattle.std.specs.Str.Parse.{without_leading_plus, without_leading_sign, IsNumeral, signed_digits_value, digits_value}
use Rattle.weight.specs.Numbers.{Score, score_worth}
use Rattle.std.specs.Borrow.{Bor}
use Rattle.std.specs.Int.{w64}
use Rattle.std.specs.Str.{IsUtf8}
use Rattle.pentrace.specs.Words.{words_of}

-- the word that is lent, if one is
abbrev pub held : {A : Type 0} → Option (Bor A) → Option A
held None = None
held (Some lent) = Some lent.now

-- the word is a number that fits
abbrev pub Readable : Option (List ℕ) → Type 0
Readable None = ⊥
Readable (Some word) = IsNumeral 10 (without_leading_plus word) × (digits_value 10 (without_leading_plus word) < 2 ^ 64)

abbrev pub ReadableScore : Option (List ℕ) → Type 0
ReadableScore None = ⊥
ReadableScore (Some word) = IsNumeral 10 (without_leading_sign word) × FitsSigned w64 (signed_digits_value 10 word)

-- the word is the number in decimal
abbrev pub Numbers : Option (List ℕ) → ℕ → Type 0
Numbers None n = ⊥
Numbers (Some word) n = Readable (Some word) × (n ≡ digits_value 10 (without_leading_plus word))

-- the word is the score in decimal
abbrev pub Scores : Option (List ℕ) → Score → Type 0
Scores None score = ⊥
Scores (Some word) score = ReadableScore (Some word) × (score_worth score ≡ signed_digits_value 10 word ∷ [])

-- no word stands there
abbrev pub Nothing : Option (List ℕ) → Type 0
Nothing None = Unit {0}
Nothing (Some word) = ⊥

-- the order is what the name and the words behind it say
abbrev pub Says : List ℕ → Option (List ℕ) → Option (List ℕ) → Option (List ℕ) → Order → Type 0
Says name first second third (Open words) = (name ≡ codes "open") × Numbers first words × Nothing second × Nothing third
Says name first second third (Call (Put head dependent score)) = (name ≡ codes "put") × Numbers first head × Numbers second dependent × Scores third score
Says name first second third (Call (Strike head dependent)) = (name ≡ codes "strike") × Numbers first head × Numbers second dependent × Nothing third
Says name first second third (Call Begin) = (name ≡ codes "begin") × Nothing first × Nothing second × Nothing third
Says name None second third (Call (Take room)) = (name ≡ codes "take") × (room ≡ 40) × Nothing second × Nothing third
Says name (Some word) second third (Call (Take room)) = (name ≡ codes "take") × Numbers (Some word) room × Nothing second × Nothing third
Says name first second third (Call End) = (name ≡ codes "end") × Nothing first × Nothing second × Nothing third

-- the name and the words behind it are no order
pub record SaysNone (name : List ℕ) (first second third : Option (List ℕ)) : Type 0 where
  pub no_open : name ≡ codes "open" → Readable first → Nothing second → Nothing third → ⊥
  pub no_put : name ≡ codes "put" → Readable first → Readable second → ReadableScore third → ⊥
  pub no_strike : name ≡ codes "strike" → Readable first → Readable second → Nothing third → ⊥
  pub no_begin : name ≡ codes "begin" → Nothing first → Nothing second → Nothing third → ⊥
  pub no_take : name ≡ codes "take" → Nothing first → Nothing second → Nothing third → ⊥
  pub no_take_into : name ≡ codes "take" → Readable first → Nothing second → Nothing third → ⊥
  pub no_end : name ≡ codes "end" → Nothing first → Nothing second → Nothing third → ⊥

-- the order is what the words say, or they say none
abbrev pub Said : List ℕ → Option (List ℕ) → Option (List ℕ) → Option (List ℕ) → Option Order → Type 0
Said name first second third None = SaysNone name first second third
Said name first second third (Some order) = Says name first second third order

-- what the words of a line say: a name and up to three words behind it; no words, and more, are no order
abbrev pub WordsSay : List (List ℕ) → Option Order → Type 0
WordsSay [] order = order ≡ None
WordsSay (name ∷ []) order = Said name None None None order
WordsSay (name ∷ first ∷ []) order = Said name (Some first) None None order
WordsSay (name ∷ first ∷ second ∷ []) order = Said name (Some first) (Some second) None order
WordsSay (name ∷ first ∷ second ∷ third ∷ []) order = Said name (Some first) (Some second) (Some third) order
WordsSay (name ∷ first ∷ second ∷ third ∷ fourth ∷ words) order = order ≡ None

-- what a line asks for; bytes that are no UTF-8 are no order
pub record Reads (line : List ℕ) (order : Option Order) : Type 0 where
  pub text : IsUtf8 line → WordsSay (words_of line) order
  pub no_text : ¬ (IsUtf8 line) → order ≡ None
