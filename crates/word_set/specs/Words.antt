-- The words of a set, one after another, lowest first.
use Rattle.std.specs.Prelude.{◌≡◌, ℕ, ◌<◌, true, false, not, ◌&&◌, ◌==◌, MatchOption}
use Rattle.std.specs.declared.option.Option.{Option}
use Rattle.word_set.specs.Bits.{in_set}

-- w is the lowest word of the set s, and t has the others
pub record Takes (s w t : ℕ) : Type 0 where
  pub near : w < 64
  pub inside : in_set s w ≡ true
  pub lowest : (v : ℕ) → v < w → in_set s v ≡ false
  pub others : (v : ℕ) → in_set t v ≡ (in_set s v && not (v == w))

-- the next word of s, after which t is left: none where no word is in s
abbrev pub NextWord : ℕ → Option ℕ → ℕ → Type 0
NextWord s r t = MatchOption r (((v : ℕ) → in_set s v ≡ false) × (t ≡ s)) (λ w. Takes s w t)
