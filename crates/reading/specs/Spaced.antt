-- Which numbers a line spells: their text in decimal with one blank between.
use Rattle.std.specs.Prelude.{◌≡◌, ℕ, ◌<◌, ◌≤◌, List, length, All}
use Rattle.text.specs.Spaced.{spaced}

-- the line is the text of these bytes, at least one
pub record Spells (line ns : List ℕ) : Type 0 where
  pub bytes : All (λ n. n < 256) ns
  pub some : 1 ≤ length ns
  pub text : line ≡ spaced ns

-- the line is the text of no list of bytes
abbrev pub SpellsNone : List ℕ → Type 0
SpellsNone line = (ns : List ℕ) → Spells line ns → ⊥

-- a line spells no more than one list of bytes
abbrev pub SpelledOnce : Type 0
SpelledOnce = (line ns ms : List ℕ) → Spells line ns → Spells line ms → ns ≡ ms
