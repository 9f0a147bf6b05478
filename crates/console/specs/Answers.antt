-- What is written for the lines of an input.
use Rattle.std.specs.Prelude.{◌≡◌, ℕ, ◌<◌, List, [], ◌∷◌, ◌++◌, length, Option, Ok, Err, Result, ⊤}
use Rattle.std.specs.Io.KnownBytes.{Appends}
use Rattle.console.specs.Lines.{Short}
use Rattle.console.specs.declared.LineError.{LineError}
use Rattle.console.specs.declared.LineError.TheVariants.{TooLong, Io}

-- a text of which this is true was written: it stands behind what the writer held, where that is known
abbrev pub Writes : (held holds : Option (List ℕ)) → (List ℕ → Type 0) → Type 0
Writes held holds Is = (text : List ℕ) × Is text × Appends held holds text

-- no line is too long, and the text is an answer to each, one behind the other
abbrev pub LinesAnswered : (List ℕ → List ℕ → Type 0) → List (List ℕ) → List ℕ → Type 0
LinesAnswered answers [] text = text ≡ []
LinesAnswered answers (line ∷ lines) text = (first : List ℕ) × (rest : List ℕ) × (text ≡ first ++ rest) × Short line × answers line first × LinesAnswered answers lines rest

-- what was written then: the answers to all lines, or, where one is too long, the answers to those before it;
-- what was written where reading or writing failed, or there is no memory, is not said
abbrev pub AnswersEach : (List ℕ → List ℕ → Type 0) → List (List ℕ) → Result (Unit {0}) LineError → Option (List ℕ) → Option (List ℕ) → Type 0
AnswersEach answers lines (Ok done) held holds = Writes held holds (LinesAnswered answers lines)
AnswersEach answers lines (Err TooLong) held holds = (before : List (List ℕ)) × (long : List ℕ) × (rest : List (List ℕ)) × (lines ≡ before ++ long ∷ rest) × (65535 < length long)
    × Writes held holds (LinesAnswered answers before)
AnswersEach answers lines (Err (Io error)) held holds = ⊤
