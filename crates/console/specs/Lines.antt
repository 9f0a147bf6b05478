-- The lines of an input, as lists of bytes.
use Rattle.std.specs.Prelude.{◌≡◌, ◌≢◌, ℕ, ◌<◌, ◌≤◌, true, false, Bool, cond, ◌==◌, List, [], ◌∷◌, ◌++◌, length, All, None, Some, Option, Ok, Err, Result, OnSome, ⊤}
use Rattle.std.specs.Global.{Vec}
use Rattle.std.specs.Io.KnownBytes.{Consumes, IsAtEnd}
use Rattle.std.specs.Io.{StopsAt, IsEmptyOrEndsWith}
use Rattle.console.specs.declared.LineError.{LineError}
use Rattle.console.specs.declared.LineError.TheVariants.{TooLong, Io}

-- a byte in front of the first of the lines
abbrev pub onto_first : ℕ → List (List ℕ) → List (List ℕ)
onto_first byte [] = (byte ∷ []) ∷ []
onto_first byte (line ∷ lines) = (byte ∷ line) ∷ lines

-- the lines of the bytes: each ends with its LF (10), which is no part of it; the last counts without one, if it has a byte
abbrev pub lines_in : List ℕ → List (List ℕ)
lines_in [] = []
lines_in (byte ∷ bytes) = cond (byte == 10) ([] ∷ lines_in bytes) (onto_first byte (lines_in bytes))

-- a line that is not too long: at most 65,535 bytes
abbrev pub Short : List ℕ → Type 0
Short line = length line < 65536

-- what is given of an input, and what is left of it, where its bytes are known: its first line; or that this is too long;
-- or, where it has no line more, nothing
abbrev pub GivesLine : Option (List ℕ) → Option (Result (Vec ℕ) LineError) → Option (List ℕ) → Type 0
GivesLine None item after = ⊤
GivesLine (Some bytes) None after = lines_in bytes ≡ []
GivesLine (Some bytes) (Some (Ok line)) None = ⊥
GivesLine (Some bytes) (Some (Ok line)) (Some rest) = lines_in bytes ≡ line.items ∷ lines_in rest
GivesLine (Some bytes) (Some (Err TooLong)) after = (line : List ℕ) × (lines : List (List ℕ)) × (lines_in bytes ≡ line ∷ lines) × (65535 < length line)
GivesLine (Some bytes) (Some (Err (Io error))) after = ⊤

-- a line that is given has no LF and is short, whatever is known of the input
abbrev pub IsLine : Option (Result (Vec ℕ) LineError) → Type 0
IsLine None = ⊤
IsLine (Some (Ok line)) = All (λ byte. byte ≢ 10) line.items × Short line.items
IsLine (Some (Err error)) = ⊤

-- what is given of an input, in place of what was read of it
abbrev pub line_item : Result (Option (Vec ℕ)) LineError → Option (Result (Vec ℕ) LineError)
line_item (Ok None) = None
line_item (Ok (Some line)) = Some (Ok line)
line_item (Err error) = Some (Err error)

-- what one look at the input puts behind a line, at most `room` bytes: a part that the line ends with, or one without LF
abbrev pub GivesPart : Option (List ℕ) → List ℕ → ℕ → Bool → List ℕ → Option (List ℕ) → Type 0
GivesPart before line room true longer after = (part : List ℕ) × (longer ≡ line ++ part) × (length part ≤ room) × Consumes before after part
    × StopsAt part 10 × IsEmptyOrEndsWith part 10 × (length part ≡ 0 → OnSome before (IsAtEnd after))
GivesPart before line room false longer after = (part : List ℕ) × (longer ≡ line ++ part) × (length part ≤ room) × Consumes before after part
    × All (λ byte. byte ≢ 10) part
