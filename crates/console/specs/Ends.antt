-- How a program ends.
use Rattle.std.specs.Prelude.{◌≡◌, ◌≢◌, ℕ, List, [], codes, Ok, Err, Result, IsOk, IsErrAnd}
use Rattle.std.specs.IoError.{error_kind}
use Rattle.std.specs.declared.io.Error.{Error}
use Rattle.std.specs.declared.io.ErrorKind.TheVariants.{BrokenPipe, InvalidData, OutOfMemory}
use Rattle.console.specs.declared.LineError.{LineError}
use Rattle.console.specs.declared.LineError.TheVariants.{TooLong, Io}

-- the error is that there is no memory
abbrev pub IsOutOfMemory : LineError → Type 0
IsOutOfMemory TooLong = ⊥
IsOutOfMemory (Io error) = error_kind error ≡ OutOfMemory

-- what is told of an outcome
abbrev pub told_text : Result (Unit {0}) LineError → List ℕ
told_text (Ok done) = []
told_text (Err TooLong) = codes "the input has a line of more than 65,535 bytes\n"
told_text (Err (Io error)) = []

-- well, where nobody reads the output any more too; a line that is too long is a fault of the input, and any other fault is passed on
abbrev pub EndsAs : Result (Unit {0}) LineError → Result (Unit {0}) Error → Type 0
EndsAs (Ok done) end = IsOk end
EndsAs (Err TooLong) end = IsErrAnd end (λ error. error_kind error ≡ InvalidData)
EndsAs (Err (Io error)) end = (error_kind error ≡ BrokenPipe → IsOk end) × (error_kind error ≢ BrokenPipe → end ≡ Err error)
