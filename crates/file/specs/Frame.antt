-- The frame of a file: version, length, kind and number of words. A byte that is missing counts as 0.
use Rattle.std.specs.Prelude.{◌≡◌, ℕ, ◌+◌, ◌*◌, Bool, cond, not, ◌&&◌, List, [], ◌∷◌, length, Ok, Err, Result, ◌==◌, nat_le, slice_index}
use Rattle.file.specs.Kinds.{kind_number, kinds}
use Rattle.file.specs.declared.fault.FileFault.TheVariants.{Version, Length, Kind}
use Rattle.file.specs.declared.fault.FileFault.{FileFault}
use Rattle.file.specs.declared.fault.FileKind.{FileKind}

-- the number in bytes 1 and 2, big-endian
abbrev pub told_length : List ℕ → ℕ
told_length file = slice_index file 1 * 256 + slice_index file 2

-- bytes 1 and 2 tell how many bytes follow them, and that is 2 to 11,202
abbrev pub length_told : List ℕ → Bool
length_told file = nat_le 2 (told_length file) && (nat_le (told_length file) 11202 && told_length file + 3 == length file)

-- the first of these kinds that has the number
abbrev pub kind_among : List FileKind → ℕ → Result FileKind FileFault
kind_among [] number = Err Kind
kind_among (kind ∷ rest) number = cond (number == kind_number kind) (Ok kind) (kind_among rest number)

abbrev pub kind_numbered : ℕ → Result FileKind FileFault
kind_numbered number = kind_among kinds number

-- a number is told to be a kind exactly when it is that kind's
pub record KindsTold : Type 0 where
  pub its_own : (kind : FileKind) → kind_numbered (kind_number kind) ≡ Ok kind
  pub no_other : (number : ℕ) (kind : FileKind) → kind_numbered number ≡ Ok kind → number ≡ kind_number kind

-- the kind of a file, or the first fault of version, length and kind
abbrev pub kind_of : List ℕ → Result FileKind FileFault
kind_of file =
    cond (not (slice_index file 0 == 1)) (Err Version)
    (cond (not (length_told file)) (Err Length)
    (kind_numbered (slice_index file 3)))
