-- The words of a line.
use Rattle.std.specs.Char.{is_ascii_whitespace}
use Rattle.std.specs.List.{filter, slice_split}
use Rattle.std.specs.Prelude.{ℕ, List, length, nat_lt}

-- what stands between the ASCII white space of the line: blanks, TABs, LFs, form feeds and CRs, any number of them in a row
abbrev pub words_of : List ℕ → List (List ℕ)
words_of line = filter (λ word. nat_lt 0 (length word)) (slice_split is_ascii_whitespace line)
