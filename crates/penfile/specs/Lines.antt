-- The lines that show a file. 10 is the line's end.
use Rattle.std.specs.Prelude.{ℕ, ◌+◌, codes, List, [], ◌∷◌, ◌++◌, decimal, length, Some, None, Option, slice_index}
use Rattle.std.specs.List.{flat_map, range_with_len}
use Rattle.file.specs.Kinds.{kind_text}
use Rattle.file.specs.Records.{record_place}
use Rattle.file.specs.declared.fault.FileKind.{FileKind}
use Rattle.penfile.specs.declared.Standing.{Standing}
use Rattle.sheet.specs.Arcs.{Arcs}
use Rattle.weight.specs.Text.{text}
use Rattle.weight.specs.Worth.{Worth}

abbrev pub kind_line : FileKind → List ℕ
kind_line kind = codes "kind: " ++ (kind_text kind ++ (10 ∷ []))

abbrev pub words_line : ℕ → List ℕ
words_line words = codes "words: " ++ (decimal words ++ (10 ∷ []))

-- the arc that record k names
abbrev pub record_line : ℕ → List ℕ → ℕ → List ℕ
record_line width file k =
    codes "record " ++ (decimal k ++ (codes ": arc " ++ (decimal (slice_index file (record_place width k)) ++ (codes " to " ++ (decimal (slice_index file (record_place width k + 1)) ++ (10 ∷ []))))))

abbrev pub record_lines : ℕ → List ℕ → ℕ → List ℕ
record_lines width file count = flat_map (record_line width file) (range_with_len 0 count)

-- an arc that stands, and its weight
abbrev pub arc_line : {K : Type 0} → (K → Worth) → Standing K → List ℕ
arc_line worth arc = codes "arc " ++ (decimal arc.head ++ (codes " to " ++ (decimal arc.dependent ++ (codes " stands: " ++ (text (worth arc.weight) ++ (10 ∷ []))))))

abbrev pub count_line : ℕ → List ℕ
count_line count = codes "arcs: " ++ (decimal count ++ (10 ∷ []))

-- ---- the arcs that stand on a line of n words, by their dependents, then by their heads

abbrev pub standing_at : {K : Type 0} → ℕ → ℕ → Option K → List (Standing K)
standing_at h d None = []
standing_at h d (Some k) = record { head = h; dependent = d; weight = k } ∷ []

abbrev pub standing_into : {K : Type 0} → Arcs K → ℕ → ℕ → List (Standing K)
standing_into arcs d heads = flat_map (λ h. standing_at h d (arcs h d)) (range_with_len 0 heads)

abbrev pub all_standing : {K : Type 0} → ℕ → Arcs K → ℕ → List (Standing K)
all_standing n arcs dependents = flat_map (λ d. standing_into arcs d (n + 1)) (range_with_len 1 dependents)

-- their lines, and how many they are
abbrev pub arc_lines : {K : Type 0} → (K → Worth) → List (Standing K) → List ℕ
arc_lines worth arcs = flat_map (arc_line worth) arcs ++ count_line (length arcs)
