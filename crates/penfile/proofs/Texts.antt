-- Texts written one behind another.
use Rattle.std.proofs.Common.{◌≡◌, ℕ, List, ◌++◌, Ok, Err, Option, Result, OnOk, sym, subst, slice_index}
use Rattle.file.specs.Formats.{Format}
use Rattle.file.specs.Frame.{kind_of}
use Rattle.file.specs.Reading.{record_count}
use Rattle.file.specs.declared.fault.FileFault.{FileFault}
use Rattle.file.specs.declared.fault.FileKind.{FileKind}
use Rattle.filing.specs.Outcomes.{file_says}
use Rattle.penfile.specs.Files.{said_text, kind_shown, shown_as, shown_by, file_shown}
use Rattle.penfile.specs.Lines.{all_standing, arc_lines, kind_line, record_lines, words_line}
use Rattle.sheet.specs.Arcs.{Arcs}
use Rattle.std.proofs.KnownBytes.{Appends-trans}
use Rattle.std.specs.Io.KnownBytes.{Appends}
use Rattle.weight.specs.Worth.{Worth}

-- a text, and then the rest where it is written
pub then_rest : {T E : Type 0} (r : Result T E) (a b c : Option (List ℕ)) (first rest : List ℕ) → Appends a b first → OnOk r (Appends b c rest) → OnOk r (Appends a c (first ++ rest))
then_rest (Ok x) a b c first rest p q = Appends-trans a b c first rest p q
then_rest (Err e) a b c first rest p q = tt

pub all_said : {K T E : Type 0} (f : Format K) (worth : K → Worth) (file : List ℕ) (n : ℕ) (arcs : Arcs K) (r : Result T E) (a b c : Option (List ℕ)) → file_says f file ≡ Ok (n, arcs)
    → Appends a b (record_lines f.width file (record_count f.width file)) → OnOk r (Appends b c (arc_lines worth (all_standing n arcs n))) → OnOk r (Appends a c (kind_shown f worth file))
all_said {K} f worth file n arcs r a b c says p q =
    subst (λ (said : Result (ℕ × Arcs K) FileFault). OnOk r (Appends a c (said_text worth f.width file said))) (sym says) (then_rest r a b c _ _ p q)

pub all_shown : {T E : Type 0} (file : List ℕ) (kind : FileKind) (r : Result T E) (a b c d : Option (List ℕ)) → kind_of file ≡ Ok kind
    → Appends a b (kind_line kind) → Appends b c (words_line (slice_index file 4)) → OnOk r (Appends c d (shown_as file kind)) → OnOk r (Appends a d (file_shown file))
all_shown file kind r a b c d is p q s =
    subst (λ (x : Result FileKind FileFault). OnOk r (Appends a d (shown_by file x))) (sym is) (then_rest r a b d _ _ p (then_rest r b c d _ _ q s))
