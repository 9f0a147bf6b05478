-- The answers to the lines so far.
use Rattle.std.proofs.Common.{◌≡◌, ℕ, List, [], ◌∷◌, ◌++◌, Option, None, Some, Ok, Err, IfSome, refl, sym, ap, subst, ◌∙◌, append_assoc, append-nil}
use Rattle.std.specs.Prelude.{⊤}
use Rattle.std.specs.Io.KnownBytes.{Appends}
use Rattle.std.proofs.KnownBytes.{Appends-nil, Appends-trans}
use Rattle.std.specs.Global.{Vec}
use Rattle.console.specs.Answers.{LinesAnswered, AnswersEach}
use Rattle.console.specs.Ends.{IsOutOfMemory}
use Rattle.console.specs.Lines.{lines_in, Short, GivesLine}
use Rattle.console.specs.declared.LineError.{LineError}
use Rattle.console.specs.declared.LineError.TheVariants.{TooLong, Io}

module _ (answers : List ℕ → List ℕ → Type 0) where
  -- one line more
  answered_more : (lines : List (List ℕ)) (line text first : List ℕ) → LinesAnswered answers lines text → Short line → answers line first → LinesAnswered answers (lines ++ line ∷ []) (text ++ first)
  answered_more [] line text first done short is = (first, [], ap (λ l. l ++ first) done ∙ sym (append-nil first), short, is, refl)
  answered_more (l ∷ lines) line text first done short is =
      let (front, rest, whole, short', is', done') = done in
      (front, rest ++ first, ap (λ t. t ++ first) whole ∙ append_assoc front rest first, short', is', answered_more lines line rest first done' short is)

  -- the lines before those that are still to come are answered
  abbrev pub SoFar : Option (List ℕ) → Option (List ℕ) → Option (List ℕ) → Option (List ℕ) → Type 0
  SoFar None left held holds = ⊤
  SoFar (Some bytes) None held holds = ⊥
  SoFar (Some bytes) (Some left) held holds = (before : List (List ℕ)) × (text : List ℕ) × (lines_in bytes ≡ before ++ lines_in left) × LinesAnswered answers before text × Appends held holds text

  pub so_far_none : (bytes held : Option (List ℕ)) → SoFar bytes bytes held held
  so_far_none None held = tt
  so_far_none (Some bytes) held = ([], [], refl, refl, Appends-nil held)

  pub so_far_more : (bytes left rest held holds longer : Option (List ℕ)) (line : Vec ℕ) (text : List ℕ) → SoFar bytes left held holds → GivesLine left (Some (Ok line)) rest
      → Short line.items → answers line.items text → Appends holds longer text → SoFar bytes rest held longer
  so_far_more None left rest held holds longer line text so given short is more = tt
  so_far_more (Some bytes) None rest held holds longer line text so given short is more = absurd so
  so_far_more (Some bytes) (Some left) None held holds longer line text so given short is more = absurd given
  so_far_more (Some bytes) (Some left) (Some rest) held holds longer line text so given short is more =
      let (before, done, whole, answered, grown) = so in (
        before ++ line.items ∷ [],
        done ++ text,
        whole ∙ ap (λ l. before ++ l) given ∙ sym (append_assoc before (line.items ∷ []) (lines_in rest)),
        answered_more before line.items done text answered short is,
        Appends-trans held holds longer done text grown more,
      )

  pub so_far_all : (bytes left rest held holds : Option (List ℕ)) → SoFar bytes left held holds → GivesLine left None rest
      → IfSome bytes (λ known. AnswersEach answers (lines_in known) (Ok tt) held holds)
  so_far_all None left rest held holds so given = tt
  so_far_all (Some bytes) None rest held holds so given = absurd so
  so_far_all (Some bytes) (Some left) rest held holds so given =
      let (before, done, whole, answered, grown) = so in
      (done, subst (λ l. LinesAnswered answers l done) (sym (whole ∙ ap (λ l. before ++ l) given ∙ append-nil before)) answered, grown)

  pub so_far_long : (bytes left rest held holds : Option (List ℕ)) (error : LineError) → SoFar bytes left held holds → GivesLine left (Some (Err error)) rest
      → IfSome bytes (λ known. AnswersEach answers (lines_in known) (Err error) held holds)
  so_far_long None left rest held holds error so given = tt
  so_far_long (Some bytes) None rest held holds error so given = absurd so
  so_far_long (Some bytes) (Some left) rest held holds (Io error) so given = tt
  so_far_long (Some bytes) (Some left) rest held holds TooLong so given =
      let (before, done, whole, answered, grown) = so in
      let (line, lines, is, long) = given in
      (before, line, lines, whole ∙ ap (λ l. before ++ l) is, long, (done, answered, grown))

  pub so_far_failed : (bytes held holds : Option (List ℕ)) (error : LineError) → IsOutOfMemory error → IfSome bytes (λ known. AnswersEach answers (lines_in known) (Err error) held holds)
  so_far_failed None held holds error is = tt
  so_far_failed (Some bytes) held holds TooLong is = absurd is
  so_far_failed (Some bytes) held holds (Io error) is = tt
