-- What a script that is read line by line has come to, and what a line does to it.
use Rattle.pentrace.specs.Orders.{Reads}
use Rattle.console.specs.Answers.{Writes}
use Rattle.pentrace.specs.Script.{PartText}
use Rattle.pentrace.specs.Texts.{Line, too_many_text}
use Rattle.pentrace.specs.declared.Order.TheVariants.{Open, Call as Asks}
use Rattle.pentrace.specs.declared.Order.{Order}
use Rattle.pentrace.specs.declared.script.Script.{Script}
use Rattle.std.specs.Prelude.{◌≡◌, ℕ, ◌+◌, ◌<◌, ◌^◌, Bool, true, false, List, [], ◌∷◌, ◌++◌, length, Some, None, Ok, Err, Option}

-- the part with one of its lines more; or, where it has 65,536, the text of the part and a line that tells so
abbrev pub LineKept : (before after : Script) → Line → (held holds : Option (List ℕ)) → Bool → Type 0
LineKept before after line held holds true = (after.words ≡ before.words) × (after.lines.items ≡ before.lines.items ++ (line ∷ [])) × (holds ≡ held)
LineKept before after line held holds false =
    (length before.lines.items ≡ 65536) × Writes held holds (λ text. (own : List ℕ) × PartText before.words before.lines.items own × (text ≡ own ++ too_many_text after.read))

-- an `open` begins a part, and the text of the one before it is written; any other line comes to the part
abbrev pub LineDone : Option Order → (before after : Script) → (held holds : Option (List ℕ)) → Bool → Type 0
LineDone (Some (Open words)) before after held holds more =
    (more ≡ true) × (after.words ≡ Some words) × (after.lines.items ≡ []) × Writes held holds (PartText before.words before.lines.items)
LineDone (Some (Asks call)) before after held holds more = LineKept before after (Ok call) held holds more
LineDone None before after held holds more = LineKept before after (Err after.read) held holds more

-- the line is counted, and what it asks for is done; whether the script goes on
pub record LineRead (before after : Script) (line : List ℕ) (held holds : Option (List ℕ)) (more : Bool) : Type 0 where
  pub counted : before.read + 1 < 2 ^ 64 → after.read ≡ before.read + 1
  pub order : Option Order
  pub reads : Reads line order
  pub taken : LineDone order before after held holds more
