-- The text that a script is answered with: part by part, from `open` to `open`.
use Rattle.console.specs.Answers.{Writes}
use Rattle.console.specs.Lines.{Short}
use Rattle.console.specs.declared.LineError.{LineError}
use Rattle.console.specs.declared.LineError.TheVariants.{TooLong, Io}
use Rattle.pentrace.specs.Orders.{Reads}
use Rattle.pentrace.specs.Texts.{Line, lines_text, open_text, refusal_text, too_many_text}
use Rattle.pentrace.specs.declared.ScriptEnd.TheVariants.{Whole, TooMany}
use Rattle.pentrace.specs.declared.ScriptEnd.{ScriptEnd}
use Rattle.pentrace.specs.declared.Order.TheVariants.{Open, Call as Asks}
use Rattle.pentrace.specs.declared.Order.{Order}
use Rattle.refusal.specs.declared.Refusal.TheVariants.{WordCount}
use Rattle.refusal.specs.declared.Refusal.{Refusal}
use Rattle.run.specs.Law.{Keeps}
use Rattle.run.specs.declared.Call.{Call}
use Rattle.run.specs.declared.Turn.{Turn}
use Rattle.std.specs.Global.{Vec}
use Rattle.std.specs.List.{AllZip, filter_map}
use Rattle.std.specs.Prelude.{◌≡◌, ℕ, ◌+◌, ◌<◌, ◌≤◌, Bool, true, false, ◌&&◌, nat_lt, neg_ℤ, pos, List, [], ◌∷◌, ◌++◌, length, map, reverse, take, codes, All, Some, None, Ok, Err, Option, Result, ⊤}
use Rattle.std.specs.Result.{result_ok}
use Rattle.weight.specs.Numbers.{Score, score_worth}
use Rattle.weight.specs.Range.{Range, limit}

-- the calls among the lines, in their order; a line that is no call is its number
abbrev pub calls_in : List Line → List (Call Score)
calls_in lines = filter_map result_ok lines

-- ---- a part

-- the scores that are entries
abbrev pub score_ranges : List Range
score_ranges = record { least = neg_ℤ (pos limit); greatest = pos limit } ∷ []

-- the turns of a run of these calls on a fresh sheet: the calls in their order, each with the answer that the law settles
pub record RunOf (words : ℕ) (calls : List (Call Score)) (turns : List (Turn Score)) : Type 0 where
  pub noted : map (λ t. t.call) turns ≡ calls
  pub keeps : Keeps score_worth score_ranges words (reverse turns)

-- a sheet opens for 1 to 40 words
abbrev pub opens : ℕ → Bool
opens words = nat_lt 0 words && nat_lt words 41

-- what opening a sheet and making the calls among the lines gives: the turns, or why the sheet is refused
abbrev pub TurnsOf : ℕ → List Line → Result (Vec (Turn Score)) Refusal → Type 0
TurnsOf words lines (Ok turns) = (opens words ≡ true) × RunOf words (calls_in lines) turns.items
TurnsOf words lines (Err why) = (opens words ≡ false) × (why ≡ WordCount)

-- the text of the lines behind an `open`: their calls with the turns of a run, or without where the `open` was refused
abbrev pub SheetText : Bool → ℕ → List Line → List ℕ → Type 0
SheetText true words lines text = (turns : List (Turn Score)) × RunOf words (calls_in lines) turns × (text ≡ open_text words (codes "done") ++ lines_text words lines turns)
SheetText false words lines text = text ≡ open_text words (refusal_text WordCount) ++ lines_text words lines []

-- the same for the lines before the first `open`, which have no sheet
abbrev pub PartText : Option ℕ → List Line → List ℕ → Type 0
PartText None lines text = text ≡ lines_text 0 lines []
PartText (Some words) lines text = SheetText (opens words) words lines text

-- ---- the parts of a script, by what each of its lines asks for

-- the words of the `open`, none before the first; the number of the line behind it; and the lines up to the next `open`
pub record Piece : Type 0 where
  pub words : Option ℕ
  pub first : ℕ
  pub lines : List Line

-- the lines up to the next `open`; the first of them is line n of the script
abbrev pub front : ℕ → List (Option Order) → List Line
front n [] = []
front n (Some (Open words) ∷ orders) = []
front n (Some (Asks call) ∷ orders) = Ok call ∷ front (n + 1) orders
front n (None ∷ orders) = Err n ∷ front (n + 1) orders

-- a part begins at each `open`
abbrev pub opened_parts : ℕ → List (Option Order) → List Piece
opened_parts n [] = []
opened_parts n (Some (Open words) ∷ orders) = record { words = Some words; first = n + 1; lines = front (n + 1) orders } ∷ opened_parts (n + 1) orders
opened_parts n (Some (Asks call) ∷ orders) = opened_parts (n + 1) orders
opened_parts n (None ∷ orders) = opened_parts (n + 1) orders

abbrev pub parts : List (Option Order) → List Piece
parts orders = record { words = None; first = 1; lines = front 1 orders } ∷ opened_parts 1 orders

-- ---- the script

-- one part after the other; a part of more than 65,536 lines is answered as far as those, and ends the script
abbrev pub PartsText : List Piece → ScriptEnd → List ℕ → Type 0
PartsText [] end text = (end ≡ Whole) × (text ≡ [])
PartsText (part ∷ parts) end text =
    (length part.lines ≤ 65536 → (own rest : List ℕ) × PartText part.words part.lines own × PartsText parts end rest × (text ≡ own ++ rest))
    × (65536 < length part.lines → (own : List ℕ) × PartText part.words (take 65536 part.lines) own × (text ≡ own ++ too_many_text (part.first + 65536)) × (end ≡ TooMany))

-- how the script of these lines ends, and the text that answers it; what stands behind the first line too many is not read
abbrev pub ScriptText : List (List ℕ) → ScriptEnd → List ℕ → Type 0
ScriptText lines end text =
    (read unread : List (List ℕ)) × (lines ≡ read ++ unread) × (end ≡ Whole → unread ≡ []) × All Short read
    × ((orders : List (Option Order)) × AllZip Reads read orders × PartsText (parts orders) end text)

-- the text that answers these lines where the next is too long: each was read, and the parts that ended among them are answered;
-- the last part waits for more lines, and has no answer
abbrev pub EndedText : List (List ℕ) → List ℕ → Type 0
EndedText read text = All Short read
    × ((orders : List (Option Order)) × AllZip Reads read orders
    × ((ended : List Piece) × (last : Piece) × (parts orders ≡ ended ++ last ∷ []) × (length last.lines ≤ 65536) × PartsText ended Whole text))

-- what was written for the lines of a script: their text, or, where one is too long, the text of the parts that ended before it;
-- what was written where reading or writing failed, or there is no memory, is not said
abbrev pub ScriptAnswered : List (List ℕ) → Result ScriptEnd LineError → (held holds : Option (List ℕ)) → Type 0
ScriptAnswered lines (Ok end) held holds = Writes held holds (ScriptText lines end)
ScriptAnswered lines (Err TooLong) held holds = (before : List (List ℕ)) × (long : List ℕ) × (rest : List (List ℕ)) × (lines ≡ before ++ long ∷ rest) × (65535 < length long)
    × Writes held holds (EndedText before)
ScriptAnswered lines (Err (Io error)) held holds = ⊤

-- ---- what is to show
-- a script settles how it ends and its text, to the byte
abbrev pub OneText : Type 0
OneText = (lines : List (List ℕ)) (end end' : ScriptEnd) (text text' : List ℕ) → ScriptText lines end text → ScriptText lines end' text' → (end ≡ end') × (text ≡ text')
