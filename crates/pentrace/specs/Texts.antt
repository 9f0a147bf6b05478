-- The texts of calls and answers.
use Rattle.std.specs.Prelude.{ℕ, List, [], ◌∷◌, ◌++◌, take, codes, decimal, Some, None, Ok, Err, Option, Result}
use Rattle.run.specs.declared.Turn.{Turn}
use Rattle.refusal.specs.Refusals.{number_of}
use Rattle.refusal.specs.declared.Refusal.TheVariants.{WordCount, ShortMemory, NoDependent, HeadAbove, SelfLoop, NoEntry, AbsentArc, NoTree, NoMore, Fifty, ShortSpace, NotATree}
use Rattle.refusal.specs.declared.Refusal.{Refusal}
use Rattle.ranking.specs.declared.Taken.{Taken}
use Rattle.run.specs.declared.Answer.TheVariants.{Done, Handed, Refused, Misplaced}
use Rattle.run.specs.declared.Answer.{Answer}
use Rattle.run.specs.declared.Call.TheVariants.{Put, Strike, Begin, Take, End}
use Rattle.run.specs.declared.Call.{Call}
use Rattle.weight.specs.Numbers.{Score, score_worth}
use Rattle.weight.specs.Text.{text}

-- how the ranking ends, where the refusal tells it
abbrev pub ending_text : Refusal → List ℕ
ending_text NoTree = codes ", no tree"
ending_text NoMore = codes ", no more"
ending_text Fifty = codes ", fifty"
ending_text WordCount = []
ending_text ShortMemory = []
ending_text NoDependent = []
ending_text HeadAbove = []
ending_text SelfLoop = []
ending_text NoEntry = []
ending_text AbsentArc = []
ending_text ShortSpace = []
ending_text NotATree = []

abbrev pub refusal_text : Refusal → List ℕ
refusal_text why = codes "refused " ++ (decimal (number_of why) ++ ending_text why)

-- whether a ranking stands where the call is misplaced
abbrev pub misplaced_text : Call Score → List ℕ
misplaced_text (Put head dependent weight) = codes "misplaced, a ranking stands"
misplaced_text (Strike head dependent) = codes "misplaced, a ranking stands"
misplaced_text Begin = codes "misplaced, a ranking stands"
misplaced_text (Take room) = codes "misplaced, no ranking stands"
misplaced_text End = codes "misplaced, no ranking stands"

-- the weight as it is shown
abbrev pub weight_text : Score → List ℕ
weight_text weight = text (score_worth weight)

-- the call as a script has it
abbrev pub call_text : Call Score → List ℕ
call_text (Put head dependent weight) = codes "put " ++ (decimal head ++ (codes " " ++ (decimal dependent ++ (codes " " ++ weight_text weight))))
call_text (Strike head dependent) = codes "strike " ++ (decimal head ++ (codes " " ++ decimal dependent))
call_text Begin = codes "begin"
call_text (Take room) = codes "take " ++ decimal room
call_text End = codes "end"

-- the heads, a blank before each
abbrev pub handed_heads_text : List ℕ → List ℕ
handed_heads_text [] = []
handed_heads_text (head ∷ heads) = 32 ∷ (decimal head ++ handed_heads_text heads)

-- a tree that was handed out
abbrev pub handed_text : ℕ → List ℕ → Taken Score → List ℕ
handed_text words heads taken = codes "tree " ++ (decimal taken.count ++ (codes ", weight " ++ (weight_text taken.weight ++ (codes ", heads" ++ handed_heads_text (take words heads)))))

-- what the call answered on a sheet of so many words
abbrev pub answer_text : ℕ → Call Score → Answer Score → List ℕ
answer_text words call Done = codes "done"
answer_text words call (Handed heads taken) = handed_text words heads taken
answer_text words call (Refused why) = refusal_text why
answer_text words call Misplaced = misplaced_text call

-- a line of a script after an `open`: a call, or the number of a line that is no call
abbrev pub Line : Type 0
Line = Result (Call Score) ℕ

-- a call with its answer; a call without a turn had no sheet
abbrev pub turn_text : ℕ → Call Score → Option (Turn Score) → List ℕ
turn_text words call None = call_text call ++ codes ": no sheet is open\n"
turn_text words call (Some turn) = call_text call ++ (codes ": " ++ (answer_text words turn.call turn.answer ++ codes "\n"))

abbrev pub no_call_text : ℕ → List ℕ
no_call_text number = codes "line " ++ (decimal number ++ codes ": no call\n")

-- the lines of a part, the calls among them with the turns in their order
abbrev pub lines_text : ℕ → List Line → List (Turn Score) → List ℕ
lines_text words [] turns = []
lines_text words (Err number ∷ lines) turns = no_call_text number ++ lines_text words lines turns
lines_text words (Ok call ∷ lines) [] = turn_text words call None ++ lines_text words lines []
lines_text words (Ok call ∷ lines) (turn ∷ turns) = turn_text words call (Some turn) ++ lines_text words lines turns

-- an `open` with its answer
abbrev pub open_text : ℕ → List ℕ → List ℕ
open_text words answer = codes "open " ++ (decimal words ++ (codes ": " ++ (answer ++ codes "\n")))

-- the first line beyond those that may stand behind one `open`
abbrev pub too_many_text : ℕ → List ℕ
too_many_text number = codes "line " ++ (decimal number ++ codes ": too many lines for one sheet\n")
