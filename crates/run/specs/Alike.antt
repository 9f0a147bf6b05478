-- Two runs side by side. The calls, with the worths of their weights, settle the answers.
use Rattle.std.specs.Prelude.{◌≡◌, ℕ, ◌+◌, Bool, true, List, [], ◌∷◌, ◌++◌, reverse, length, take}
use Rattle.file.specs.Formats.{Format}
use Rattle.ranking.specs.Memory.{MemoryParts}
use Rattle.ranking.specs.Order.{SameWorths}
use Rattle.run.specs.Files.{file_turns, file_puts}
use Rattle.run.specs.Law.{Run, standing, taken, ranks, Keeps}
use Rattle.run.specs.Steps.{Ran}
use Rattle.run.specs.declared.Answer.TheVariants.{Done, Handed, Refused, Misplaced}
use Rattle.run.specs.declared.Answer.{Answer}
use Rattle.run.specs.declared.Call.TheVariants.{Put, Strike, Begin, Take, End}
use Rattle.run.specs.declared.Call.{Call}
use Rattle.run.specs.declared.Turn.{Turn}
use Rattle.sheet.specs.Arcs.{Arcs}
use Rattle.weight.specs.Range.{Range}
use Rattle.weight.specs.Worth.{Worth}

-- as many turns, and what holds of each two
abbrev pub TurnByTurn : {K : Type 0} → (Turn K → Turn K → Type 0) → Run K → Run K → Type 0
TurnByTurn R [] [] = Unit {0}
TurnByTurn R (t ∷ run) (s ∷ other) = R t s × TurnByTurn R run other
TurnByTurn R _ _ = ⊥

module _ {K : Type 0} (worth : K → Worth) where
  -- the same call; a put's weight has the same worth
  abbrev pub CallAlike : Call K → Call K → Type 0
  CallAlike (Put h d k) (Put i e l) = (h ≡ i) × (d ≡ e) × (worth k ≡ worth l)
  CallAlike (Strike h d) (Strike i e) = (h ≡ i) × (d ≡ e)
  CallAlike Begin Begin = Unit {0}
  CallAlike (Take s) (Take r) = s ≡ r
  CallAlike End End = Unit {0}
  CallAlike _ _ = ⊥

  -- the same answer: every byte of the heads, the count, a weight of the same worth, or the same refusal
  abbrev pub AnswerAlike : Answer K → Answer K → Type 0
  AnswerAlike Done Done = Unit {0}
  AnswerAlike Misplaced Misplaced = Unit {0}
  AnswerAlike (Refused d) (Refused e) = d ≡ e
  AnswerAlike (Handed a t) (Handed b s) = (a ≡ b) × (worth t.weight ≡ worth s.weight) × (t.count ≡ s.count)
  AnswerAlike _ _ = ⊥

  -- the same calls, turn by turn
  abbrev pub CallsAlike : Run K → Run K → Type 0
  CallsAlike = TurnByTurn (λ t s. CallAlike t.call s.call)

  -- the same answers, turn by turn
  abbrev pub AnswersAlike : Run K → Run K → Type 0
  AnswersAlike = TurnByTurn (λ t s. AnswerAlike t.answer s.answer)

  -- arcs of the same worths, and either no ranking or one that has handed out as many trees
  pub record StandAlike (arcs arcs' : Arcs K) (ts ts' : List (List ℕ)) (ranking ranking' : Bool) : Type 0 where
    pub worths : SameWorths worth arcs arcs'
    pub ranked : ranking ≡ ranking'
    pub counts : ranking ≡ true → length ts ≡ length ts'

  -- two runs have come to that, by whatever calls
  abbrev pub CameAlike : ℕ → Run K → Run K → Type 0
  CameAlike n run other = StandAlike (standing run) (standing other) (taken n run) (taken n other) (ranks run) (ranks other)

  -- after runs that have come to the same, the same calls are answered alike, and come to the same again
  abbrev pub CallsSettle : List Range → Type 0
  CallsSettle ranges =
      (n : ℕ) (run other later later' : Run K) → Keeps worth ranges n (later ++ run) → Keeps worth ranges n (later' ++ other) → CameAlike n run other → CallsAlike later later' →
      AnswersAlike later later' × CameAlike n (later ++ run) (later' ++ other)

  -- the same calls behind turns that have come to the same are answered alike, whatever memory the two runs are lent. (`Ran` is a run that was
  -- not refused as a whole: that is settled by words, lengths and the file, `run_check` and `read_answer`.)
  abbrev pub RunsAlike : List Range → Type 0
  RunsAlike ranges =
      (n : ℕ) (first first' : Run K) (calls : List (Call K)) (memory memory' other other' : MemoryParts K) (turns turns' notes notes' : List (Turn K)) → CameAlike n first first' →
      Ran worth ranges n first calls memory memory' turns turns' → Ran worth ranges n first' calls other other' notes notes' →
      AnswersAlike (take (length calls) turns') (take (length calls) notes')

  -- so are any two runs of the same calls on fresh sheets of the same number of words
  abbrev pub FreshAlike : List Range → Type 0
  FreshAlike ranges =
      (n : ℕ) (calls : List (Call K)) (memory memory' other other' : MemoryParts K) (turns turns' notes notes' : List (Turn K)) →
      Ran worth ranges n [] calls memory memory' turns turns' → Ran worth ranges n [] calls other other' notes notes' →
      AnswersAlike (take (length calls) turns') (take (length calls) notes')

  -- and a run on the sheet of a file is answered as one by hand, on a fresh sheet, whose first calls are the file's puts: these are done, and
  -- the others answered alike
  abbrev pub ByHandAlike : List Range → Type 0
  ByHandAlike ranges =
      (n : ℕ) (f : Format K) (file : List ℕ) (count : ℕ) (calls : List (Call K)) (memory memory' other other' : MemoryParts K) (turns turns' notes notes' : List (Turn K)) →
      Ran worth ranges n (file_turns f file count) calls memory memory' turns turns' → Ran worth ranges n [] (file_puts f file count ++ calls) other other' notes notes' →
      AnswersAlike (reverse (file_turns f file count) ++ take (length calls) turns') (take (count + length calls) notes')
