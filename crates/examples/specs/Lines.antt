-- Worked lines: what is put on a sheet and struck there, what the takes tell then, and what is printed of a file.
use Rattle.std.specs.Prelude.{◌≡◌, ℕ, suc, ◌+◌, ◌*◌, List, [], ◌∷◌, ◌++◌, length, is_some, Some, None, Ok, Err, Option}
use Rattle.file.specs.Formats.{Format, score_format, cost_format, mark_format}
use Rattle.file.specs.Reading.{frame_words, record_count}
use Rattle.file.specs.Records.{put_records, records_check}
use Rattle.lines.specs.Ends.{ToldEnd}
use Rattle.lines.specs.Lines.{tree_text, last_text}
use Rattle.lines.specs.declared.Last.{Last}
use Rattle.ranking.specs.Takes.{HandedOut, NoneHanded}
use Rattle.refusal.specs.declared.Refusal.TheVariants.{NotATree}
use Rattle.refusal.specs.declared.Refusal.{Refusal}
use Rattle.sheet.specs.Arcs.{Arcs, no_arcs, with_arc}
use Rattle.sheet.specs.Calls.{put_check, strike_check, or_else}
use Rattle.tree.specs.Brackets.{Drawn}
use Rattle.tree.specs.Trees.{Checked}
use Rattle.weight.specs.Layers.{Mark, mark_worth}
use Rattle.weight.specs.Numbers.{Score, Cost, score_worth, cost_worth}
use Rattle.weight.specs.Worth.{Worth}

-- a step on a sheet, by the arc's head and dependent
pub data Step (K : Type 0) : Type 0 where
  put : ℕ → ℕ → K → Step K
  strike : ℕ → ℕ → Step K

abbrev pub after_step : {K : Type 0} → Step K → Arcs K → Arcs K
after_step (put h d weight) arcs = with_arc h d (Some weight) arcs
after_step (strike h d) arcs = with_arc h d None arcs

-- the arcs after the steps, in their order
abbrev pub after : {K : Type 0} → List (Step K) → Arcs K → Arcs K
after [] arcs = arcs
after (step ∷ steps) arcs = after steps (after_step step arcs)

-- why a step is refused, if it is, in the memory that n words ask for
abbrev pub step_check : {K : Type 0} → Format K → ℕ → Arcs K → Step K → Option Refusal
step_check f n arcs (put h d weight) = put_check n (n * (n + 1)) n h d (f.entry weight)
step_check f n arcs (strike h d) = strike_check n (n * (n + 1)) n h d (is_some (arcs h d))

-- the first refusal of the steps
abbrev pub steps_check : {K : Type 0} → Format K → ℕ → Arcs K → List (Step K) → Option Refusal
steps_check f n arcs [] = None
steps_check f n arcs (step ∷ steps) = or_else (step_check f n arcs step) (steps_check f n (after_step step arcs) steps)

-- the takes hand out just these trees with their weights one after the other, and then refuse; `taken` were taken before, the latest first
abbrev pub Told : {K : Type 0} → (K → Worth) → ℕ → Arcs K → List (List ℕ) → List (K × List ℕ) → Refusal → Type 0
Told worth n arcs taken [] last = NoneHanded worth n arcs taken last
Told {K} worth n arcs taken (t ∷ trees) last =
    HandedOut worth n arcs taken t.1 t.0 (suc (length taken))
    × ((heads : List ℕ) (weight : K) (count : ℕ) → HandedOut worth n arcs taken heads weight count → heads ≡ t.1)
    × Told worth n arcs (t.1 ∷ taken) trees last

-- the steps on an empty sheet of so many words, each tree in turn with its weight, and the refusal behind them
pub record WorkedLine (K : Type 0) : Type 0 where
  pub words : ℕ
  pub steps : List (Step K)
  pub trees : List (K × List ℕ)
  pub last : Refusal

abbrev pub arcs_of : {K : Type 0} → WorkedLine K → Arcs K
arcs_of line = after line.steps no_arcs

-- no step is refused, and the takes tell what the line has
pub record TrueLine {K : Type 0} (f : Format K) (worth : K → Worth) (line : WorkedLine K) : Type 0 where
  pub accepted : steps_check f line.words no_arcs line.steps ≡ None
  pub told : Told worth line.words (arcs_of line) [] line.trees line.last

-- the file is accepted for so many words, and its records leave these arcs
pub record FileOf {K : Type 0} (f : Format K) (file : List ℕ) (n : ℕ) (arcs : Arcs K) : Type 0 where
  pub frame : frame_words f.kind f.width file ≡ Ok n
  pub records : records_check f n file 0 (record_count f.width file) ≡ None
  pub standing : (h d : ℕ) → put_records f file 0 (record_count f.width file) no_arcs h d ≡ arcs h d

-- a line of text for each tree, numbered on from `number`, and the last one
abbrev pub texts_from : {K : Type 0} → (K → Worth) → ℕ → List (K × List ℕ) → Last → List ℕ
texts_from worth number [] last = last_text last
texts_from worth number (t ∷ trees) last = tree_text number (worth t.0) t.1 ++ texts_from worth (suc number) trees last

-- the text that is printed of the takes
pub record Printed {K : Type 0} (worth : K → Worth) (line : WorkedLine K) (text : List ℕ) : Type 0 where
  pub last : Last
  pub ends : ToldEnd line.last (Ok last)
  pub whole : texts_from worth 1 line.trees last ≡ text

-- a line of one kind of weight, one with a file of its scores and what is printed of that, or heads that form no tree
pub data WorkedRow : Type 0 where
  scores : WorkedLine Score → WorkedRow
  costs : WorkedLine Cost → WorkedRow
  marks : WorkedLine (Mark Score) → WorkedRow
  score_file : List ℕ → WorkedLine Score → List ℕ → WorkedRow
  no_tree : List ℕ → WorkedRow

abbrev pub Right : WorkedRow → Type 0
Right (scores line) = TrueLine score_format score_worth line
Right (costs line) = TrueLine cost_format cost_worth line
Right (marks line) = TrueLine mark_format (mark_worth score_worth) line
Right (score_file file line text) = FileOf score_format file line.words (arcs_of line) × TrueLine score_format score_worth line × Printed score_worth line text
Right (no_tree heads) = Checked heads (Err NotATree) × ((space : List ℕ) → Drawn heads space (Err NotATree) space)
