-- What the calls on a sheet answer by the law, and what its memory holds in the end.
use Rattle.std.specs.Prelude.{◌≡◌, ℕ, List, [], take, drop, replicate, is_some, OnErr, Some, None, Ok, Err, Result}
use Rattle.by_contract.specs.declared.Answers.{Answers}
use Rattle.by_contract.specs.declared.FirstTaken.{FirstTaken}
use Rattle.file.specs.Formats.{Format}
use Rattle.file.specs.Reading.{ReadAs, record_count}
use Rattle.file.specs.Records.{put_records}
use Rattle.file.specs.declared.fault.FileFault.{FileFault}
use Rattle.ranking.specs.Takes.{Tells}
use Rattle.refusal.specs.declared.Refusal.{Refusal}
use Rattle.sheet.specs.Arcs.{Arcs, changed_if_done, HoldsArcs, no_arcs}
use Rattle.sheet.specs.Calls.{checked, put_check, strike_check}
use Rattle.sheet.specs.declared.Lengths.{Lengths}
use Rattle.sheet.specs.declared.Sheet.{Sheet}
use Rattle.weight.specs.Range.{Range, entry_in}
use Rattle.weight.specs.Worth.{Worth}

-- the arcs that the two puts leave
abbrev pub arcs_put : {K : Type 0} → (first second : K) → Answers K → Arcs K
arcs_put first second a = changed_if_done 1 2 (Some second) a.second (changed_if_done 0 1 (Some first) a.first no_arcs)

-- each put answers what its arc and its weight settle, the strike whether the arc stands; the take answers what the arcs settle, and where it
-- is refused it writes no head; in the end the memory holds the arcs without the one that was struck
pub record Kept {K : Type 0} (worth : K → Worth) (ranges : List Range) (lent : Lengths) (first second : K) (a : Answers K) (weights : List K) (sets : List ℕ) : Type 0 where
  pub put_first : a.first ≡ checked (put_check 2 lent.weights lent.sets 0 1 (entry_in ranges (worth first)))
  pub put_second : a.second ≡ checked (put_check 2 lent.weights lent.sets 1 2 (entry_in ranges (worth second)))
  pub told : Tells worth 2 (arcs_put first second a) [] (take 2 a.heads) a.taken
  pub unwritten : OnErr a.taken (a.heads ≡ replicate 2 0)
  pub strikes : a.struck ≡ checked (strike_check 2 lent.weights lent.sets 1 2 (is_some (arcs_put first second a 1 2)))
  pub held : HoldsArcs worth ranges 2 weights sets (changed_if_done 1 2 None a.struck (arcs_put first second a))

-- where the line was opened
abbrev pub AsOne : {K : Type 0} → (K → Worth) → List Range → Lengths → (first second : K) → Result (Answers K) Refusal → List K → List ℕ → Type 0
AsOne worth ranges lent first second (Ok a) weights sets = Kept worth ranges lent first second a weights sets
AsOne worth ranges lent first second (Err e) weights sets = ⊥

-- the arcs that the puts of a file's records leave
abbrev pub arcs_of_file : {K : Type 0} → Format K → List ℕ → Arcs K
arcs_of_file f file = put_records f file 0 (record_count f.width file) no_arcs

-- on the reader's sheet the take answers what the file's arcs settle, with no byte behind its heads, and none where it is refused; and the
-- memory holds the arcs still
pub record KeptOfFile {K : Type 0} (f : Format K) (worth : K → Worth) (ranges : List Range) (file : List ℕ) (s : Sheet K) (a : FirstTaken K) (weights : List K) (sets : List ℕ) : Type 0 where
  pub words : a.words ≡ s.words
  pub told : Tells worth s.words (arcs_of_file f file) [] (take s.words a.heads) a.taken
  pub beyond : drop s.words a.heads ≡ drop s.words (replicate 40 0)
  pub unwritten : OnErr a.taken (a.heads ≡ replicate 40 0)
  pub held : HoldsArcs worth ranges s.words weights sets (arcs_of_file f file)

-- refused as the reader is, or a take from its sheet
abbrev pub TakenFrom : {K : Type 0} → Format K → (K → Worth) → List Range → List ℕ → Result (Sheet K) FileFault → Result (FirstTaken K) FileFault → List K → List ℕ → Type 0
TakenFrom f worth ranges file (Ok s) (Ok a) weights sets = KeptOfFile f worth ranges file s a weights sets
TakenFrom f worth ranges file (Err e) (Err told) weights sets = told ≡ e
TakenFrom f worth ranges file _ _ weights sets = ⊥

-- with weights and sets as the reader leaves them
abbrev pub OfFile : {K : Type 0} → Format K → (K → Worth) → List Range → Lengths → List ℕ → Result (FirstTaken K) FileFault → (weights weights' : List K) → (sets sets' : List ℕ) → Type 0
OfFile {K} f worth ranges l file told weights weights' sets sets' =
    (r : Result (Sheet K) FileFault) × ReadAs f l file r weights weights' sets sets' × TakenFrom f worth ranges file r told weights' sets'
