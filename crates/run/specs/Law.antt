-- The law over runs. A run is a list of turns, the newest first; a turn is a call with its answer. Which arcs stand and which trees
-- were taken follow from the turns before, and they settle what a call answers.
use Rattle.std.specs.Prelude.{◌≡◌, ℕ, ◌-◌, ◌<◌, ◌≤◌, Bool, true, false, cond, not, List, [], ◌∷◌, length, take, drop, replicate, is_some, Some, None, Ok, Option}
use Rattle.cells.specs.Accounts.{Among}
use Rattle.ranking.specs.Order.{InOrder}
use Rattle.ranking.specs.Takes.{NoneHanded, Tells}
use Rattle.ranking.specs.Trees.{TreeOf, tree_worth}
use Rattle.refusal.specs.declared.Refusal.TheVariants.{NoEntry, AbsentArc, ShortSpace}
use Rattle.refusal.specs.declared.Refusal.{Refusal}
use Rattle.run.specs.declared.Answer.TheVariants.{Done, Handed, Refused, Misplaced}
use Rattle.run.specs.declared.Answer.{Answer}
use Rattle.run.specs.declared.Call.TheVariants.{Put, Strike, Begin, Take, End}
use Rattle.run.specs.declared.Call.{Call}
use Rattle.run.specs.declared.Turn.{Turn}
use Rattle.sheet.specs.Arcs.{Arcs, no_arcs, with_arc}
use Rattle.sheet.specs.Calls.{or_else, refuse_if, arc_check}
use Rattle.weight.specs.Range.{Range, entry_in}
use Rattle.std.specs.List.{AllByRecursion}
use Rattle.weight.specs.Worth.{Worth, Outweighs}

abbrev pub Run : Type 0 → Type 0
Run K = List (Turn K)

-- ---- what a run comes to

-- the latest accepted put or strike that names an arc decides it
abbrev pub arcs_after : {K : Type 0} → Call K → Answer K → Arcs K → Arcs K
arcs_after (Put h d k) Done arcs = with_arc h d (Some k) arcs
arcs_after (Strike h d) Done arcs = with_arc h d None arcs
arcs_after _ _ arcs = arcs

-- the arcs that stand after a run on a fresh sheet
abbrev pub standing : {K : Type 0} → Run K → Arcs K
standing [] = no_arcs
standing (t ∷ run) = arcs_after t.call t.answer (standing run)

-- a begin starts with no tree taken, and an accepted take takes the tree whose heads it hands out
abbrev pub taken_after : {K : Type 0} → ℕ → Call K → Answer K → List (List ℕ) → List (List ℕ)
taken_after n Begin Done ts = []
taken_after n (Take s) (Handed heads t) ts = take n heads ∷ ts
taken_after n _ _ ts = ts

-- the trees handed out since the latest begin, the latest first
abbrev pub taken : {K : Type 0} → ℕ → Run K → List (List ℕ)
taken n [] = []
taken n (t ∷ run) = taken_after n t.call t.answer (taken n run)

abbrev pub ranks_after : {K : Type 0} → Call K → Answer K → Bool → Bool
ranks_after Begin Done b = true
ranks_after End Done b = false
ranks_after _ _ b = b

-- whether a ranking stands after a run
abbrev pub ranks : {K : Type 0} → Run K → Bool
ranks [] = false
ranks (t ∷ run) = ranks_after t.call t.answer (ranks run)

-- ---- what each call must answer

-- refused by the first check that fails, or done
abbrev pub answer_by : {K : Type 0} → Option Refusal → Answer K
answer_by None = Done
answer_by (Some e) = Refused e

module _ {K : Type 0} (worth : K → Worth) (ranges : List Range) (n : ℕ) where
  -- the ends of the arc, and whether the weight is an entry, or whether the arc stands
  abbrev pub put_answer : ℕ → ℕ → K → Answer K
  put_answer h d k = answer_by (or_else (arc_check n h d) (refuse_if (not (entry_in ranges (worth k))) NoEntry))

  abbrev pub strike_answer : Arcs K → ℕ → ℕ → Answer K
  strike_answer arcs h d = answer_by (or_else (arc_check n h d) (refuse_if (not (is_some (arcs h d))) AbsentArc))

  -- what a take answers with space enough; behind the heads of the line the bytes are 0
  abbrev pub TakeTells : Arcs K → List (List ℕ) → Answer K → Type 0
  TakeTells arcs ts (Handed heads t) = Tells worth n arcs ts (take n heads) (Ok t) × (drop n heads ≡ replicate (40 - n) 0)
  TakeTells arcs ts (Refused e) = NoneHanded worth n arcs ts e
  TakeTells arcs ts _ = ⊥

  -- with less space than a tree needs a take tells only that
  abbrev pub TakeAnswers : Arcs K → List (List ℕ) → ℕ → Answer K → Type 0
  TakeAnswers arcs ts space a = (space < n → a ≡ Refused ShortSpace) × (n ≤ space → TakeTells arcs ts a)

  -- by the arcs that stand, the trees taken, and whether a ranking stands. Puts, strikes and begins have no place in a ranking, and
  -- takes and ends none outside one: a caller cannot build them, and a run answers them with `Misplaced`.
  abbrev pub Answers : Arcs K → List (List ℕ) → Bool → Call K → Answer K → Type 0
  Answers arcs ts ranking (Put h d k) a = a ≡ cond ranking Misplaced (put_answer h d k)
  Answers arcs ts ranking (Strike h d) a = a ≡ cond ranking Misplaced (strike_answer arcs h d)
  Answers arcs ts ranking Begin a = a ≡ cond ranking Misplaced Done
  Answers arcs ts ranking (Take s) a = (ranking ≡ false → a ≡ Misplaced) × (ranking ≡ true → TakeAnswers arcs ts s a)
  Answers arcs ts ranking End a = a ≡ cond ranking Done Misplaced

  -- the law: in a run every answer is the one that the run before it settles
  abbrev pub Keeps : Run K → Type 0
  Keeps [] = Unit {0}
  Keeps (t ∷ run) = Answers (standing run) (taken n run) (ranks run) t.call t.answer × Keeps run

-- ---- what follows from the law for a ranking that stands, over the trees it has handed out, the latest first

-- no tree stands twice in the list
abbrev pub Apart : List (List ℕ) → Type 0
Apart [] = Unit {0}
Apart (t ∷ ts) = (Among t ts → ⊥) × Apart ts

-- the tree outweighs none of the list
abbrev pub NotAbove : {K : Type 0} → (K → Worth) → Arcs K → List ℕ → List (List ℕ) → Type 0
NotAbove worth arcs t ts = AllByRecursion (λ s. Outweighs (tree_worth worth arcs t) (tree_worth worth arcs s) → ⊥) ts

-- no tree outweighs one that was handed out before it
abbrev pub Falling : {K : Type 0} → (K → Worth) → Arcs K → List (List ℕ) → Type 0
Falling worth arcs [] = Unit {0}
Falling worth arcs (t ∷ ts) = NotAbove worth arcs t ts × Falling worth arcs ts

pub record TrueRanking {K : Type 0} (worth : K → Worth) (n : ℕ) (arcs : Arcs K) (ts : List (List ℕ)) : Type 0 where
  pub once : Apart ts
  pub few : length ts ≤ 50
  pub trees : AllByRecursion (TreeOf n arcs) ts
  pub falling : Falling worth arcs ts
  -- and none that was skipped outweighs one of them
  pub none_skipped : (t : List ℕ) → TreeOf n arcs t → (Among t ts → ⊥) → NotAbove worth arcs t ts
  -- they are the first in the one order of the sheet's trees
  pub order : InOrder worth n arcs ts

abbrev pub RanksTruly : {K : Type 0} → (K → Worth) → List Range → Type 0
RanksTruly {K} worth ranges = (n : ℕ) (run : Run K) → Keeps worth ranges n run → ranks run ≡ true → TrueRanking worth n (standing run) (taken n run)
