-- What one step of a run does, and what a whole run leaves
use Rattle.std.specs.Prelude.{◌≡◌, ℕ, ◌+◌, ◌*◌, Bool, true, false, List, ◌++◌, map, reverse, length, take, drop, Ok, Err, Option, Result, nat_lt}
use Rattle.ranking.specs.Calls.{part_lengths, SameBeyond}
use Rattle.ranking.specs.Memory.{MemoryParts, StandsFor}
use Rattle.refusal.specs.declared.Refusal.TheVariants.{ShortSpace}
use Rattle.refusal.specs.declared.Refusal.{Refusal}
use Rattle.run.specs.Law.{Run, arcs_after, taken_after, ranks, ranks_after, standing, Answers, Keeps}
use Rattle.run.specs.declared.Answer.TheVariants.{Done, Refused}
use Rattle.run.specs.declared.Answer.{Answer}
use Rattle.run.specs.declared.Call.{Call}
use Rattle.run.specs.declared.State.TheVariants.{Open, Ranked}
use Rattle.run.specs.declared.State.{State}
use Rattle.run.specs.declared.Turn.{Turn}
use Rattle.sheet.specs.Arcs.{Arcs, arcs_in, HoldsArcs}
use Rattle.sheet.specs.Calls.{or_else, refuse_if, open_check, too_short}
use Rattle.sheet.specs.declared.Lengths.{Lengths}
use Rattle.weight.specs.Range.{Range}
use Rattle.weight.specs.Worth.{Worth}

abbrev pub line_words : {K : Type 0} → State K → ℕ
line_words (Open s) = s.words
line_words (Ranked r) = r.sheet.words

abbrev pub ranked : {K : Type 0} → State K → Bool
ranked (Open s) = false
ranked (Ranked r) = true

-- the answer to a put or a strike
abbrev pub told_by : {K U : Type 0} → Result U Refusal → Answer K
told_by (Ok u) = Done
told_by (Err e) = Refused e

-- every part of the memory is as it was beyond its listed length for n words
pub record SameRest {K : Type 0} (n : ℕ) (memory memory' : MemoryParts K) : Type 0 where
  pub weights : drop (n * (n + 1)) memory'.weights ≡ drop (n * (n + 1)) memory.weights
  pub sets : drop n memory'.sets ≡ drop n memory.sets
  pub others : SameBeyond n memory memory'

module _ {K : Type 0} (worth : K → Worth) (ranges : List Range) where
  -- the state with its memory stands for these arcs and, where a ranking stands, for these trees taken
  abbrev pub Is : State K → MemoryParts K → Arcs K → List (List ℕ) → Type 0
  Is (Open s) memory arcs ts = HoldsArcs worth ranges s.words memory.weights memory.sets arcs
  Is (Ranked r) memory arcs ts = StandsFor worth ranges r memory arcs ts

  -- whatever the state stood for, the answer is the one that this settles, and it stands for what follows
  pub record Stepped (state state' : State K) (memory memory' : MemoryParts K) (call : Call K) (answer : Answer K) : Type 0 where
    pub words : line_words state' ≡ line_words state
    pub ranking : ranked state' ≡ ranks_after call answer (ranked state)
    pub rest : SameRest (line_words state) memory memory'
    pub law :
        (arcs : Arcs K) (ts : List (List ℕ)) → too_short (line_words state) (part_lengths memory) ≡ false → Is state memory arcs ts →
        Answers worth ranges (line_words state) arcs ts (ranked state) call answer × Is state' memory' (arcs_after call answer arcs) (taken_after (line_words state) call answer ts)

  -- a sheet of n words is open that this run has come to
  pub record Begins (n : ℕ) (first : Run K) (memory : MemoryParts K) : Type 0 where
    pub no_ranking : ranks first ≡ false
    pub keeps : Keeps worth ranges n first
    pub holds : HoldsArcs worth ranges n memory.weights memory.sets (standing first)

  -- behind the turns `first`, of which a fresh sheet has none, the calls were made in their order, and each noted with its answer: with
  -- these turns before them they keep the law
  pub record Ran (n : ℕ) (first : Run K) (calls : List (Call K)) (memory memory' : MemoryParts K) (turns turns' : List (Turn K)) : Type 0 where
    pub noted : map (λ t. t.call) (take (length calls) turns') ≡ calls
    pub keeps : Keeps worth ranges n (reverse (take (length calls) turns') ++ first)
    -- the memory then holds the arcs that the run leaves standing
    pub arcs : (h d : ℕ) → arcs_in n memory'.weights memory'.sets h d ≡ standing (reverse (take (length calls) turns') ++ first) h d
    -- all else is as it was
    pub rest : SameRest n memory memory'
    pub turns_beyond : drop (length calls) turns' ≡ drop (length calls) turns

-- a run wants a turn for each call
abbrev pub turns_check : ℕ → ℕ → Option Refusal
turns_check calls turns = refuse_if (nat_lt turns calls) ShortSpace

-- and then what an opening wants
abbrev pub run_check : ℕ → Lengths → ℕ → ℕ → Option Refusal
run_check n l calls turns = or_else (turns_check calls turns) (open_check n l)
