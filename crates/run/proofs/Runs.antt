-- A run grows by one turn, and what it comes to in the end.
use Rattle.std.proofs.Common.{◌≡◌, ℕ, ◌+◌, ◌<◌, false, ◌||◌, eqb, ltb, List, [], ◌∷◌, ◌++◌, map, reverse, length, get_or, take, drop, set, Some, None, Ok, Err, Option, sym, refl, ap, ◌∙◌, subst, arith}
use Rattle.ranking.specs.Calls.{part_lengths}
use Rattle.ranking.specs.Memory.{MemoryParts}
use Rattle.refusal.specs.declared.Refusal.TheVariants.{WordCount, ShortMemory}
use Rattle.refusal.specs.declared.Refusal.{Refusal}
use Rattle.run.specs.Loans.{lists_of, SameLoans}
use Rattle.run.specs.declared.LentMemory.{LentMemory as Loans}
use Rattle.run.specs.Law.{Run, standing, taken, ranks, ranks_after, Keeps}
use Rattle.run.specs.Steps.{line_words, ranked, SameRest, Is, Stepped, Begins, Ran, turns_check, run_check}
use Rattle.run.specs.declared.Call.{Call}
use Rattle.run.specs.declared.State.TheVariants.{Open, Ranked}
use Rattle.run.specs.declared.State.{State}
use Rattle.run.specs.declared.Turn.{Turn}
use Rattle.run.proofs.Turns.{same_all}
use Rattle.sheet.proofs.Tables.{passes, last_passes}
use Rattle.sheet.specs.Arcs.{arcs_in}
use Rattle.sheet.specs.Calls.{refuse_if, checked, open_check, too_short, Answered}
use Rattle.sheet.specs.declared.Lengths.{Lengths}
use Rattle.sheet.specs.declared.Sheet.{Sheet}
use Rattle.std.proofs.lemmas.List.{take_more_set, take_more, map_push, reverse-append, drop-set-lt, drop-drop, take_all}
use Rattle.weight.specs.Range.{Range}
use Rattle.weight.specs.Worth.{Worth}

same_more : {K : Type 0} (n : ℕ) (a b c : MemoryParts K) → SameRest n a b → SameRest n b c → SameRest n a c
same_more n a b c p q = record {
  weights = q.weights ∙ p.weights;
  sets = q.sets ∙ p.sets;
  others = record { candidates = q.others.candidates ∙ p.others.candidates; nodes = q.others.nodes ∙ p.others.nodes; merges = q.others.merges ∙ p.others.merges; potentials = q.others.potentials ∙ p.others.potentials };
}

-- the same parts are as long as before
pub still_long : {K : Type 0} (n : ℕ) (before after : Loans K) → SameLoans before after → too_short n (part_lengths (lists_of before)) ≡ false → too_short n (part_lengths (lists_of after)) ≡ false
still_long n before after p short = subst (λ (l : Lengths). too_short n l ≡ false) (sym p.long) short

pub same_on : {K : Type 0} (a b c : Loans K) → SameLoans a b → SameLoans b c → SameLoans a c
same_on a b c p q =
    record {
      weights = q.weights ∙ p.weights;
      sets = q.sets ∙ p.sets;
      candidates = q.candidates ∙ p.candidates;
      nodes = q.nodes ∙ p.nodes;
      merges = q.merges ∙ p.merges;
      potentials = q.potentials ∙ p.potentials;
      long = q.long ∙ p.long;
    }

-- turns that the run `first` comes before, on the memory `start`
module _ {K : Type 0} (worth : K → Worth) (ranges : List Range) (n : ℕ) (first : Run K) (start : MemoryParts K) where
  -- where the run stands after some turns, the newest first
  pub record Going (state : State K) (memory : MemoryParts K) (run : Run K) : Type 0 where
    pub words : line_words state ≡ n
    pub ranking : ranked state ≡ ranks run
    pub rest : SameRest n start memory
    pub is : Is worth ranges state memory (standing run) (taken n run)
    pub keeps : Keeps worth ranges n run

  -- one turn more
  pub goes_on : (state state' : State K) (memory memory' : MemoryParts K) (run : Run K) (t : Turn K) → too_short n (part_lengths memory) ≡ false → Stepped worth ranges state state' memory memory' t.call t.answer → Going state memory run → Going state' memory' (t ∷ run)
  goes_on state state' memory memory' run t enough s g =
      let e = g.words in
      let l = s.law (standing run) (taken n run) (rw e enough) g.is in
      record {
        words = s.words ∙ e;
        ranking = s.ranking ∙ ap (ranks_after t.call t.answer) g.ranking;
        rest = same_more n start memory memory' g.rest (rw e at s.rest);
        is = rw e at l.1;
        keeps = (rw (e, g.ranking) at l.0, g.keeps);
      }

  -- the arcs that the memory holds
  arcs_held : (state : State K) (memory : MemoryParts K) (run : Run K) → Going state memory run → (h d : ℕ) → arcs_in n memory.weights memory.sets h d ≡ standing run h d
  arcs_held state memory run g h d = rw g.words at (by state g.is)
    where
      by : (state : State K) → Is worth ranges state memory (standing run) (taken n run) → arcs_in (line_words state) memory.weights memory.sets h d ≡ standing run h d
      by (Open s) is = is.standing h d
      by (Ranked r) is = is.sheet.standing h d

  -- the first i turns are noted, and the others are as they were
  pub record Noted (calls : List (Call K)) (turns turns' : List (Turn K)) (i : ℕ) (state : State K) (memory : MemoryParts K) : Type 0 where
    pub calls_are : map (λ t. t.call) (take i turns') ≡ take i calls
    pub turns_are : drop i turns' ≡ drop i turns
    pub going : Going state memory (reverse (take i turns') ++ first)

  pub notes_on : (calls : List (Call K)) (turns turns' : List (Turn K)) (i : ℕ) (state state' : State K) (memory memory' : MemoryParts K) (t : Turn K) → i < length calls → i < length turns' → t.call ≡ get_or calls i t.call → too_short n (part_lengths memory) ≡ false →
      Stepped worth ranges state state' memory memory' t.call t.answer → Noted calls turns turns' i state memory → Noted calls turns (set turns' i t) (i + 1) state' memory'
  notes_on calls turns turns' i state state' memory memory' t lc lt is enough s g =
      let e : reverse (take (i + 1) (set turns' i t)) ≡ t ∷ reverse (take i turns') = ap reverse (take_more_set turns' i t lt) ∙ reverse-append (take i turns') (t ∷ []) in
      record {
        calls_are = ap (map (λ t. t.call)) (take_more_set turns' i t lt) ∙ map_push (λ t. t.call) (take i turns') t
            ∙ (ap (λ (xs : List (Call K)). xs ++ t.call ∷ []) g.calls_are ∙ ap (λ (x : Call K). take i calls ++ x ∷ []) is) ∙ sym (take_more calls i t.call lc);
        turns_are = drop-set-lt (i + 1) turns' i t (omega arith) ∙ (drop_one turns' ∙ (ap (drop 1) g.turns_are ∙ sym (drop_one turns)));
        going = subst (λ (run : Run K). Going state' memory' (run ++ first)) (sym e) (goes_on state state' memory memory' (reverse (take i turns') ++ first) t enough s g.going);
      }
    where
      drop_one : (xs : List (Turn K)) → drop (i + 1) xs ≡ drop 1 (drop i xs)
      drop_one xs = sym (drop-drop 1 i xs)

  -- all calls were made
  pub all_noted : (calls : List (Call K)) (turns turns' : List (Turn K)) (i : ℕ) (state : State K) (memory : MemoryParts K) → i ≡ length calls → Noted calls turns turns' i state memory → Ran worth ranges n first calls start memory turns turns'
  all_noted calls turns turns' i state memory e g =
      let h = subst (λ (m : ℕ). Noted calls turns turns' m state memory) e g in
      record {
        noted = h.calls_are ∙ take_all (length calls) calls (omega arith);
        keeps = h.going.keeps;
        arcs = arcs_held state memory (reverse (take (length calls) turns') ++ first) h.going;
        rest = h.going.rest;
        turns_beyond = h.turns_are;
      }

  -- none was made yet
  pub none_noted : (sheet : Sheet K) (calls : List (Call K)) (turns : List (Turn K)) → sheet.words ≡ n → Begins worth ranges n first start → Noted calls turns turns 0 (Open sheet) start
  none_noted sheet calls turns e b = record { calls_are = refl; turns_are = refl; going = record { words = e; ranking = sym b.no_ranking; rest = same_all n start; is = rw e b.holds; keeps = b.keeps } }

-- before the calls the memory was made ready
pub ran_from : {K : Type 0} (worth : K → Worth) (ranges : List Range) (n m : ℕ) (first : Run K) (calls : List (Call K)) (before start memory : MemoryParts K) (turns turns' : List (Turn K)) → m ≡ n → SameRest n before start → Ran worth ranges m first calls start memory turns turns' → Ran worth ranges n first calls before memory turns turns'
ran_from worth ranges n m first calls before start memory turns turns' e rest at_m =
    let r = subst (λ (k : ℕ). Ran worth ranges k first calls start memory turns turns') e at_m in
    record { noted = r.noted; keeps = r.keeps; arcs = r.arcs; rest = same_more n before start memory rest r.rest; turns_beyond = r.turns_beyond }

-- ---- what an opening answered

pub was_opened : {T : Type 0} (o : Option Refusal) (s : T) (unchanged done : Type 0) → Answered o (Ok s) unchanged done → (o ≡ None) × done
was_opened None s unchanged done a = (refl, a.1)
was_opened (Some e) s unchanged done a = let z = a.0 in absurd cc

pub was_refused : (T : Type 0) (o : Option Refusal) (e : Refusal) (unchanged done : Type 0) → Answered {T = T} o (Err e) unchanged done → (o ≡ Some e) × unchanged
was_refused T None e unchanged done a = let z = a.0 in absurd cc
was_refused T (Some d) e unchanged done a = let z = a.0 in (let y : d ≡ e = cc in ap Some y, a.1)

pub long_enough : (n : ℕ) (l : Lengths) → open_check n l ≡ None → too_short n l ≡ false
long_enough n l none = last_passes (too_short n l) ShortMemory (passes (eqb n 0 || ltb 40 n) WordCount (refuse_if (too_short n l) ShortMemory) none).1

-- ---- the check of the turns, where they are enough

pub enough_turns : (o : Option Refusal) (u : Unit {0}) → Ok u ≡ checked o → o ≡ None
enough_turns None u e = refl
enough_turns (Some d) u e = absurd cc

-- then the check of a run is that of an opening
pub check_on : (n : ℕ) (l : Lengths) (calls turns : ℕ) → turns_check calls turns ≡ None → run_check n l calls turns ≡ open_check n l
check_on n l calls turns none = rw none refl
