-- The calls one after the other, each by what its public contract says.
use Rattle.std.proofs.Common.{◌≡◌, ℕ, Bool, true, false, List, [], length, replicate, is_some, OnErr, Some, None, Ok, Err, Option, Result, refl, ap, ◌∙◌, subst, arith, take}
use Rattle.by_contract.specs.Law.{arcs_put, Kept}
use Rattle.by_contract.specs.declared.Answers.{Answers}
use Rattle.ranking.specs.Calls.{part_lengths, take_check, Took}
use Rattle.ranking.specs.Memory.{MemoryParts, StandsFor}
use Rattle.ranking.specs.Takes.{Tells}
use Rattle.ranking.specs.declared.state.Ranking.{Ranking}
use Rattle.ranking.specs.declared.state.Taken.{Taken}
use Rattle.refusal.specs.declared.Refusal.{Refusal}
use Rattle.sheet.specs.Arcs.{ArcChanged, Arcs, arcs_in, changed_if_done, HoldsArcs, no_arcs}
use Rattle.sheet.specs.Calls.{Answered, checked, put_check, refuse_if, strike_check, too_short}
use Rattle.sheet.specs.declared.Lengths.{Lengths}
use Rattle.weight.specs.Range.{Range, entry_in}
use Rattle.weight.specs.Worth.{Worth}

-- an opening that made a sheet passed its check
pub opened : {T : Type 0} (U D : Type 0) (q : Option Refusal) (s : T) → Answered q (Ok s) U D → (q ≡ None) × D
opened U D (Some e) s h = ((cc (h.0)), (cc (h.0)))
opened U D None s h = (refl, h.1)

pub passed : (fails : Bool) (e : Refusal) → refuse_if fails e ≡ None → fails ≡ false
passed true e h = cc
passed false e h = refl

pub done : {T : Type 0} (U D : Type 0) (q : Option Refusal) (s : T) → q ≡ None → D → Answered q (Ok s) U D
done U D q s none h = rw none (refl, h)

-- a call answers what its check settles
pub settled : (U D : Type 0) (q : Option Refusal) (r : Result (Unit {0}) Refusal) → Answered q r U D → r ≡ checked q
settled U D (Some e) r h = h.0
settled U D None (Ok done) h = refl
settled U D None (Err e) h = absurd (let z = h.0 in cc)

-- the same check by other names of its numbers
put_named : (n m w v s t h d : ℕ) (entry : Bool) → n ≡ m → w ≡ v → s ≡ t → put_check n w s h d entry ≡ put_check m v t h d entry
put_named n m w v s t h d entry line weights sets = rw (line, weights, sets) refl

strike_named : (n m w v s t h d : ℕ) (b c : Bool) → n ≡ m → w ≡ v → s ≡ t → b ≡ c → strike_check n w s h d b ≡ strike_check m v t h d c
strike_named n m w v s t h d b c line weights sets stands = rw (line, weights, sets, stands) refl

-- a take that is refused writes no head
pub no_heads : {K : Type 0} (worth : K → Worth) (ranges : List Range) (ranking ranking' : Ranking K) (memory memory' : MemoryParts K) (space space' : List ℕ) (r : Result (Taken K) Refusal) → Took worth ranges ranking ranking' memory memory' space space' r → OnErr r (space' ≡ space)
no_heads worth ranges ranking ranking' memory memory' space space' (Ok t) took = tt
no_heads worth ranges ranking ranking' memory memory' space space' (Err e) took = by (take_check ranking.sheet.words (part_lengths memory) (length space) ranking.taken) refl
  where
    by : (q : Option Refusal) → take_check ranking.sheet.words (part_lengths memory) (length space) ranking.taken ≡ q → space' ≡ space
    by (Some d) is = (took.refused d is).3
    by None is = (took.none_left e is refl).3

module _
    {K : Type 0} (worth : K → Worth) (ranges : List Range) (lent : Lengths) (first second : K) (a : Answers K)
    (n m : ℕ) (weights weights' : List K) (sets sets' sets'' space : List ℕ) (ranking ranking' : Ranking K) (memory memory' : MemoryParts K)
    (two : n ≡ 2) (opens : HoldsArcs worth ranges n weights sets no_arcs)
    (puts_first : ArcChanged worth ranges n 0 1 (Some first) a.first weights weights' sets sets')
    (puts_second : ArcChanged worth ranges n 1 2 (Some second) a.second weights' memory.weights sets' memory.sets)
    (ranks : ranking.sheet.words ≡ n) (begins : (memory : MemoryParts K) (arcs : Arcs K) → HoldsArcs worth ranges n memory.weights memory.sets arcs → StandsFor worth ranges ranking memory arcs [])
    (first_told : a.first ≡ checked (put_check n (length weights) (length sets) 0 1 (entry_in ranges (worth first)))) (second_told : a.second ≡ checked (put_check n (length weights') (length sets') 1 2 (entry_in ranges (worth second))))
    (long : length weights ≡ lent.weights) (long' : length weights' ≡ lent.weights) (sized : length sets ≡ lent.sets) (sized' : length sets' ≡ lent.sets) (same : part_lengths memory ≡ lent) (same' : part_lengths memory' ≡ lent)
    (enough : too_short 2 lent ≡ false) (fresh : space ≡ replicate 2 0)
    (takes : Took worth ranges ranking ranking' memory memory' space a.heads a.taken)
    (ended : m ≡ ranking'.sheet.words) (ends : (memory : MemoryParts K) (arcs : Arcs K) (ts : List (List ℕ)) → StandsFor worth ranges ranking' memory arcs ts → HoldsArcs worth ranges m memory.weights memory.sets arcs)
    (strikes : ArcChanged worth ranges m 1 2 None a.struck memory'.weights memory'.weights memory'.sets sets'')
    (strike_told : a.struck ≡ checked (strike_check m (length memory'.weights) (length memory'.sets) 1 2 (is_some (arcs_in m memory'.weights memory'.sets 1 2))))
  where
    abbrev arcs : Arcs K
    arcs = arcs_put first second a

    words : ranking.sheet.words ≡ 2
    words = ranks ∙ two

    stands : StandsFor worth ranges ranking memory arcs []
    stands = begins memory arcs (puts_second (changed_if_done 0 1 (Some first) a.first no_arcs) (puts_first no_arcs opens))

    wide : too_short 2 (part_lengths memory) ≡ false
    wide = ap (too_short 2) same ∙ enough

    line : m ≡ 2
    line = ended ∙ takes.words ∙ words

    pub kept : Kept worth ranges lent first second a memory'.weights sets''
    kept =
        let room : length space ≡ 2 = ap length fresh in
        let answer = takes.law arcs [] stands in
        let before = ends memory' arcs _ answer.1 in
        let held = strikes arcs before in
        record {
          put_first = first_told ∙ ap checked (put_named n 2 (length weights) lent.weights (length sets) lent.sets 0 1 (entry_in ranges (worth first)) two long sized);
          put_second = second_told ∙ ap checked (put_named n 2 (length weights') lent.weights (length sets') lent.sets 1 2 (entry_in ranges (worth second)) two long' sized');
          told = subst (λ (k : ℕ). Tells worth k arcs [] (take k a.heads) a.taken) words (answer.0 (rw words wide) (omega arith));
          unwritten = subst (λ (l : List ℕ). OnErr a.taken (a.heads ≡ l)) fresh (no_heads worth ranges ranking ranking' memory memory' space a.heads a.taken takes);
          strikes = strike_told ∙ ap checked (strike_named m 2 (length memory'.weights) lent.weights (length memory'.sets) lent.sets 1 2 _ _ line (ap (λ l. l.weights) same') (ap (λ l. l.sets) same') (ap is_some (before.standing 1 2)));
          held = subst (λ (k : ℕ). HoldsArcs worth ranges k memory'.weights sets'' (changed_if_done 1 2 None a.struck arcs)) line held;
        }
