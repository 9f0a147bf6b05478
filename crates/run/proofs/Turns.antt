-- Single turns of a run.
use Rattle.std.proofs.Common.{◌≡◌, ℕ, ◌+◌, ◌-◌, ◌*◌, ◌<◌, ◌≤◌, min, true, false, not, ltb, ◌⊎◌, List, ◌++◌, length, drop, replicate, is_some, Some, None, Ok, Err, Option, Result, sym, refl, ap, ◌∙◌, inl, inr, arith}
use Rattle.ranking.specs.Calls.{part_lengths, take_check, SameBeyond, Took}
use Rattle.ranking.specs.Memory.{MemoryParts, StandsFor}
use Rattle.ranking.specs.declared.state.Ranking.{Ranking}
use Rattle.ranking.specs.declared.state.Taken.{Taken}
use Rattle.refusal.specs.declared.Refusal.TheVariants.{NoEntry, AbsentArc, ShortSpace}
use Rattle.refusal.specs.declared.Refusal.{Refusal}
use Rattle.run.specs.Law.{arcs_after, taken_after, ranks_after, answer_by, TakeAnswers, Answers}
use Rattle.run.specs.Steps.{told_by, SameRest, Stepped}
use Rattle.run.specs.declared.Answer.TheVariants.{Done, Handed, Refused, Misplaced}
use Rattle.run.specs.declared.Answer.{Answer}
use Rattle.run.specs.declared.Call.TheVariants.{Put, Strike, Take, End}
use Rattle.run.specs.declared.Call.{Call}
use Rattle.run.specs.declared.State.TheVariants.{Open, Ranked}
use Rattle.run.specs.declared.State.{State}
use Rattle.sheet.specs.Arcs.{ArcChanged, Arcs, arcs_in, HoldsArcs, with_arc}
use Rattle.sheet.specs.Calls.{or_else, refuse_if, memory_check, arc_check, put_check, strike_check, too_short, Answered, Holds}
use Rattle.sheet.specs.declared.Sheet.{Sheet}
use Rattle.std.proofs.lemmas.List.{take-append-le, drop-append-le, drop-replicate}
use Rattle.std.proofs.lemmas.Bool.{cases_lt, lt-ltb, or_parts}
use Rattle.weight.specs.Range.{Range, entry_in}
use Rattle.weight.specs.Worth.{Worth}

pub same_all : {K : Type 0} (n : ℕ) (memory : MemoryParts K) → SameRest n memory memory
same_all n memory = record { weights = refl; sets = refl; others = record { candidates = refl; nodes = refl; merges = refl; potentials = refl } }

module _ {K : Type 0} (worth : K → Worth) (ranges : List Range) where
  pub step_as : (state state' : State K) (memory memory' : MemoryParts K) (call call' : Call K) (a a' : Answer K) → call ≡ call' → a ≡ a' → Stepped worth ranges state state' memory memory' call' a' → Stepped worth ranges state state' memory memory' call a
  step_as state state' memory memory' call call' a a' p q s = rw (p, q) s

  -- a call that has no place in a ranking
  pub misplaced : (ranking : Ranking K) (memory : MemoryParts K) (call : Call K) → ((s : ℕ) → call ≡ Take s → ⊥) → (call ≡ End → ⊥) → Stepped worth ranges (Ranked ranking) (Ranked ranking) memory memory call Misplaced
  misplaced ranking memory (Take s) a b = absurd (a s refl)
  misplaced ranking memory End a b = absurd (b refl)
  misplaced ranking memory _ a b = record { words = refl; ranking = refl; rest = same_all _ memory; law = λ arcs ts enough st. (refl, st) }

  module _ (sheet : Sheet K) (memory memory' : MemoryParts K) (h d : ℕ) where
    abbrev n : ℕ
    n = sheet.words

    long : too_short sheet.words (part_lengths memory) ≡ false → memory_check sheet.words (length memory.weights) (length memory.sets) ≡ None
    long enough =
        let a = or_parts (ltb (length memory.weights) (sheet.words * (sheet.words + 1))) _ enough in
        let b = or_parts (ltb (length memory.sets) sheet.words) _ a.1 in
        rw (a.0, b.0) refl

    -- a put or a strike: where no check fails the arc gets w
    module _ (others : SameBeyond sheet.words memory memory') (call : Call K) (w : Option K) (check : Option Refusal) where
      arc_turn :
          ((a : Answer K) → ranks_after call a false ≡ false) → ((arcs : Arcs K) → arcs_after call Done arcs ≡ with_arc h d w arcs) → ((e : Refusal) (arcs : Arcs K) → arcs_after call (Refused e) arcs ≡ arcs) →
          ((arcs : Arcs K) (ts : List (List ℕ)) → too_short sheet.words (part_lengths memory) ≡ false → HoldsArcs worth ranges sheet.words memory.weights memory.sets arcs → Answers worth ranges sheet.words arcs ts false call (answer_by check)) →
          (as-was : Type 0) → (as-was → (memory'.weights ≡ memory.weights) × (memory'.sets ≡ memory.sets)) → (r : Result (Unit {0}) Refusal) →
          Answered check r as-was (Holds sheet.words (with_arc h d w (arcs_in sheet.words memory.weights memory.sets)) memory.weights memory'.weights memory.sets memory'.sets) →
          ArcChanged worth ranges sheet.words h d w r memory.weights memory'.weights memory.sets memory'.sets → Stepped worth ranges (Open sheet) (Open sheet) memory memory' call (told_by r)
      arc_turn still done kept law as-was same r answered changed = by check refl r answered changed
        where
          by : (o : Option Refusal) → check ≡ o → (r : Result (Unit {0}) Refusal) → Answered o r as-was (Holds sheet.words (with_arc h d w (arcs_in sheet.words memory.weights memory.sets)) memory.weights memory'.weights memory.sets memory'.sets) →
              ArcChanged worth ranges sheet.words h d w r memory.weights memory'.weights memory.sets memory'.sets → Stepped worth ranges (Open sheet) (Open sheet) memory memory' call (told_by r)
          by None e (Ok u) a new = record {
            words = refl;
            ranking = sym (still Done);
            rest = record { weights = a.1.weights_beyond; sets = a.1.sets_beyond; others = others };
            law = λ arcs ts enough old. (rw e at (law arcs ts enough old), rw (done arcs) (new arcs old));
          }
          by None e (Err v) a new = absurd (let z = a.0 in cc)
          by (Some v) e (Ok u) a new = absurd (let z = a.0 in cc)
          by (Some v) e (Err x) a new =
              let p = same a.1 in
              let s : x ≡ v = let z = a.0 in cc in
              record {
                words = refl;
                ranking = sym (still (Refused x));
                rest = record { weights = ap (drop (sheet.words * (sheet.words + 1))) p.0; sets = ap (drop sheet.words) p.1; others = others };
                law = λ arcs ts enough old. (rw s (rw e at (law arcs ts enough old)), rw (kept x arcs) (new arcs old));
              }

    pub put_turn : SameBeyond sheet.words memory memory' → (k : K) (r : Result (Unit {0}) Refusal) →
        Answered (put_check sheet.words (length memory.weights) (length memory.sets) h d (entry_in ranges (worth k))) r ((memory'.weights ≡ memory.weights) × (memory'.sets ≡ memory.sets))
        (Holds sheet.words (with_arc h d (Some k) (arcs_in sheet.words memory.weights memory.sets)) memory.weights memory'.weights memory.sets memory'.sets) →
        ArcChanged worth ranges sheet.words h d (Some k) r memory.weights memory'.weights memory.sets memory'.sets → Stepped worth ranges (Open sheet) (Open sheet) memory memory' (Put h d k) (told_by r)
    put_turn others k r answered changed =
        arc_turn others (Put h d k) (Some k) (put_check sheet.words (length memory.weights) (length memory.sets) h d (entry_in ranges (worth k)))
        (λ a. refl) (λ arcs. refl) (λ e arcs. refl)
        (λ arcs ts enough old. ap (λ (o : Option Refusal). answer_by {K = K} (or_else (or_else o (arc_check sheet.words h d)) (refuse_if (not (entry_in ranges (worth k))) NoEntry))) (long enough))
        ((memory'.weights ≡ memory.weights) × (memory'.sets ≡ memory.sets)) (λ p. p) r answered changed

    pub strike_turn : SameBeyond sheet.words memory memory' → memory'.weights ≡ memory.weights → (r : Result (Unit {0}) Refusal) →
        Answered (strike_check sheet.words (length memory.weights) (length memory.sets) h d (is_some (arcs_in sheet.words memory.weights memory.sets h d))) r (memory'.sets ≡ memory.sets)
        (Holds sheet.words (with_arc h d None (arcs_in sheet.words memory.weights memory.sets)) memory.weights memory'.weights memory.sets memory'.sets) →
        ArcChanged worth ranges sheet.words h d None r memory.weights memory'.weights memory.sets memory'.sets → Stepped worth ranges (Open sheet) (Open sheet) memory memory' (Strike h d) (told_by r)
    strike_turn others same r answered changed =
        arc_turn others (Strike h d) None (strike_check sheet.words (length memory.weights) (length memory.sets) h d (is_some (arcs_in sheet.words memory.weights memory.sets h d)))
        (λ a. refl) (λ arcs. refl) (λ e arcs. refl)
        (λ arcs ts enough old.
        ap (λ (o : Option Refusal). answer_by {K = K} (or_else (or_else o (arc_check sheet.words h d)) (refuse_if (not (is_some (arcs_in sheet.words memory.weights memory.sets h d))) AbsentArc))) (long enough)
        ∙ ap (λ (o : Option K). answer_by {K = K} (or_else (arc_check sheet.words h d) (refuse_if (not (is_some o)) AbsentArc))) (old.standing h d))
        (memory'.sets ≡ memory.sets) (λ p. (same, p)) r answered changed

  -- a take into the first `lent` of 40 zeros, where s bytes were asked for
  module _
      (ranking ranking' : Ranking K) (memory memory' : MemoryParts K) (s lent : ℕ) (lends : lent ≡ min s 40) (space space' rest : List ℕ) (long : length space ≡ lent) (long' : length space' ≡ lent)
      (zeros : space ++ rest ≡ replicate 40 0)
    where
      abbrev told : Result (Taken K) Refusal → Answer K
      told (Ok t) = Handed (space' ++ rest) t
      told (Err e) = Refused e

      short : too_short ranking.sheet.words (part_lengths memory) ≡ false → s < ranking.sheet.words → take_check ranking.sheet.words (part_lengths memory) (length space) ranking.taken ≡ Some ShortSpace
      short enough lt = let l : ltb (length space) ranking.sheet.words ≡ true = lt-ltb _ _ (omega arith) in rw (enough, l) refl

      beyond : ranking.sheet.words ≤ s → drop ranking.sheet.words space' ≡ drop ranking.sheet.words space → drop ranking.sheet.words (space' ++ rest) ≡ replicate (40 - ranking.sheet.words) 0
      beyond le same =
          let few = ranking.sheet.line.1 in
          drop-append-le ranking.sheet.words space' rest (omega arith)
          ∙ (ap (λ (xs : List ℕ). xs ++ rest) same ∙ sym (drop-append-le ranking.sheet.words space rest (omega arith)))
          ∙ (ap (drop ranking.sheet.words) zeros ∙ drop-replicate ranking.sheet.words 40 0)

      by :
          (arcs : Arcs K) (ts : List (List ℕ)) (r : Result (Taken K) Refusal) → Took worth ranges ranking ranking' memory memory' space space' r → too_short ranking.sheet.words (part_lengths memory) ≡ false → StandsFor worth ranges ranking memory arcs ts →
          (s < ranking.sheet.words) ⊎ (ranking.sheet.words ≤ s) → TakeAnswers worth ranges ranking.sheet.words arcs ts s (told r) × StandsFor worth ranges ranking' memory' arcs (taken_after ranking.sheet.words (Take s) (told r) ts)
      by arcs ts (Ok t) took enough st (inl lt) = absurd (let z = (took.refused ShortSpace (short enough lt)).0 in cc)
      by arcs ts (Ok t) took enough st (inr le) =
          let few = ranking.sheet.line.1 in
          let l = took.law arcs ts st in
          let front = take-append-le ranking.sheet.words space' rest (omega arith) in
          rw front ((λ lt. absurd (omega arith), λ _. (l.0 enough (omega arith), beyond le took.space_beyond)), l.1)
      by arcs ts (Err e) took enough st cases =
          let few = ranking.sheet.line.1 in
          let l = took.law arcs ts st in (
            (λ lt. let z = (took.refused ShortSpace (short enough lt)).0 in let y : e ≡ ShortSpace = cc in ap Refused y, λ le. l.0 enough (omega arith)),
            l.1,
          )

      pub take_turn : (r : Result (Taken K) Refusal) → Took worth ranges ranking ranking' memory memory' space space' r → Stepped worth ranges (Ranked ranking) (Ranked ranking') memory memory' (Take s) (told r)
      take_turn r took = record {
        words = took.words;
        ranking = refl;
        rest = record { weights = ap (drop _) took.weights; sets = ap (drop _) took.sets; others = took.beyond };
        law = λ arcs ts enough st. let a = by arcs ts r took enough st (cases_lt s ranking.sheet.words) in ((λ q. absurd cc, λ q. a.0), a.1);
      }
