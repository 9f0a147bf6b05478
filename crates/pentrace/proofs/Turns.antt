-- The turns of a run on a fresh sheet, and the text of what is behind an `open`
use Rattle.console.specs.Answers.{Writes}
use Rattle.pentrace.specs.Script.{RunOf, SheetText, TurnsOf, opens, score_ranges}
use Rattle.pentrace.specs.Texts.{Line, lines_text, open_text, refusal_text}
use Rattle.ranking.specs.Memory.{MemoryParts}
use Rattle.refusal.specs.declared.Refusal.TheVariants.{ShortMemory, WordCount}
use Rattle.refusal.specs.declared.Refusal.{Refusal}
use Rattle.run.specs.Law.{Keeps}
use Rattle.run.specs.Steps.{Ran, run_check}
use Rattle.run.specs.declared.Call.{Call}
use Rattle.run.specs.declared.Turn.{Turn}
use Rattle.sheet.specs.Calls.{Answered, or_else, refuse_if, too_short}
use Rattle.sheet.specs.declared.Lengths.{Lengths}
use Rattle.std.proofs.Common.{◌≡◌, ◌++◌, ℕ, ◌+◌, ◌-◌, ◌*◌, ◌≤◌, Bool, true, false, not, cond, ◌||◌, ltb, eqb, List, [], length, reverse, map, take, Result, Ok, Err, Option, Some, None, MatchResult, OnOk, arith, subst, sym, refl, ap, codes}
use Rattle.std.proofs.KnownBytes.{Appends-trans}
use Rattle.std.proofs.Math.Nat.{mul-le-mul}
use Rattle.std.proofs.lemmas.Bool.{false≢true}
use Rattle.std.proofs.lemmas.Bool.Decides.{nat_tests}
use Rattle.std.proofs.lemmas.List.{append-nil, take_all}
use Rattle.std.specs.Global.{Vec}
use Rattle.std.specs.Io.KnownBytes.{Appends}
use Rattle.weight.specs.Numbers.{Score, score_worth}

-- with as many turns as calls all of them are the run's
pub run_of : (words : ℕ) (calls : List (Call Score)) (memory memory' : MemoryParts Score) (turns turns' : List (Turn Score))
    → Ran score_worth score_ranges words [] calls memory memory' turns turns' → length turns' ≡ length calls → RunOf words calls turns'
run_of words calls memory memory' turns turns' ran long =
    let all = take_all (length calls) turns' (omega arith) in
    record {
      noted = subst (λ (ts : List (Turn Score)). map (λ t. t.call) ts ≡ calls) all ran.noted;
      keeps = subst (λ (ts : List (Turn Score)). Keeps score_worth score_ranges words (reverse ts)) all (subst (Keeps score_worth score_ranges words) (append-nil (reverse (take (length calls) turns'))) ran.keeps);
    }

-- memory for 40 words is too short for none of the lines
not_below : (a b : ℕ) → b ≤ a → ltb a b ≡ false
not_below a b h = grind (arith, nat_tests)

square : (n : ℕ) → n ≤ 40 → n * (n + 1) ≤ 1640
square n h = let next : n + 1 ≤ 41 = omega arith in mul-le-mul h next

long_enough : (n : ℕ) (l : Lengths) → l.weights ≡ 1640 → l.sets ≡ 40 → l.candidates ≡ 51 → l.nodes ≡ 41 → l.merges ≡ 39 → l.potentials ≡ 41 → n ≤ 40 → too_short n l ≡ false
long_enough n l w s c d m p h =
    rw (
      not_below l.weights (n * (n + 1)) (omega (arith, square n h)),
      not_below l.sets n (omega arith),
      not_below l.candidates 51 (omega arith),
      not_below l.nodes (n + 1) (omega arith),
      not_below l.merges (n - 1) (omega arith),
      not_below l.potentials (n + 1) (omega arith),
    ) refl

fits : (n : ℕ) → opens n ≡ true → n ≤ 40
fits n h = grind (arith, nat_tests)

beyond : (n : ℕ) → (eqb n 0 || ltb 40 n) ≡ not (opens n)
beyond n = grind (arith, nat_tests)

by_test : (test short : Bool) → (test ≡ true → short ≡ false) → or_else (refuse_if (not test) WordCount) (refuse_if short ShortMemory) ≡ cond test None (Some WordCount)
by_test true short h = ap (λ s. refuse_if s ShortMemory) (h refl)
by_test false short h = refl

check : (n : ℕ) (l : Lengths) (calls turns : ℕ) → (n ≤ 40 → too_short n l ≡ false) → turns ≡ calls → run_check n l calls turns ≡ cond (opens n) None (Some WordCount)
check n l calls turns long same = rw (not_below turns calls (omega arith), beyond n) (by_test (opens n) (too_short n l) (λ h. long (fits n h)))

told : {U : Type 0} (test : Bool) (result : Result U Refusal) (unchanged done : Type 0) → Answered (cond test None (Some WordCount)) result unchanged done
    → MatchResult result (λ _. (test ≡ true) × done) (λ why. (test ≡ false) × (why ≡ WordCount))
told true (Ok u) unchanged done h = (refl, h.1)
told true (Err why) unchanged done h = absurd (false≢true h.0)
told false (Ok u) unchanged done h = absurd cc
told false (Err why) unchanged done h = (refl, cc)

-- a run in memory for 40 words, with a turn for each call, is refused just where the sheet does not open
pub opened_by : {U : Type 0} (n : ℕ) (l : Lengths) (calls turns : ℕ) (result : Result U Refusal) (unchanged done : Type 0)
    → l.weights ≡ 1640 → l.sets ≡ 40 → l.candidates ≡ 51 → l.nodes ≡ 41 → l.merges ≡ 39 → l.potentials ≡ 41 → turns ≡ calls
    → Answered (run_check n l calls turns) result unchanged done → MatchResult result (λ _. (opens n ≡ true) × done) (λ why. (opens n ≡ false) × (why ≡ WordCount))
opened_by n l calls turns result unchanged done w s c d m p same h =
    told (opens n) result unchanged done (subst (λ (o : Option Refusal). Answered o result unchanged done) (check n l calls turns (long_enough n l w s c d m p) same) h)

-- the `open` with its answer, and then the lines
pub sheet_done : {E : Type 0} (words : ℕ) (lines : List Line) (turns : Vec (Turn Score)) (held holds longer : Option (List ℕ)) (open' : List ℕ) (result : Result (Unit {0}) E)
    → TurnsOf words lines (Ok turns) → open' ≡ open_text words (codes "done") → Appends held holds open' → OnOk result (Appends holds longer (lines_text words lines turns.items))
    → OnOk result (Writes held longer (SheetText (opens words) words lines))
sheet_done words lines turns held holds longer open' (Err e) t is a b = tt
sheet_done words lines turns held holds longer open' (Ok u) t is a b =
    let rest = lines_text words lines turns.items in (
      open' ++ rest,
      subst (λ (test : Bool). SheetText test words lines (open' ++ rest)) (sym t.0) (turns.items, t.1, ap (λ o. o ++ rest) is),
      Appends-trans held holds longer open' rest a b,
    )

pub sheet_refused : {E : Type 0} (words : ℕ) (lines : List Line) (why : Refusal) (held holds longer : Option (List ℕ)) (open' : List ℕ) (result : Result (Unit {0}) E)
    → TurnsOf words lines (Err why) → open' ≡ open_text words (refusal_text why) → Appends held holds open' → OnOk result (Appends holds longer (lines_text words lines []))
    → OnOk result (Writes held longer (SheetText (opens words) words lines))
sheet_refused words lines why held holds longer open' (Err e) t is a b = tt
sheet_refused words lines why held holds longer open' (Ok u) t is a b =
    let rest = lines_text words lines [] in (
      open' ++ rest,
      subst (λ (test : Bool). SheetText test words lines (open' ++ rest)) (sym t.0)
          (ap (λ o. o ++ rest) (subst (λ (e : Refusal). open' ≡ open_text words (refusal_text e)) t.1 is)),
      Appends-trans held holds longer open' rest a b,
    )
