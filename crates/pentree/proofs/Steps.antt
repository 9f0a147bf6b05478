-- The texts of the programs' loops, step by step.
use Rattle.std.proofs.Common.{◌≡◌, ℕ, ◌+◌, ◌-◌, ◌*◌, ◌<◌, ◌≤◌, inl, inr, Bool, true, false, ◌||◌, eqb, ltb, List, [], ◌∷◌, ◌++◌, length, take, drop, slice_index, codes, decimal, Option, None, Some, Result, Ok, Err, IfOk, refl, sym, ap, ◌∙◌, arith, append_assoc, take_all, ℤ, pos, subst}
use Rattle.refusal.specs.declared.Refusal.TheVariants.{ShortMemory, WordCount}
use Rattle.refusal.specs.declared.Refusal.{Refusal}
use Rattle.search.specs.Answer.{FirstRefusal, LineOfWords}
use Rattle.search.specs.State.{Room}
use Rattle.sheet.proofs.Tables.{passes}
use Rattle.sheet.specs.Arcs.{Arcs, ArcChanged, HoldsArcs, changed_if_done}
use Rattle.sheet.specs.Calls.{Answered, checked, open_check, put_check, refuse_if, too_short}
use Rattle.sheet.specs.declared.Lengths.{Lengths}
use Rattle.std.proofs.Math.Nat.{mul-le-mul}
use Rattle.std.proofs.lemmas.Bool.Decides.{nat_tests}
use Rattle.std.proofs.lemmas.Bool.{le-leb}
use Rattle.weight.specs.Numbers.{Score, score_worth, single}
use Rattle.weight.specs.Range.{entry_in}
use Rattle.pentree.specs.Texts.{PutsHeld, arc_text, arcs_told, head_lines, put_told, put_arc, puts_text, score_ranges}

-- one head more
pub head_more : (text longer all rest : List ℕ) (w : ℕ) → 1 ≤ length rest
    → longer ≡ text ++ (codes "head of " ++ (decimal w ++ (codes ": " ++ (decimal (slice_index rest 0) ++ codes "\n"))))
    → text ++ head_lines w rest ≡ all → longer ++ head_lines (w + 1) (take (length rest - 1) (drop 1 rest)) ≡ all
head_more text longer all [] w some grown so = absurd (omega arith)
head_more text longer all (h ∷ hs) w some grown so =
    ap (λ l. longer ++ head_lines (w + 1) l) (take_all (length (h ∷ hs) - 1) hs (omega arith)) ∙ ap (λ l. l ++ head_lines (w + 1) hs) grown ∙ regroup ∙ so
  where
    regroup : (text ++ (codes "head of " ++ (decimal w ++ (codes ": " ++ (decimal h ++ codes "\n"))))) ++ head_lines (w + 1) hs ≡ text ++ head_lines w (h ∷ hs)
    regroup = simp append_assoc

-- ---- the puts

-- one put more
pub puts_more : (words : ℕ) (text longer all rest : List ℕ) (answer : Result (Unit {0}) Refusal) → 3 ≤ length rest → answer ≡ put_told words (slice_index rest 0) (slice_index rest 1)
    → longer ≡ text ++ arc_text (slice_index rest 0) (slice_index rest 1) (slice_index rest 2) answer
    → text ++ puts_text words rest ≡ all → longer ++ puts_text words (take (length rest - 3) (drop 3 rest)) ≡ all
puts_more words text longer all [] answer whole is grown so = absurd (omega arith)
puts_more words text longer all (h ∷ []) answer whole is grown so = absurd (omega arith)
puts_more words text longer all (h ∷ d ∷ []) answer whole is grown so = absurd (omega arith)
puts_more words text longer all (h ∷ d ∷ s ∷ more) answer whole is grown so =
    ap (λ l. longer ++ puts_text words l) (take_all (length (h ∷ d ∷ s ∷ more) - 3) more (omega arith)) ∙ ap (λ l. l ++ puts_text words more) (grown ∙ ap (λ r. text ++ arc_text h d s r) is)
    ∙ append_assoc text (arc_text h d s (put_told words h d)) (puts_text words more) ∙ so

after_one : (words : ℕ) (rest : List ℕ) (arcs : Arcs Score) → 3 ≤ length rest
    → arcs_told words rest arcs ≡ arcs_told words (take (length rest - 3) (drop 3 rest)) (put_arc words (slice_index rest 0) (slice_index rest 1) (slice_index rest 2) arcs)
after_one words [] arcs whole = absurd (omega arith)
after_one words (h ∷ []) arcs whole = absurd (omega arith)
after_one words (h ∷ d ∷ []) arcs whole = absurd (omega arith)
after_one words (h ∷ d ∷ s ∷ more) arcs whole = ap (λ l. arcs_told words l (put_arc words h d s arcs)) (sym (take_all (length (h ∷ d ∷ s ∷ more) - 3) more (omega arith)))

score_is : (weight : Score) (v : ℤ) → score_worth weight ≡ v ∷ [] → weight ≡ single v
score_is weight v e = let same : weight.value ≡ v = cc in ap single same

pub held_more : (words : ℕ) (rest : List ℕ) (h d : ℕ) (weight : Score) (answer : Result (Unit {0}) Refusal) (weights weights' last : List Score) (sets sets' ends : List ℕ) → 3 ≤ length rest
    → h ≡ slice_index rest 0 → d ≡ slice_index rest 1 → score_worth weight ≡ pos (slice_index rest 2) ∷ [] → answer ≡ put_told words (slice_index rest 0) (slice_index rest 1)
    → ArcChanged score_worth score_ranges words h d (Some weight) answer weights weights' sets sets'
    → PutsHeld words (take (length rest - 3) (drop 3 rest)) weights' last sets' ends → PutsHeld words rest weights last sets ends
held_more words rest h d weight answer weights weights' last sets sets' ends whole head dependent is answered put more arcs held =
    let now = put_arc words (slice_index rest 0) (slice_index rest 1) (slice_index rest 2) arcs in
    let same : changed_if_done h d (Some weight) answer arcs ≡ now = rw (head, dependent, score_is weight _ is, answered) refl in
    let next = subst (λ (a : Arcs Score). HoldsArcs score_worth score_ranges words weights' sets' a) same (put arcs held) in
    subst (λ (a : Arcs Score). HoldsArcs score_worth score_ranges words last ends a) (sym (after_one words rest arcs whole)) (more now next)

pub none_put : (words : ℕ) (rest : List ℕ) (weights : List Score) (sets : List ℕ) → length rest < 3 → PutsHeld words rest weights weights sets sets
none_put words [] weights sets few arcs held = held
none_put words (x ∷ []) weights sets few arcs held = held
none_put words (x ∷ y ∷ []) weights sets few arcs held = held
none_put words (x ∷ y ∷ z ∷ zs) weights sets few arcs held = absurd (omega arith)

-- a byte is an entry
byte_in : (s : ℕ) → s < 256 → entry_in score_ranges (pos s ∷ []) ≡ true
byte_in s low = rw (le-leb s 1000000 (omega (arith, low))) refl

pub byte_entry : (s : ℕ) (weight : Score) → score_worth weight ≡ pos s ∷ [] → s < 256 → entry_in score_ranges (score_worth weight) ≡ true
byte_entry s weight is low = ap (entry_in score_ranges) is ∙ byte_in s low

-- a call answers by its checks
answered_by : (check : Option Refusal) (r : Result (Unit {0}) Refusal) (U D : Type 0) → Answered check r U D → r ≡ checked check
answered_by (Some e) r U D a = a.0
answered_by None (Ok u) U D a = refl
answered_by None (Err e) U D a = absurd (cc a.0)

-- a put of an entry answers by the ends of its arc
pub answered_put : (words h d head dependent : ℕ) (entry : Bool) (r : Result (Unit {0}) Refusal) (U D : Type 0) → h ≡ head → d ≡ dependent → entry ≡ true
    → Answered (put_check words 1640 40 h d entry) r U D → r ≡ put_told words head dependent
answered_put words h d head dependent entry r U D first second is a =
    answered_by (put_check words 1640 40 h d entry) r U D a ∙ (rw (first, second, is) refl)

-- fewer than three numbers are no whole arc
pub none_left : (words : ℕ) (rest : List ℕ) → length rest ≡ 0 → [] ≡ puts_text words rest
none_left words [] none = refl
none_left words (x ∷ xs) none = absurd (omega arith)

pub some_left : (words : ℕ) (rest : List ℕ) → 0 < length rest → length rest < 3 → codes "no whole arc at the end\n" ≡ puts_text words rest
some_left words [] some few = absurd (omega arith)
some_left words (x ∷ []) some few = refl
some_left words (x ∷ y ∷ []) some few = refl
some_left words (x ∷ y ∷ z ∷ zs) some few = absurd (omega arith)

pub if_ok : {T E : Type 0} (P Q : T → Type 0) (r : Result T E) → ((x : T) → P x → Q x) → IfOk r P → IfOk r Q
if_ok P Q (Ok x) f p = f x p
if_ok P Q (Err e) f p = tt

-- the words, the arcs and what was found
pub joined : (third second first s3 s2 found puts line told : List ℕ) → third ≡ second ++ s3 → second ≡ first ++ s2 → s3 ≡ found → s2 ≡ puts → puts ≡ told → first ≡ line
    → third ≡ line ++ (told ++ found)
joined third second first s3 s2 found puts line told e3 e2 v3 v2 p t =
    e3 ∙ ap (λ l. l ++ s3) (e2 ∙ ap (λ l. l ++ s2) t ∙ ap (λ l. line ++ l) (v2 ∙ p)) ∙ ap (λ l. (line ++ told) ++ l) v3 ∙ append_assoc line told found

-- a search of a line of words on this memory is not refused
pub none_refused : (n : ℕ) (why : Refusal) → LineOfWords n → FirstRefusal n (Room n 40 1640 41 39 41) 40 why → ⊥
none_refused n why line (inl words) = words.1 line
none_refused n why line (inr (inl room)) = room.1.1 (record { sets_in = line.1; weights_in = square n line.1; nodes_in = omega (arith, line.1); merges_in = omega (arith, line.1); potentials_in = omega (arith, line.1) })
  where
    square : (n : ℕ) → n ≤ 40 → n * (n + 1) ≤ 1640
    square n few = let next : n + 1 ≤ 41 = omega (arith, few) in mul-le-mul few next
none_refused n why line (inr (inr space)) = absurd (omega (arith, line.1, space.1.1.1))

-- a number of words that opens a sheet
pub line_of : (n : ℕ) (l : Lengths) → open_check n l ≡ None → LineOfWords n
line_of n l none = let few : (eqb n 0 || ltb 40 n) ≡ false = (passes (eqb n 0 || ltb 40 n) WordCount (refuse_if (too_short n l) ShortMemory) none).0 in grind (arith, nat_tests, few)

-- an opening that is done passed its checks
pub open_ok : {T : Type 0} (check : Option Refusal) (sheet : T) (U D : Type 0) → Answered check (Ok sheet) U D → (check ≡ None) × D
open_ok None sheet U D done = (refl, done.1)
open_ok (Some e) sheet U D done = absurd (cc done.0)

-- a list of numbers is its first, and the others
pub first_and_rest : (numbers : List ℕ) → 1 ≤ length numbers → numbers ≡ slice_index numbers 0 ∷ take (length numbers - 1) (drop 1 numbers)
first_and_rest [] some = absurd (omega arith)
first_and_rest (x ∷ xs) some = ap (λ l. x ∷ l) (sym (take_all (length (x ∷ xs) - 1) xs (omega arith)))
