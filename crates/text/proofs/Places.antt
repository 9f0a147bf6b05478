use Rattle.std.proofs.Common.{◌≡◌, ℕ, suc, ◌+◌, ◌/◌, ◌%◌, ◌^◌, ◌<◌, ◌≤◌, ⊎_elim, List, [], ◌∷◌, ◌++◌, length, take, drop, set, Ok, decimal, sym, refl, ap, ◌∙◌, append_assoc, arith, length-append, length-drop, take-append-drop, length-take-le}
use lib.Seq.{set_split}
use Rattle.std.proofs.lemmas.Bool.{cases_lt}
use Rattle.std.proofs.lemmas.Fmt.{decimal_digit, decimal_step, length-decimal-le}
use Rattle.std.proofs.lemmas.List.{take_at, drop_at, drop-drop}
use Rattle.text.specs.Space.{written, Placed}

pub length_one : (n : ℕ) → n < 10 → length (decimal n) ≡ 1
length_one n h = ap length (decimal_digit n h)

pub length_more : (n : ℕ) → 10 ≤ n → n < 2 ^ 64 → length (decimal n) ≡ length (decimal (n / 10)) + 1
length_more n h f = ap length (decimal_step n h f) ∙ length-append (decimal (n / 10)) ((48 + n % 10) ∷ [])

pub few_digits : (n : ℕ) → n < 2 ^ 64 → length (decimal n) ≤ 20
few_digits n h = length-decimal-le 20 n (omega arith) (omega arith) h

pub length_written : (s : List ℕ) (at : ℕ) (t : List ℕ) → at + length t ≤ length s → length (written s at t) ≡ length s
length_written s at t h = simp (length-append, length-drop) (let e : length (take at s) ≡ at = length-take-le at s (omega arith) in omega arith)

-- one text after another
pub written_two : (s : List ℕ) (at : ℕ) (t u : List ℕ) (k : ℕ) → at + length t ≡ k → k + length u ≤ length s → written (written s at t) k u ≡ written s at (t ++ u)
written_two s at t u k e h =
    let front = take at s in
    let rest = drop (at + length t) s in
    let group : front ++ (t ++ rest) ≡ (front ++ t) ++ rest = sym (append_assoc front t rest) in
    let long : length (front ++ t) ≡ k = simp length-append (let f : length (take at s) ≡ at = length-take-le at s (omega arith) in omega arith) in
    let first : take k (front ++ (t ++ rest)) ≡ front ++ t = ap (take k) group ∙ take_at (front ++ t) rest k long in
    let cut : drop k (front ++ (t ++ rest)) ≡ rest = ap (drop k) group ∙ drop_at (front ++ t) rest k long in
    let place : at + length t + length u ≡ at + length (t ++ u) = omega (arith, length-append t u) in
    let second : drop (k + length u) (front ++ (t ++ rest)) ≡ drop (at + length (t ++ u)) s = sym (drop-drop (length u) k (front ++ (t ++ rest))) ∙ ap (drop (length u)) cut ∙ drop-drop (length u) (at + length t) s ∙ ap (λ n. drop n s) place in
    ap (λ l. l ++ (u ++ drop (k + length u) (front ++ (t ++ rest)))) first ∙ ap (λ l. (front ++ t) ++ (u ++ l)) second ∙ append_assoc front t (u ++ drop (at + length (t ++ u)) s) ∙ ap (λ l. front ++ l) (sym (append_assoc t u (drop (at + length (t ++ u)) s)))

pub written_one : (s : List ℕ) (k b : ℕ) → k < length s → set s k b ≡ written s k (b ∷ [])
written_one s k b h = let e : suc k ≡ k + 1 = omega arith in set_split s k b h ∙ ap (λ n. take k s ++ (b ∷ drop n s)) e

pub written_byte : (s : List ℕ) (at : ℕ) (t : List ℕ) (b k : ℕ) → at + length t ≡ k → k < length s → set (written s at t) k b ≡ written s at (t ++ (b ∷ []))
written_byte s at t b k e h =
    let same = length_written s at t (omega arith) in
    written_one (written s at t) k b (omega arith) ∙ written_two s at t (b ∷ []) k e (omega arith)

pub written_none : (s : List ℕ) (at : ℕ) → written s at [] ≡ s
written_none s at = let z : at + 0 ≡ at = omega arith in ap (λ k. take at s ++ drop k s) z ∙ take-append-drop at s

-- a mark, a text behind it, and then the rest
pub mark_then : (s next : List ℕ) (at end m : ℕ) (t rest : List ℕ) → next ≡ written (set s at m) (at + 1) t → end ≡ at + 1 + length t → at + (1 + length t + length rest) ≤ length s → written next end rest ≡ written s at (m ∷ (t ++ rest))
mark_then s next at end m t rest is e h =
    let h0 : at < length s = omega arith in
    let h1 : at + 1 + length t ≤ length s = omega arith in
    let place : at + suc (length t) ≡ end = omega arith in
    let h2 : end + length rest ≤ length s = omega arith in
    ap (λ l. written l end rest) (is ∙ ap (λ l. written l (at + 1) t) (written_one s at m h0) ∙ written_two s at (m ∷ []) t (at + 1) refl h1)
    ∙ written_two s at (m ∷ t) rest end place h2

-- an accepted call wrote the text
pub placed_ok : (t s : List ℕ) (at end : ℕ) (after : List ℕ) → Placed t s at (Ok end) after → (end ≡ at + length t) × (after ≡ written s at t)
placed_ok t s at end after p = ⊎_elim
    (λ short. let no = (p.short short).0 in ((cc), (cc)))
    (λ fits. let yes = (p.fits fits).0 in ((cc), (p.fits fits).1))
    (cases_lt (length s) (at + length t))
