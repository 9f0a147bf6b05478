-- Counts by a test, and how often a tree was taken.
use Rattle.std.proofs.Common.{◌≡◌, ℕ, ◌+◌, ◌≤◌, Bool, true, false, cond, T, ◌⊎◌, List, [], ◌∷◌, length, count_by, sym, refl, ap, subst, inl, inr, arith}
use Rattle.std.specs.List.{AllByRecursion}
use Rattle.std.specs.Str.{bytes_eq}
use Rattle.std.proofs.lemmas.Slice.Eq.{bytes_eq-Decides}
use Rattle.queue.proofs.Counting.{as_many, count_cons}
use Rattle.weight.specs.Worth.{Worth, at_most, AtMost}
use Rattle.cells.specs.Accounts.{Among, times}

-- of those that a test counts one can be had, with what holds of all
pub counted : {X : Type 0} (p : X → Bool) (Q : X → Type 0) (R : Type 0) (xs : List X) → AllByRecursion Q xs → ((x : X) → Q x → p x ≡ true → R) → 1 ≤ count_by p xs → R
counted p Q R [] h then le = absurd (omega arith)
counted p Q R (x ∷ xs) h then le = by (p x) refl (counted p Q R xs h.1 then)
  where
    by : (b : Bool) → p x ≡ b → (1 ≤ count_by p xs → R) → R
    by true e more = then x h.0 e
    by false e more =
        let c = count_cons p x xs in
        let z = as_many (p x) false e in
        more (omega arith)

pub among_times : (t : List ℕ) (ts : List (List ℕ)) → Among t ts → 1 ≤ times t ts
among_times t [] m = absurd m
among_times t (x ∷ ts) (inl e) =
    let c = count_cons (bytes_eq t) x ts in
    let y = as_many (bytes_eq t x) true ((bytes_eq-Decides t x).1 e) in
    omega arith
among_times t (x ∷ ts) (inr m) =
    let c = count_cons (bytes_eq t) x ts in
    omega (arith, among_times t ts m)

pub times_among : (t : List ℕ) (ts : List (List ℕ)) → 1 ≤ times t ts → Among t ts
times_among t [] le = absurd (omega arith)
times_among t (x ∷ ts) le = by (bytes_eq t x) refl (times_among t ts)
  where
    by : (b : Bool) → bytes_eq t x ≡ b → (1 ≤ times t ts → Among t ts) → (t ≡ x) ⊎ Among t ts
    by true e more = inl ((bytes_eq-Decides t x).0 e)
    by false e more =
        let c = count_cons (bytes_eq t) x ts in
        let z = as_many (bytes_eq t x) false e in
        inr (more (omega arith))

true_from : (b : Bool) → T b → b ≡ true
true_from true h = refl
true_from false h = absurd h

pub test_at_most : (a b : Worth) → AtMost a b → at_most a b ≡ true
test_at_most a b h = true_from (at_most a b) h.holds

pub at_most_test : (a b : Worth) → at_most a b ≡ true → AtMost a b
at_most_test a b e = record { holds = subst T (sym e) tt }
