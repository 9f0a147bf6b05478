-- What the counts say in words.
use Rattle.std.proofs.Common.{◌≡◌, ℕ, zero, suc, ◌+◌, ◌<◌, ◌≤◌, Bool, true, false, cond, ◌⊎◌, List, [], ◌∷◌, length, get_or, count_by, refl, inl, inr, arith}
use Rattle.std.specs.List.{AllByRecursion}
use Rattle.std.proofs.lemmas.List.Sums.{get_or-le-sum_by}
use Rattle.std.proofs.lemmas.Bool.{cases_Bool, cases_lt, cases_order}
use Rattle.weight.specs.Worth.{Worth}
use Rattle.arborescence.specs.Heads.{TreeOver, worth_from}
use Rattle.cells.specs.Cells.{pending}
use Rattle.cells.specs.Accounts.{Cell, Among, times, holds, homes, over, Accounted}
use Rattle.cells.specs.Words.{InWords, Worded}
use Rattle.queue.proofs.Counting.{as_many, count_cons, count_none}
use Rattle.cells.proofs.Counts.{among_times, times_among}

not_counted : (b : Bool) → ◌≡◌ {A = ℕ} (cond b 1 0) 0 → b ≡ false
not_counted true e = absurd (omega arith)
not_counted false e = refl

module _ {X : Type 0} (p : X → Bool) where
  count_at : (xs : List X) (i : ℕ) (d : X) → i < length xs → p (get_or xs i d) ≡ true → 1 ≤ count_by p xs
  count_at xs i d l e =
      let a = get_or-le-sum_by (λ x. cond (p x) 1 0) xs i d l in
      let b = as_many (p (get_or xs i d)) true e in
      omega arith

  count_two : (xs : List X) (i j : ℕ) (d : X) → i < j → j < length xs → p (get_or xs i d) ≡ true → p (get_or xs j d) ≡ true → 2 ≤ count_by p xs
  count_two [] i j d l m e f = absurd (omega arith)
  count_two (x ∷ xs) i zero d l m e f = absurd (omega arith)
  count_two (x ∷ xs) zero (suc j) d l m e f =
      let c = count_cons p x xs in
      let b = as_many (p x) true e in
      omega (arith, count_at xs j d (omega arith) f)
  count_two (x ∷ xs) (suc i) (suc j) d l m e f =
      let c = count_cons p x xs in
      omega (arith, count_two xs i j d (omega arith) (omega arith) e f)

  none_counted : (xs : List X) → count_by p xs ≡ 0 → AllByRecursion (λ x. p x ≡ false) xs
  none_counted [] e = tt
  none_counted (x ∷ xs) e = let c = count_cons p x xs in (not_counted (p x) (omega arith), none_counted xs (omega arith))

module _ (n : ℕ) (Tree : List ℕ → Type 0) (value : List ℕ → Worth) {X : Type 0} (view : X → Cell) (limit : ℕ) where
  pub in_words : (ts : List (List ℕ)) (u : Cell) (p : ℕ) (cs : List X) → Accounted n Tree value view limit ts u p cs → InWords n Tree value view limit ts u p cs
  in_words ts u p cs k = record {
    apart = λ t is i j d ne li lj a b. apart t is i j d li lj a b (cases_order i j) ne;
    untaken = λ t is m.
        let a = among_times t ts m in
        let o = k.once t is in
        (none_counted (λ c. holds t (view c)) cs (omega arith), not_counted _ (omega arith));
    aside = λ t is e.
        let a = as_many (pending n u.heads u.from u.banned p t) true e in
        let o = k.once t is in
        none_counted (λ c. holds t (view c)) cs (omega arith);
    found = λ t is. found t (k.found t is) (cases_lt 0 (times t ts)) (cases_Bool (pending n u.heads u.from u.banned p t));
  }
    where
      apart : (t : List ℕ) → Tree t → (i j : ℕ) (d : X) → i < length cs → j < length cs → holds t (view (get_or cs i d)) ≡ true → holds t (view (get_or cs j d)) ≡ true → (i ≡ j) ⊎ ((i < j) ⊎ (j < i)) → (i ≡ j → ⊥) → ⊥
      apart t is i j d li lj a b (inl e) ne = ne e
      apart t is i j d li lj a b (inr (inl l)) ne = let o = k.once t is in omega (arith, count_two (λ c. holds t (view c)) cs i j d l lj a b)
      apart t is i j d li lj a b (inr (inr l)) ne = let o = k.once t is in omega (arith, count_two (λ c. holds t (view c)) cs j i d l li b a)

      found : (t : List ℕ) → (1 ≤ homes n Tree value view ts u p cs t) ⊎ (limit ≤ length ts + over n Tree value view cs t) → (0 < times t ts) ⊎ (times t ts ≤ 0) → (pending n u.heads u.from u.banned p t ≡ true) ⊎ (pending n u.heads u.from u.banned p t ≡ false) →
          Among t ts ⊎ ((pending n u.heads u.from u.banned p t ≡ true) ⊎ ((AllByRecursion (λ c. holds t (view c) ≡ false) cs → ⊥) ⊎ (limit ≤ length ts + over n Tree value view cs t)))
      found t h (inl l) e = inl (times_among t ts l)
      found t h (inr l) (inl e) = inr (inl e)
      found t (inl h) (inr l) (inr e) =
          inr (inr (inl (λ all.
          let c = count_none (λ c. holds t (view c)) cs all in
          let b = as_many (pending n u.heads u.from u.banned p t) false e in
          omega arith)))
      found t (inr h) (inr l) (inr e) = inr (inr (inr h))

pub worded : Worded
worded n limit stands worth ts u p cs k = in_words n (TreeOver n stands) (worth_from worth 1) (λ c. c) limit ts u p cs k
