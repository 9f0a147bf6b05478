-- The partition of a cell.
use Rattle.std.proofs.Common.{◌≡◌, ℕ, zero, suc, ◌+◌, ◌<◌, ◌≤◌, Bool, true, false, cond, not, ◌&&◌, ◌||◌, eqb, leb, ◌⊎◌, List, [], ◌∷◌, length, get_or, Decides, sym, refl, ap, ◌∙◌, subst, inl, inr, arith}
use Rattle.std.specs.List.{common_prefix_len}
use Rattle.std.proofs.lemmas.List.{ext_get_or}
use Rattle.std.proofs.lemmas.Bool.{cases_eq, cases_lt, cases_order, eqb-true, eqb-false, eq-eqb, ne_eqb, le-leb, leb-true, and_parts, not-true, not_from_false, or_parts, or_from, and_left, and_right, and_from}
use Rattle.std.proofs.lemmas.Bool.Decides.{nat_tests, Decides-and}
use Rattle.tree.specs.Chains.{head_of}
use Rattle.cells.specs.Cells.{InCell, bans_at, InSubCell, FirstApart, Parts, Tested, apart_at, in_cell, pending}

-- ---- the first place where two lists differ
alike_same : (xs ys : List ℕ) (i : ℕ) → i < common_prefix_len eqb xs ys → get_or xs i 0 ≡ get_or ys i 0
alike_same [] ys i lt = absurd (omega arith)
alike_same (x ∷ xs) [] i lt = absurd (omega arith)
alike_same (x ∷ xs) (y ∷ ys) zero lt = grind (arith, nat_tests)
alike_same (x ∷ xs) (y ∷ ys) (suc i) lt = alike_same xs ys i (grind (arith, nat_tests))

alike_differs : (xs ys : List ℕ) → length xs ≡ length ys → (i : ℕ) → common_prefix_len eqb xs ys ≡ i → i < length xs → get_or xs i 0 ≡ get_or ys i 0 → ⊥
alike_differs [] ys e i is lt = absurd (omega arith)
alike_differs (x ∷ xs) [] e i is lt = absurd (omega arith)
alike_differs (x ∷ xs) (y ∷ ys) e zero is lt = λ q. grind (arith, nat_tests)
alike_differs (x ∷ xs) (y ∷ ys) e (suc i) is lt = alike_differs xs ys (omega arith) i (grind (arith, nat_tests)) (omega arith)

-- ---- two lists of n heads
module _ (n : ℕ) (heads t : List ℕ) (sized : length heads ≡ n) (sized-t : length t ≡ n) where
  pub same_before : (w : ℕ) → w < apart_at t heads → head_of t w ≡ head_of heads w
  same_before w lt = alike_same (0 ∷ t) (0 ∷ heads) w lt

  pub differs_at : (w : ℕ) → apart_at t heads ≡ w → w ≤ n → head_of t w ≡ head_of heads w → ⊥
  differs_at w e le = alike_differs (0 ∷ t) (0 ∷ heads) (omega arith) w e (omega arith)

  pub apart_from : (p : ℕ) → p ≤ suc n → ((w : ℕ) → w < p → head_of t w ≡ head_of heads w) → p ≤ apart_at t heads
  apart_from p le same = by (cases_lt (apart_at t heads) p)
    where
      by : (apart_at t heads < p) ⊎ (p ≤ apart_at t heads) → p ≤ apart_at t heads
      by (inl l) = absurd (differs_at (apart_at t heads) refl (omega arith) (same (apart_at t heads) l))
      by (inr l) = l

  pub same_all : n < apart_at t heads → t ≡ heads
  same_all lt = ext_get_or 0 t heads (omega arith) (λ i l. same_before (suc i) (omega arith))

  pub apart_all : t ≡ heads → n < apart_at t heads
  apart_all e = apart_from (suc n) (omega arith) (λ w l. ap (λ (s : List ℕ). head_of s w) e)

  -- the test decides what the record says
  pub in_cell_decides : (from : ℕ) (banned : ℕ → Bool) → from ≤ suc n → Decides (in_cell heads from banned t) (InCell heads from banned t)
  in_cell_decides from banned le = (
    λ e.
        let a = and_parts (leb from (apart_at t heads)) (not (banned (head_of t from))) e in
        let f : from ≤ apart_at t heads = leb-true from (apart_at t heads) a.0 in
        record { before = λ w l. same_before w (omega arith); free = not-true (banned (head_of t from)) a.1 },
    λ c. and_from (leb from (apart_at t heads)) (not (banned (head_of t from))) (le-leb from (apart_at t heads) (apart_from from le c.before)) (not_from_false (banned (head_of t from)) c.free),
  )

pub tested : Tested
tested n heads t from p banned sized sized-t low high = (lies, Decides-and (in_cell heads from banned t) (leb p (apart_at t heads) && leb (apart_at t heads) n) lies (Decides-and (leb p (apart_at t heads)) (leb (apart_at t heads) n) agree differ))
  where
    lies : Decides (in_cell heads from banned t) (InCell heads from banned t)
    lies = in_cell_decides n heads t sized sized-t from banned low

    agree : Decides (leb p (apart_at t heads)) ((w : ℕ) → w < p → head_of t w ≡ head_of heads w)
    agree = (λ e w l. same_before n heads t sized sized-t w (omega (arith, leb-true p (apart_at t heads) e)), λ h. le-leb p (apart_at t heads) (apart_from n heads t sized sized-t p high h))

    differ : Decides (leb (apart_at t heads) n) (t ≡ heads → ⊥)
    differ = (λ e q. omega (arith, leb-true (apart_at t heads) n e, apart_all n heads t sized sized-t q), λ h. le-leb (apart_at t heads) n (by h (cases_lt n (apart_at t heads))))
      where
        by : (t ≡ heads → ⊥) → (n < apart_at t heads) ⊎ (apart_at t heads ≤ n) → apart_at t heads ≤ n
        by h (inl l) = absurd (h (same_all n heads t sized sized-t l))
        by h (inr l) = l

pub parts : Parts
parts n heads from banned sized word free = record {
  covers = covers;
  first = λ t p c. record { before = c.before; here = differs t p c };
  only = λ t p q c d. by t p q c d (cases_order p q);
  within = λ t p le c. record { before = λ w l. c.before w (omega arith); free = within t p c (cases_eq p from) (omega arith) };
  without = λ p c. differs heads p c refl;
}
  where
    differs : (t : List ℕ) (p : ℕ) → InSubCell heads from banned p t → head_of t p ≡ head_of heads p → ⊥
    differs t p c = eqb-false (head_of t p) (head_of heads p) (or_parts (eqb (head_of t p) (head_of heads p)) (eqb p from && banned (head_of t p)) c.free).0

    by : (t : List ℕ) (p q : ℕ) → InSubCell heads from banned p t → InSubCell heads from banned q t → (p ≡ q) ⊎ ((p < q) ⊎ (q < p)) → p ≡ q
    by t p q c d (inl e) = e
    by t p q c d (inr (inl l)) = absurd (differs t p c (d.before p l))
    by t p q c d (inr (inr l)) = absurd (differs t q d (c.before q l))

    within : (t : List ℕ) (p : ℕ) → InSubCell heads from banned p t → (p ≡ from) ⊎ (p ≡ from → ⊥) → from ≤ p → banned (head_of t from) ≡ false
    within t p c (inl e) le =
        let f = (or_parts (eqb (head_of t p) (head_of heads p)) (eqb p from && banned (head_of t p)) c.free).1 in
        let q = eq-eqb p from e in
        cc
    within t p c (inr e) le = ap banned (c.before from (omega arith)) ∙ free

    covers : (t : List ℕ) → length t ≡ n → InCell heads from banned t → (t ≡ heads → ⊥) → (p : ℕ) × (from ≤ p) × (p ≤ n) × FirstApart heads t p × InSubCell heads from banned p t
    covers t st c other = go (apart_at t heads) refl (apart_from n heads t sized st from (omega arith) c.before) (cases_lt n (apart_at t heads))
      where
        kept : (p : ℕ) → (p ≡ from) ⊎ (p ≡ from → ⊥) → (eqb p from && banned (head_of t p)) ≡ false
        kept p (inl e) = and_right (eqb p from) (banned (head_of t p)) (ap (λ (v : ℕ). banned (head_of t v)) e ∙ c.free)
        kept p (inr e) = and_left (eqb p from) (banned (head_of t p)) (ne_eqb p from e)

        go : (p : ℕ) → apart_at t heads ≡ p → from ≤ p → (n < p) ⊎ (p ≤ n) → (p : ℕ) × (from ≤ p) × (p ≤ n) × FirstApart heads t p × InSubCell heads from banned p t
        go p e le (inl l) = absurd (other (same_all n heads t sized st (omega arith)))
        go p e le (inr l) =
            let d = differs_at n heads t sized st p e l in
            let same : (w : ℕ) → w < p → head_of t w ≡ head_of heads w = λ w k. same_before n heads t sized st w (omega arith) in
            (p, le, l, record { before = same; here = d }, record { before = same; free = or_from _ _ (ne_eqb _ _ d) (kept p (cases_eq p from)) })

-- ---- the partition, counted: one cell without `heads` is the sub-cell at p and what comes after
module _ (n : ℕ) (heads : List ℕ) (from : ℕ) (banned : ℕ → Bool) (t : List ℕ) (sized : length heads ≡ n) (sized-t : length t ≡ n) where
  split_by : (p d : ℕ) (a b f : Bool) → (p < d → a ≡ true) → (d ≡ p → a ≡ false) → (from < d → b ≡ false) → (p ≡ from → f ≡ b) → from ≤ p → p ≤ n →
      cond ((leb from d && not b) && (leb p d && leb d n)) 1 0 ≡ cond (leb p d && not (a || (eqb p from && f))) 1 0 + cond ((leb from d && not b) && (leb (suc p) d && leb d n)) 1 0
  split_by p d a b f one two three four low high = grind (arith, nat_tests)

  pub split : (p : ℕ) → from ≤ p → p ≤ n → banned (head_of heads from) ≡ false →
      cond (pending n heads from banned p t) 1 0 ≡ cond (in_cell heads p (bans_at heads from banned p) t) 1 0 + cond (pending n heads from banned (suc p) t) 1 0
  split p low high free =
      split_by p (apart_at t heads) (eqb (head_of t p) (head_of heads p)) (banned (head_of t from)) (banned (head_of t p))
      (λ l. eq-eqb _ _ (same_before n heads t sized sized-t p l))
      (λ e. ne_eqb _ _ (differs_at n heads t sized sized-t p e high))
      (λ l. ap banned (same_before n heads t sized sized-t from l) ∙ free)
      (λ e. ap (λ (v : ℕ). banned (head_of t v)) e) low high
