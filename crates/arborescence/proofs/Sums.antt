-- Sums of worths over the words 1..n that pass a test
use Rattle.std.proofs.Common.{◌≡◌, ℕ, zero, suc, ◌+◌, Bool, true, false, cond, not, ◌&&◌, eqb, [], refl, subst, add_assoc, add_comm, zero-add, arith}
use Rattle.std.proofs.lemmas.Bool.{eqb-false, and_parts, not-true}
use Rattle.weight.specs.Worth.{Worth, plus, AtMost}
use Rattle.tree.specs.Chains.{Word}
use Rattle.arborescence.specs.Sum.{sum_if, count_if}
use Rattle.weight.proofs.Worths.{plus_comm, plus_assoc, plus_left_comm, at_most_refl, at_most_trans, at_most_cancel, at_most_plus, at_most_plus_both}
use Rattle.arborescence.proofs.Totals as totals
use Rattle.arborescence.proofs.Totals.{but}

-- `simp sorts` sorts the summands of both sides alike
pub ruleset sorts = (plus_assoc, plus_comm, plus_left_comm)

pub at_most_eq : (a b : Worth) → a ≡ b → AtMost a b
at_most_eq a b e = subst (λ (v : Worth). AtMost a v) e (at_most_refl a)

-- m lies between p and r with b added to both, so in g's bound r may stand for p
pub through : (g p r o b m : Worth) → AtMost g (plus p o) → AtMost (plus p b) m → AtMost m (plus r b) → AtMost g (plus r o)
through g p r o b m h₁ h₂ h₃ = at_most_trans _ _ _ h₁ (at_most_plus p r o (at_most_cancel p r b (at_most_trans _ _ _ h₂ h₃)))

pub sum_same : (p q : ℕ → Bool) (f g : ℕ → Worth) (n : ℕ) → ((w : ℕ) → Word n w → p w ≡ q w) → ((w : ℕ) → Word n w → q w ≡ true → f w ≡ g w) → sum_if p f n ≡ sum_if q g n
sum_same = totals.same plus []

pub sum_split : (p q : ℕ → Bool) (f : ℕ → Worth) (n : ℕ) → sum_if p f n ≡ plus (sum_if (λ w. p w && q w) f n) (sum_if (λ w. p w && not (q w)) f n)
sum_split = totals.split plus [] plus_assoc plus_comm (λ a. refl)

pub sum_out : (p : ℕ → Bool) (f : ℕ → Worth) (n j : ℕ) → Word n j → p j ≡ true → sum_if p f n ≡ plus (f j) (sum_if (but p j) f n)
sum_out = totals.out plus [] plus_assoc plus_comm (λ a. refl)

pub count_split : (p q : ℕ → Bool) (f : ℕ → ℕ) (n : ℕ) → count_if p f n ≡ count_if (λ w. p w && q w) f n + count_if (λ w. p w && not (q w)) f n
count_split = totals.split ◌+◌ 0 add_assoc add_comm zero-add

pub count_out : (p : ℕ → Bool) (f : ℕ → ℕ) (n j : ℕ) → Word n j → p j ≡ true → count_if p f n ≡ f j + count_if (but p j) f n
count_out = totals.out ◌+◌ 0 add_assoc add_comm zero-add

-- term by term
pub sum_le : (p : ℕ → Bool) (f g : ℕ → Worth) (n : ℕ) → ((w : ℕ) → Word n w → p w ≡ true → AtMost (f w) (g w)) → AtMost (sum_if p f n) (sum_if p g n)
sum_le p f g zero h = at_most_refl []
sum_le p f g (suc n) h = at_most_plus_both _ _ _ _ (by (p (suc n)) (h (suc n) (omega arith))) (sum_le p f g n (λ w word. h w (omega arith)))
  where
    by : (b : Bool) → (b ≡ true → AtMost (f (suc n)) (g (suc n))) → AtMost (cond b (f (suc n)) []) (cond b (g (suc n)) [])
    by true k = k refl
    by false k = at_most_refl []

around : (x y a b : Worth) → AtMost a b → AtMost (plus (plus x a) y) (plus x (plus y b))
around x y a b h = simp sorts (simp sorts at (at_most_plus a b (plus x y) h))

-- all terms but the one at j grow
pub sum_le_but : (p : ℕ → Bool) (f g : ℕ → Worth) (n j : ℕ) → Word n j → p j ≡ true → ((w : ℕ) → Word n w → p w ≡ true → (w ≡ j → ⊥) → AtMost (f w) (g w)) → AtMost (plus (sum_if p f n) (g j)) (plus (f j) (sum_if p g n))
sum_le_but p f g n j word t h =
    let le : AtMost (sum_if (but p j) f n) (sum_if (but p j) g n) = sum_le (but p j) f g n (λ w v k. let q = and_parts (p w) (not (eqb w j)) k in h w v q.0 (eqb-false w j (not-true (eqb w j) q.1))) in
    rw (sum_out p f n j word t, sum_out p g n j word t) (around (f j) (g j) (sum_if (but p j) f n) (sum_if (but p j) g n) le)
