-- Sums over the words 1..n that pass a test, of anything that is added
use Rattle.std.proofs.Common.{◌≡◌, ℕ, zero, suc, Bool, true, false, cond, not, ◌&&◌, eqb, ◌⊎◌, sym, refl, ap, ◌∙◌, inl, inr, arith}
use Rattle.std.proofs.lemmas.Bool.{cases_eq, cases_Bool, eq-eqb, ne_eqb, and_right, not_from_true}
use Rattle.std.proofs.Math.Bool.{and-true}
use Rattle.tree.specs.Chains.{Word}
use Rattle.arborescence.specs.Sum.{sum_by}

-- p, but not at j
abbrev pub but : (ℕ → Bool) → ℕ → ℕ → Bool
but p j w = p w && not (eqb w j)

module _ {X : Type 0} (op : X → X → X) (unit : X) where
  pub same : (p q : ℕ → Bool) (f g : ℕ → X) (n : ℕ) → ((w : ℕ) → Word n w → p w ≡ q w) → ((w : ℕ) → Word n w → q w ≡ true → f w ≡ g w) → sum_by op unit p f n ≡ sum_by op unit q g n
  same p q f g zero t h = refl
  same p q f g (suc n) t h = cc (by (p (suc n)) (q (suc n)) (t (suc n) (omega arith)) (h (suc n) (omega arith)), same p q f g n (λ w word. t w (omega arith)) (λ w word. h w (omega arith)))
    where
      by : (b c : Bool) → b ≡ c → (c ≡ true → f (suc n) ≡ g (suc n)) → cond b (f (suc n)) unit ≡ cond c (g (suc n)) unit
      by true true e k = k refl
      by true false e k = cc
      by false true e k = cc
      by false false e k = refl

  module _ (assoc : (a b c : X) → op (op a b) c ≡ op a (op b c)) (comm : (a b : X) → op a b ≡ op b a) (first : (a : X) → op unit a ≡ a) where
    left_comm : (a b c : X) → op a (op b c) ≡ op b (op a c)
    left_comm a b c = sym (assoc a b c) ∙ (ap (λ (v : X). op v c) (comm a b) ∙ assoc b a c)

    pub none : (p : ℕ → Bool) (f : ℕ → X) (n : ℕ) → ((w : ℕ) → Word n w → p w ≡ false) → sum_by op unit p f n ≡ unit
    none p f zero h = refl
    none p f (suc n) h = cc (h (suc n) (omega arith), none p f n (λ w word. h w (omega arith)), first unit)

    -- by a second test
    pub split : (p q : ℕ → Bool) (f : ℕ → X) (n : ℕ) → sum_by op unit p f n ≡ op (sum_by op unit (λ w. p w && q w) f n) (sum_by op unit (λ w. p w && not (q w)) f n)
    split p q f zero = sym (first unit)
    split p q f (suc n) = by (p (suc n)) (q (suc n)) (f (suc n)) _ _ _ (split p q f n)
      where
        by : (b c : Bool) (x s t u : X) → s ≡ op t u → op (cond b x unit) s ≡ op (op (cond (b && c) x unit) t) (op (cond (b && not c) x unit) u)
        by true true x s t u e = cc (first u, assoc x t u)
        by true false x s t u e = cc (first t, left_comm x t u)
        by false true x s t u e = cc (first s, first t, first u)
        by false false x s t u e = cc (first s, first t, first u)

    -- one term by itself
    pub out : (p : ℕ → Bool) (f : ℕ → X) (n j : ℕ) → Word n j → p j ≡ true → sum_by op unit p f n ≡ op (f j) (sum_by op unit (but p j) f n)
    out p f zero j word t = absurd (omega arith)
    out p f (suc n) j word t = by (cases_eq (suc n) j) (out p f n j)
      where
        by : (suc n ≡ j) ⊎ (suc n ≡ j → ⊥) → (Word n j → p j ≡ true → sum_by op unit p f n ≡ op (f j) (sum_by op unit (but p j) f n)) → op (cond (p (suc n)) (f (suc n)) unit) (sum_by op unit p f n) ≡ op (f j) (op (cond (but p j (suc n)) (f (suc n)) unit) (sum_by op unit (but p j) f n))
        by (inl e) more =
            let rest : sum_by op unit (but p j) f n ≡ sum_by op unit p f n = same (but p j) p f f n (λ w v. cc (ne_eqb w j (λ k. omega arith), and-true (p w))) (λ w v k. refl) in
            let here : p (suc n) ≡ true = rw e t in
            let gone : but p j (suc n) ≡ false = and_right (p (suc n)) _ (not_from_true _ (eq-eqb (suc n) j e)) in
            let fe : f (suc n) ≡ f j = ap f e in
            cc (first (sum_by op unit p f n))
        by (inr e) more =
            let kept : but p j (suc n) ≡ p (suc n) = cc (ne_eqb (suc n) j e, and-true (p (suc n))) in
            rw (more (omega arith) t, kept) (left_comm (cond (p (suc n)) (f (suc n)) unit) (f j) (sum_by op unit (but p j) f n))

    pub one : (p : ℕ → Bool) (f : ℕ → X) (n j : ℕ) → Word n j → p j ≡ true → ((w : ℕ) → Word n w → p w ≡ true → w ≡ j) → sum_by op unit p f n ≡ f j
    one p f n j word t only =
        out p f n j word t ∙ (ap (op (f j)) (none (but p j) f n gone) ∙ (comm (f j) unit ∙ first (f j)))
      where
        gone : (w : ℕ) → Word n w → but p j w ≡ false
        gone w v = by (cases_Bool (p w)) (only w v)
          where
            by : (p w ≡ true) ⊎ (p w ≡ false) → (p w ≡ true → w ≡ j) → but p j w ≡ false
            by (inl y) o = let e = eq-eqb w j (o y) in cc
            by (inr z) o = cc
