use Rattle.std.proofs.Common.{◌≡◌, ℕ, zero, suc, ◌+◌, ◌-◌, ◌*◌, ◌<◌, ◌≤◌, Bool, true, false, cond, eqb, ◌⊎◌, sym, refl, ap, ◌∙◌, inl, inr, suc-add, zero-add, zero-mul, le-mul_of_pos_right, arith}
use Rattle.std.proofs.lemmas.Bool.{cases_eq, cases_Bool, both_ways}
use Rattle.std.proofs.lemmas.Bool.Decides.{nat_tests}
use Rattle.tree.specs.Chains.{up, Word, Reaches, RunsIntoCycle}

enter : (head : ℕ → ℕ) (inside : ℕ → Bool) → inside 0 ≡ false → (k w : ℕ) → inside w ≡ true → up head k w ≡ 0 → (d : ℕ) × (inside d ≡ true) × (inside (head d) ≡ false)
enter head inside root zero w s e = absurd (both_ways (inside 0) root (ap inside (sym e) ∙ s))
enter head inside root (suc k) w s e = by (cases_Bool (inside (head w))) (enter head inside root k (head w))
  where
    by : (inside (head w) ≡ true) ⊎ (inside (head w) ≡ false) → (inside (head w) ≡ true → up head k (head w) ≡ 0 → (d : ℕ) × (inside d ≡ true) × (inside (head d) ≡ false)) → (d : ℕ) × (inside d ≡ true) × (inside (head d) ≡ false)
    by (inl yes') more = more yes' e
    by (inr no') more = (w, s, no')

-- a set of words from which a chain comes to the root has a word whose head lies outside
pub enters : (head : ℕ → ℕ) (inside : ℕ → Bool) → inside 0 ≡ false → (w : ℕ) → inside w ≡ true → Reaches head w → (d : ℕ) × (inside d ≡ true) × (inside (head d) ≡ false)
enters head inside root w s r = enter head inside root r.0 w s r.1

-- ---- more places than values: two places have one value
find : (f : ℕ → ℕ) (v m : ℕ) → ((i : ℕ) × (i < m) × (f i ≡ v)) ⊎ ((i : ℕ) → i < m → f i ≡ v → ⊥)
find f v zero = inr (λ i h e. omega arith)
find f v (suc m) = by (cases_eq (f m) v) (find f v m)
  where
    by : (f m ≡ v) ⊎ (f m ≡ v → ⊥) → ((i : ℕ) × (i < m) × (f i ≡ v)) ⊎ ((i : ℕ) → i < m → f i ≡ v → ⊥) → ((i : ℕ) × (i < suc m) × (f i ≡ v)) ⊎ ((i : ℕ) → i < suc m → f i ≡ v → ⊥)
    by (inl e) r = inl (m, omega arith, e)
    by (inr n) (inl r) = inl (r.0, omega arith, r.2)
    by (inr n) (inr r) = inr (λ i h e. grind (arith, cases_eq i m))

abbrev Twice : ℕ → (ℕ → ℕ) → Type 0
Twice n f = (i : ℕ) × (j : ℕ) × (i < j) × (j ≤ n) × (f i ≡ f j)

twice : (n : ℕ) (f : ℕ → ℕ) → ((i : ℕ) → i ≤ n → (1 ≤ f i) × (f i ≤ n)) → Twice n f
twice zero f h = let p : (1 ≤ f 0) × (f 0 ≤ 0) = h 0 (omega arith) in absurd (omega arith)
twice (suc m) f h = by (find f (f (suc m)) (suc m)) (twice m)
  where
    g : ℕ → ℕ
    g i = cond (eqb (f i) (suc m)) (f (suc m)) (f i)

    by : ((i : ℕ) × (i < suc m) × (f i ≡ f (suc m))) ⊎ ((i : ℕ) → i < suc m → f i ≡ f (suc m) → ⊥) → ((f : ℕ → ℕ) → ((i : ℕ) → i ≤ m → (1 ≤ f i) × (f i ≤ m)) → Twice m f) → Twice (suc m) f
    by (inl r) more = (r.0, suc m, r.1, omega arith, r.2)
    by (inr n) more =
        let t = more g (λ i le. let p = h i (omega arith) in let q = h (suc m) (omega arith) in let z = n i (omega arith) in (grind (arith, nat_tests), grind (arith, nat_tests))) in
        let z = n t.0 (omega arith) in
        let y = n t.1 (omega arith) in
        (t.0, t.1, t.2, omega arith, grind (arith, nat_tests))

pub up_plus : (head : ℕ → ℕ) (a b w : ℕ) → up head (a + b) w ≡ up head b (up head a w)
up_plus head zero b w = rw zero-add
up_plus head (suc a) b w = rw (suc-add a b) (up_plus head a b (head w))

module _ (head : ℕ → ℕ) (root : head 0 ≡ 0) where
  pub up_root : (k : ℕ) → up head k 0 ≡ 0
  up_root zero = refl
  up_root (suc k) = rw root (up_root k)

  pub up_past : (a b w : ℕ) → a ≤ b → up head a w ≡ 0 → up head b w ≡ 0
  up_past a b w h e =
      let s : a + (b - a) ≡ b = omega arith in
      cc (up_plus head a (b - a) w, up_root (b - a))

  round : (p v m : ℕ) → up head p v ≡ v → up head (m * p) v ≡ v
  round p v zero e = rw zero-mul
  round p v (suc m) e =
      let s : suc m * p ≡ p + m * p = omega arith in
      cc (up_plus head p (m * p) v, round p v m e)

  within : (n : ℕ) → ((w : ℕ) → Word n w → head w ≤ n) → (k w : ℕ) → w ≤ n → up head k w ≤ n
  within n h zero w le = le
  within n h (suc k) w le = within n h k (head w) (by (cases_eq w 0))
    where
      by : (w ≡ 0) ⊎ (w ≡ 0 → ⊥) → head w ≤ n
      by (inl e) = omega (arith, ap head e, root)
      by (inr e) = h w (omega arith)

-- a chain that comes to the root runs into no cycle
pub never_again : (head : ℕ → ℕ) → head 0 ≡ 0 → (w : ℕ) → Reaches head w → RunsIntoCycle head w → ⊥
never_again head root w r c =
    let v : ℕ = up head c.0 w in
    let p : ℕ = c.1 - c.0 in
    let s : c.0 + p ≡ c.1 = omega arith in
    let b : up head p v ≡ v = cc (up_plus head c.0 p w) in
    let q : r.0 ≤ r.0 * p = le-mul_of_pos_right r.0 (omega arith) in
    let z : up head (c.0 + r.0 * p) w ≡ 0 = up_past head root r.0 (c.0 + r.0 * p) w (omega arith) r.1 in
    let y : v ≡ 0 = cc (up_plus head c.0 (r.0 * p) w, round head root p v r.0 b) in
    omega arith

-- a chain that runs into no cycle comes to the root within n steps
pub arrives : (n : ℕ) (head : ℕ → ℕ) → head 0 ≡ 0 → ((w : ℕ) → Word n w → head w ≤ n) → (w : ℕ) → Word n w → (RunsIntoCycle head w → ⊥) → (k : ℕ) × (k ≤ n) × (up head k w ≡ 0)
arrives n head root inline w word loopless = by (find (λ k. up head k w) 0 (suc n))
  where
    by : ((k : ℕ) × (k < suc n) × (up head k w ≡ 0)) ⊎ ((k : ℕ) → k < suc n → up head k w ≡ 0 → ⊥) → (k : ℕ) × (k ≤ n) × (up head k w ≡ 0)
    by (inl r) = (r.0, omega arith, r.2)
    by (inr n0) =
        let t = twice n (λ k. up head k w) (λ k le. let z = n0 k (omega arith) in (omega arith, within head root n inline k w word.1)) in
        let z = n0 t.0 (omega arith) in
        absurd (loopless (t.0, t.1, t.2, omega arith, t.4))
