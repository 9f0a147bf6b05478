-- Sums over the words 1..n that pass a test
use Rattle.std.specs.Prelude.{ℕ, zero, suc, ◌+◌, Bool, cond, []}
use Rattle.weight.specs.Worth.{Worth, plus}

-- of anything that is added by `op`, from `unit`
abbrev pub sum_by : {X : Type 0} → (X → X → X) → X → (ℕ → Bool) → (ℕ → X) → ℕ → X
sum_by op unit p f zero = unit
sum_by op unit p f (suc n) = op (cond (p (suc n)) (f (suc n)) unit) (sum_by op unit p f n)

abbrev pub sum_if : (ℕ → Bool) → (ℕ → Worth) → ℕ → Worth
sum_if p f n = sum_by plus [] p f n

abbrev pub count_if : (ℕ → Bool) → (ℕ → ℕ) → ℕ → ℕ
count_if p f n = sum_by ◌+◌ 0 p f n
