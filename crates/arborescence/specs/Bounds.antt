-- How great the numbers of the search can get: each arc's places lie within ±m
use Rattle.std.specs.Prelude.{◌≡◌, ℕ, ◌-◌, ◌*◌, ◌≤◌, Bool, true, cond, ◌&&◌}
use Rattle.weight.specs.Worth.{Worth, Within}
use Rattle.tree.specs.Chains.{Word}
use Rattle.arborescence.specs.Sum.{count_if}
use Rattle.arborescence.specs.Search.{leads, Leader, Sets, Union, merged, raised}

-- `size ℓ` is how many words the set of ℓ has; a word of it adds what that many arcs less one can
pub record Sized (n m : ℕ) (rep : ℕ → ℕ) (add : ℕ → Worth) (size : ℕ → ℕ) : Type 0 where
  pub some : (ℓ : ℕ) → Leader n rep ℓ → 1 ≤ size ℓ
  pub all : count_if (leads rep) size n ≡ n
  pub small : (d : ℕ) → Word n d → Within (m * (size (rep d) - 1)) (add d)

abbrev pub merged_size : (ℕ → Bool) → ℕ → (ℕ → ℕ) → (ℕ → ℕ) → ℕ → ℕ
merged_size S n rep size w = cond (S w) (count_if (λ ℓ. leads rep ℓ && S ℓ) size n) (size w)

abbrev pub SizedMerge : Type 0
SizedMerge =
    (n m : ℕ) (rep : ℕ → ℕ) (add best : ℕ → Worth) (S : ℕ → Bool) (s : ℕ) (size : ℕ → ℕ) → Sets n rep → Union n rep S s →
    ((ℓ : ℕ) → Leader n rep ℓ → S ℓ ≡ true → Within (m * size ℓ) (best ℓ)) →
    Sized n m rep add size → Sized n m (merged S s rep) (raised S n rep add best) (merged_size S n rep size)
