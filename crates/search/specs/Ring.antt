-- The sets of a stage, and the ring that a walk goes round
use Rattle.std.specs.Prelude.{◌≡◌, ℕ, suc, ◌≤◌, true, false, ◌⊎◌, List, ◌==◌}
use Rattle.tree.specs.Chains.{Word, up}
use Rattle.arborescence.specs.Search.{Sets, Leader}
use Rattle.word_set.specs.Bits.{in_set}
use Rattle.search.specs.Arcs.{InLine}
use Rattle.search.specs.Family.{Group, entry, rep_of, from_of, next_of}

pub record Laid (n : ℕ) (base : ℕ → Group) (ms : List Group) : Type 0 where
  pub sets : Sets n (rep_of ms)
  pub same : (w : ℕ) → w ≤ n → entry base ms (rep_of ms w) ≡ entry base ms w
  pub members : (w v : ℕ) → Word n w → v ≤ n → in_set (entry base ms w).members v ≡ (rep_of ms v == rep_of ms w)
  pub own : (w : ℕ) → w ≤ n → (entry base ms w).to ≡ rep_of ms w
  pub in_line : (w : ℕ) → w ≤ n → from_of base ms w ≤ n
  pub root : from_of base ms 0 ≡ 0
  pub sets_in_line : (w : ℕ) → Word n w → InLine n (entry base ms w).members

abbrev pub Periodic : (ℕ → ℕ) → ℕ → Type 0
Periodic head w = (k : ℕ) × (up head (suc k) w ≡ w)

-- the words of S are those of the sets that were met on the way from `word` to `at`
pub record Going (n : ℕ) (base : ℕ → Group) (ms : List Group) (word at S : ℕ) : Type 0 where
  pub here : Word n at
  pub came : (a : ℕ) × (up (from_of base ms) a word ≡ at)
  pub begun : (at ≡ word) ⊎ (in_set S word ≡ true)
  pub in_line : InLine n S
  pub root : in_set S 0 ≡ false
  pub closed : (v : ℕ) → v ≤ n → in_set S (rep_of ms v) ≡ in_set S v
  pub met : (ℓ : ℕ) → Leader n (rep_of ms) ℓ → in_set S ℓ ≡ true → (a : ℕ) × (up (next_of base ms) a (rep_of ms word) ≡ ℓ)
  pub within : (ℓ : ℕ) → Leader n (rep_of ms) ℓ → in_set S ℓ ≡ true → (in_set S (from_of base ms ℓ) ≡ true) ⊎ (from_of base ms ℓ ≡ at)

-- the words of S are those of the sets of a ring
pub record Ring (n : ℕ) (base : ℕ → Group) (ms : List Group) (S : ℕ) : Type 0 where
  pub root : in_set S 0 ≡ false
  pub in_line : InLine n S
  pub closed : (v : ℕ) → v ≤ n → in_set S (rep_of ms v) ≡ in_set S v
  pub some : (w : ℕ) × Word n w × (in_set S w ≡ true)
  pub within : (ℓ : ℕ) → Leader n (rep_of ms) ℓ → in_set S ℓ ≡ true → in_set S (from_of base ms ℓ) ≡ true
  pub round : (i j : ℕ) → Leader n (rep_of ms) i → in_set S i ≡ true → Leader n (rep_of ms) j → in_set S j ≡ true → (k : ℕ) × (up (λ ℓ. rep_of ms (from_of base ms ℓ)) k i ≡ j)
