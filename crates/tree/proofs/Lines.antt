-- Lists of heads looked at word by word.
use Rattle.std.proofs.Common.{◌≡◌, ℕ, suc, ◌<◌, ◌≤◌, true, false, List, length, get_or, is_some, Some, None, Option, refl, arith}
use Rattle.std.proofs.lemmas.Bool.{both_ways}
use Rattle.tree.specs.Chains.{Word, head_of}
use Rattle.tree.specs.Trees.{CycleFree, OnlyRoot, ToldCycle, LineTree}

pub one_above : (heads : List ℕ) (i : ℕ) → i < length heads → length heads < get_or heads i 0 → ((w : ℕ) → Word (length heads) w → head_of heads w ≤ length heads) → ⊥
one_above heads i h above all = let le : get_or heads i 0 ≤ length heads = all (suc i) (omega arith, omega arith) in omega arith

-- what the first i words tell of the root: no word on it yet, or just one
abbrev pub RootBefore : List ℕ → ℕ → Option ℕ → Type 0
RootBefore heads i None = (k : ℕ) → k < i → get_or heads k 0 ≡ 0 → ⊥
RootBefore heads i (Some w) = (j : ℕ) × (w ≡ suc j) × (j < i) × (get_or heads j 0 ≡ 0) × ((k : ℕ) → k < i → get_or heads k 0 ≡ 0 → k ≡ j)

-- one more word on the root, and none is the only one
pub two_roots : (heads : List ℕ) (i : ℕ) (root : Option ℕ) → is_some root ≡ true → RootBefore heads i root → i < length heads → get_or heads i 0 ≡ 0 → (v : ℕ) → OnlyRoot (length heads) heads v → ⊥
two_roots heads i None some before h hangs v only = absurd (both_ways false refl some)
two_roots heads i (Some w) some before h hangs v only =
    let a : suc i ≡ v = only.only (suc i) (omega arith, omega arith) hangs in
    let b : suc before.0 ≡ v = only.only (suc before.0) (omega arith, omega (arith, before.2)) before.3 in
    omega (arith, before.2)

pub told_free : (heads : List ℕ) (told : Option ℕ) → is_some told ≡ false → ToldCycle heads told → CycleFree heads
told_free heads None none free = free
told_free heads (Some w) none cycle = absurd (both_ways true none refl)

pub line_tree : (heads : List ℕ) (root : ℕ) → length heads ≤ 40 → ((w : ℕ) → Word (length heads) w → head_of heads w ≤ length heads) → CycleFree heads → OnlyRoot (length heads) heads root → LineTree heads root
line_tree heads root few in_line free top = record { few = few; shape = record { sized = refl; in_line = in_line; no_cycle = free }; top = top }
