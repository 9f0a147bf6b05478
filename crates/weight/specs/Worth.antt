-- A worth: a list of whole numbers, its places. A place that is missing counts as 0.
use Rattle.std.specs.Prelude.{◌≡◌, ℕ, ◌+◌, ◌^◌, ◌<◌, ◌≤◌, Bool, true, false, cond, T, ◌⊎◌, List, [], ◌∷◌, length, replicate, ℤ, pos, ◌+ℤ◌, ◌-ℤ◌, neg_ℤ, ◌≤ℤ◌, ◌<ℤ◌, int_lt, slice_index_or}
use Rattle.std.specs.declared.cmp.Ordering.TheVariants.{Less, Equal, Greater}
use Rattle.std.specs.declared.cmp.Ordering.{Ordering}

abbrev pub Worth : Type 0
Worth = List ℤ

-- the worth with 0 at each of its places
abbrev pub zeros : ℕ → Worth
zeros places = replicate places (pos 0)

-- sum and difference, place by place
abbrev pub plus : Worth → Worth → Worth
plus [] ys = ys
plus (x ∷ xs) [] = x ∷ xs
plus (x ∷ xs) (y ∷ ys) = (x +ℤ y) ∷ plus xs ys

abbrev pub minus : Worth → Worth → Worth
minus [] [] = []
minus [] (y ∷ ys) = neg_ℤ y ∷ minus [] ys
minus (x ∷ xs) [] = x ∷ xs
minus (x ∷ xs) (y ∷ ys) = (x -ℤ y) ∷ minus xs ys

-- yes where x is less than y, no where it is greater, and what the rest says where they are equal
abbrev pub leads : ℤ → ℤ → Bool → Bool
leads x y rest = cond (int_lt x y) true (cond (int_lt y x) false rest)

-- whether the first is no greater than the second
abbrev pub at_most : Worth → Worth → Bool
at_most [] [] = true
at_most [] (y ∷ ys) = leads (pos 0) y (at_most [] ys)
at_most (x ∷ xs) [] = leads x (pos 0) (at_most xs [])
at_most (x ∷ xs) (y ∷ ys) = leads x y (at_most xs ys)

-- the same as a fact, from which both worths can be read
pub record AtMost (a b : Worth) : Type 0 where
  pub holds : T (at_most a b)

-- a is greater than b at the first place where they differ
pub record Outweighs (a b : Worth) : Type 0 where
  pub place : ℕ
  pub greater : slice_index_or b place (pos 0) <ℤ slice_index_or a place (pos 0)
  pub same_before : (k : ℕ) → k < place → slice_index_or a k (pos 0) ≡ slice_index_or b k (pos 0)

-- how two worths compare
abbrev pub order : Worth → Worth → Ordering
order a b = cond (at_most a b) (cond (at_most b a) Equal Less) Greater

-- every place lies within ±m
abbrev pub Within : ℕ → Worth → Type 0
Within m [] = Unit {0}
Within m (x ∷ xs) = (neg_ℤ (pos m) ≤ℤ x) × (x ≤ℤ pos m) × Within m xs

-- c is their sum, or their difference, wherever all places of both lie within ±2^40
abbrev pub SumIs : Worth → Worth → Worth → Type 0
SumIs a b c = Within (2 ^ 40) a → Within (2 ^ 40) b → c ≡ plus a b

abbrev pub DifferenceIs : Worth → Worth → Worth → Type 0
DifferenceIs a b c = Within (2 ^ 40) a → Within (2 ^ 40) b → c ≡ minus a b

-- what an answer says of the two that were compared
abbrev pub Compared : Worth → Worth → Ordering → Type 0
Compared a b Less = Outweighs b a
Compared a b Equal = a ≡ b
Compared a b Greater = Outweighs a b

-- Worths are a totally ordered group: sums can be grouped and exchanged, a difference takes a sum back,
-- the order is total, and a sum keeps it.
pub record WorthLaws : Type 0 where
  pub comm : (a b : Worth) → plus a b ≡ plus b a
  pub assoc : (a b c : Worth) → plus (plus a b) c ≡ plus a (plus b c)
  pub none : (a : Worth) → plus a [] ≡ a
  pub zero : (a : Worth) (p : ℕ) → length a ≡ p → plus a (zeros p) ≡ a
  pub taken_back : (a b : Worth) → length a ≡ length b → minus (plus a b) b ≡ a
  pub given_back : (a b : Worth) → length a ≡ length b → plus (minus a b) b ≡ a
  pub reflexive : (a : Worth) → AtMost a a
  pub transitive : (a b c : Worth) → AtMost a b → AtMost b c → AtMost a c
  pub total : (a b : Worth) → AtMost a b ⊎ AtMost b a
  pub antisymmetric : (a b : Worth) → length a ≡ length b → AtMost a b → AtMost b a → a ≡ b
  pub translation : (a b c : Worth) → AtMost a b → AtMost (plus a c) (plus b c)
  pub cancel : (a b c : Worth) → AtMost (plus a c) (plus b c) → AtMost a b
  pub monotone : (a b c d : Worth) → AtMost a b → AtMost c d → AtMost (plus a c) (plus b d)

-- To outweigh is not to be at most, and of two worths of one length just one of three holds:
-- the first outweighs, the second outweighs, they are equal.
pub record OrderLaws : Type 0 where
  pub not_at_most : (a b : Worth) → Outweighs a b → AtMost a b → ⊥
  pub else_outweighs : (a b : Worth) → (AtMost a b → ⊥) → Outweighs a b
  pub one_of_three : (a b : Worth) → length a ≡ length b → Compared a b (order a b)
  pub only_one : (a b : Worth) (o : Ordering) → length a ≡ length b → Compared a b o → o ≡ order a b

-- The places of a sum or a difference are as many as those of its parts, and lie within the sum of their bounds.
pub record BoundLaws : Type 0 where
  pub sum_length : (a b : Worth) → length a ≡ length b → length (plus a b) ≡ length a
  pub difference_length : (a b : Worth) → length a ≡ length b → length (minus a b) ≡ length a
  pub wider : (m k : ℕ) (a : Worth) → m ≤ k → Within m a → Within k a
  pub sum_within : (m k : ℕ) (a b : Worth) → Within m a → Within k b → Within (m + k) (plus a b)
  pub difference_within : (m k : ℕ) (a b : Worth) → Within m a → Within k b → Within (m + k) (minus a b)
