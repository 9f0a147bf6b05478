-- What the calls of the waiting list do. The list is the first len of the slots. `above x y` is true where x outranks y,
-- xs is what the slots held and ys what they hold.
use Rattle.std.specs.Prelude.{◌≡◌, ℕ, ◌+◌, ◌-◌, ◌<◌, ◌≤◌, Bool, ◌⊎◌, List, ◌∷◌, length, take, drop, slice_index_or}
use Rattle.std.specs.List.Sorted.{IsPermutation}
use Rattle.queue.specs.declared.Refused.TheVariants.{Full, Empty, BeyondSlots}
use Rattle.queue.specs.declared.Refused.{Refused}
use Rattle.queue.specs.Heap.{Ordered, Greatest, Least}
use Rattle.queue.specs.Counts.{CountsWith, CountsFor}

-- why a list of len elements in so many slots refuses to take one more
abbrev pub PushRefused : ℕ → ℕ → Refused → Type 0
PushRefused slots len why = ((len ≡ slots) × (why ≡ Full)) ⊎ ((slots < len) × (why ≡ BeyondSlots))

-- why it refuses to hand one out
abbrev pub PopRefused : ℕ → ℕ → Refused → Type 0
PopRefused slots len why = ((len ≡ 0) × (why ≡ Empty)) ⊎ ((slots < len) × (why ≡ BeyondSlots))

-- why it refuses to take one and drop the least
abbrev pub DropRefused : ℕ → ℕ → Refused → Type 0
DropRefused slots len why = (slots < len) × (why ≡ BeyondSlots)

module _ {X : Type 0} (above : X → X → Bool) where
  -- x came to the list, which has n elements now
  pub record Pushed (xs : List X) (len : ℕ) (x : X) (ys : List X) (n : ℕ) : Type 0 where
    pub room : len < length xs
    pub more : n ≡ len + 1
    -- the list has the elements that it had, and x
    pub same : IsPermutation (x ∷ take len xs) (take (len + 1) ys)
    pub counts : CountsWith x (take len xs) (take (len + 1) ys)
    -- the slots beyond it are as they were
    pub rest : drop (len + 1) ys ≡ drop (len + 1) xs
    pub ordered : Ordered above (take len xs) → Ordered above (take (len + 1) ys)

  -- x left the list, which has len - 1 elements now
  pub record Popped (xs : List X) (len : ℕ) (ys : List X) (x : X) : Type 0 where
    pub some : 0 < len
    pub within : len ≤ length xs
    -- the list has the elements that it had, but x
    pub same : IsPermutation (take len xs) (x ∷ take (len - 1) ys)
    pub counts : CountsWith x (take (len - 1) ys) (take len xs)
    -- the slot that it gave up holds x, and those beyond are as they were
    pub left : (d : X) → slice_index_or ys (len - 1) d ≡ x
    pub rest : drop len ys ≡ drop len xs
    pub ordered : Ordered above (take len xs) → Ordered above (take (len - 1) ys)
    pub greatest : Ordered above (take len xs) → Greatest above x (take len xs)

  -- x came to the list and y, which may be x, was dropped
  pub record Dropped (xs : List X) (len : ℕ) (x : X) (ys : List X) (y : X) : Type 0 where
    pub within : len ≤ length xs
    -- the list has the elements that it had, and x, but y
    pub same : IsPermutation (x ∷ take len xs) (y ∷ take len ys)
    pub counts : CountsFor x (take len xs) y (take len ys)
    pub rest : drop len ys ≡ drop len xs
    pub ordered : Ordered above (take len xs) → Ordered above (take len ys)
    -- y outranks neither x nor any other, whatever the order was
    pub least : Least above y (x ∷ take len xs)
