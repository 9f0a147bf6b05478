-- A whole run of the waiting list: pushes in any order, then pops.
use Rattle.std.specs.Prelude.{◌≡◌, ℕ, ◌<◌, ◌≤◌, Bool, false, ◌⊎◌, List, length, take, drop, slice_index_or}
use Rattle.std.specs.List.Sorted.{IsPermutation}
use Rattle.queue.specs.declared.Refused.TheVariants.{Full}
use Rattle.queue.specs.declared.Refused.{Refused}
use Rattle.queue.specs.Heap.{Ordered}

-- why so many given elements are refused, with so many slots, and places to come out to
abbrev pub RunRefused : ℕ → ℕ → ℕ → Refused → Type 0
RunRefused given slots places why = ((slots < given) ⊎ (places < given)) × (why ≡ Full)

module _ {X : Type 0} (above : X → X → Bool) where
  -- no element outranks one that stands before it
  abbrev pub Falls : List X → Type 0
  Falls xs = (i j : ℕ) (d : X) → i ≤ j → j < length xs → above (slice_index_or xs j d) (slice_index_or xs i d) ≡ false

  -- at each place neither list's element outranks the other's
  abbrev pub Level : List X → List X → Type 0
  Level xs ys = (i : ℕ) (d : X) → i < length xs → (above (slice_index_or xs i d) (slice_index_or ys i d) ≡ false) × (above (slice_index_or ys i d) (slice_index_or xs i d) ≡ false)

  -- the list xs was popped to its end: out before, xs' and out' after
  pub record Emptied (xs out xs' out' : List X) : Type 0 where
    pub same : IsPermutation xs (take (length xs) out')
    pub falls : Ordered above xs → Falls (take (length xs) out')
    pub rest : drop (length xs) out' ≡ drop (length xs) out
    pub used : IsPermutation xs xs'

  -- the given elements were pushed and popped: slots and out before, slots' and out' after
  pub record CameOut (given slots out slots' out' : List X) : Type 0 where
    pub room : length given ≤ length slots
    pub places : length given ≤ length out
    -- the given ones came out, each as often as it was given, and they fall
    pub same : IsPermutation given (take (length given) out')
    pub falls : Falls (take (length given) out')
    -- every falling arrangement of the given ones is level with it: the order of the pushes does not matter
    pub settled : (zs : List X) → IsPermutation given zs → Falls zs → Level zs (take (length given) out')
    -- what the memory is otherwise
    pub rest : drop (length given) out' ≡ drop (length given) out
    pub used : IsPermutation given (take (length given) slots')
    pub beyond : drop (length given) slots' ≡ drop (length given) slots
