-- Lists that hold the same elements but for one, told by counting: for every test, how many elements pass it.
use Rattle.std.specs.Prelude.{◌≡◌, ℕ, ◌+◌, Bool, cond, List, count_by}

-- as many elements of xs and x together pass the test p
abbrev pub count_with : {X : Type 0} → (X → Bool) → X → List X → ℕ
count_with p x xs = cond (p x) 1 0 + count_by p xs

-- ys counts as xs and x together, by every test
abbrev pub CountsWith : {X : Type 0} → X → List X → List X → Type 0
CountsWith {X} x xs ys = (p : X → Bool) → count_by p ys ≡ count_with p x xs

-- xs and x together count as ys and y together, by every test
abbrev pub CountsFor : {X : Type 0} → X → List X → X → List X → Type 0
CountsFor {X} x xs y ys = (p : X → Bool) → count_with p y ys ≡ count_with p x xs
