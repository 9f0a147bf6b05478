-- The lines of a ranking, as lists of bytes. 9 is the TAB, 10 the line's end, 32 the blank.
use Rattle.std.specs.Prelude.{◌≡◌, ℕ, ◌^◌, ◌<◌, cond, codes, List, [], ◌∷◌, ◌++◌, decimal, ◌==◌}
use Rattle.lines.specs.declared.Last.TheVariants.{NoTree, NoMore, Fifty}
use Rattle.lines.specs.declared.Last.{Last}
use Rattle.std.specs.List.{AllByRecursion}
use Rattle.text.specs.Spaced.{spaced}
use Rattle.weight.specs.Text.{text}
use Rattle.weight.specs.Worth.{Worth, Within}

-- what stands before the weight in a tree's line, and what behind it
abbrev pub before_weight : ℕ → List ℕ
before_weight number = decimal number ++ (9 ∷ [])

abbrev pub behind_weight : List ℕ → List ℕ
behind_weight heads = 9 ∷ (spaced heads ++ (10 ∷ []))

-- a tree: its number in the ranking, its weight as it is shown, its heads
abbrev pub tree_text : ℕ → Worth → List ℕ → List ℕ
tree_text number weight heads = before_weight number ++ (text weight ++ behind_weight heads)

-- why the ranking ends: `no tree`, `no more`, `fifty`
abbrev pub last_text : Last → List ℕ
last_text NoTree = codes "no tree\n"
last_text NoMore = codes "no more\n"
last_text Fifty = codes "fifty\n"

-- a refused file: `refused `, the refusal's number, ` at `, the place of the byte at fault
abbrev pub refused_line_text : ℕ → ℕ → List ℕ
refused_line_text number place = codes "refused " ++ (decimal number ++ (codes " at " ++ (decimal place ++ (10 ∷ []))))

-- what stands before the first TAB of a line, and what behind it
abbrev pub before_tab : List ℕ → List ℕ
before_tab [] = []
before_tab (b ∷ bs) = cond (b == 9) [] (b ∷ before_tab bs)

abbrev pub behind_tab : List ℕ → List ℕ
behind_tab [] = []
behind_tab (b ∷ bs) = cond (b == 9) bs (behind_tab bs)

-- the TABs part a tree's line into its number, its weight and its heads, and there are no others
pub record Fields (number : ℕ) (weight : Worth) (heads line : List ℕ) : Type 0 where
  pub first : before_tab line ≡ decimal number
  pub second : before_tab (behind_tab line) ≡ text weight
  pub third : behind_tab (behind_tab line) ≡ spaced heads ++ (10 ∷ [])
  pub last : AllByRecursion (λ h. h < 256) heads → before_tab (behind_tab (behind_tab line)) ≡ behind_tab (behind_tab line)

abbrev pub ToldFields : Type 0
ToldFields = (number : ℕ) (weight : Worth) (heads : List ℕ) → number < 2 ^ 64 → Within (2 ^ 40) weight → Fields number weight heads (tree_text number weight heads)
