-- How long the lines of a ranking are at most.
use Rattle.std.specs.Prelude.{ℕ, ◌^◌, ◌<◌, ◌≤◌, List, length}
use Rattle.lines.specs.Lines.{tree_text, last_text, refused_line_text}
use Rattle.lines.specs.declared.Last.{Last}
use Rattle.std.specs.List.{AllByRecursion}
use Rattle.weight.specs.Worth.{Worth, Within}

-- a tree of up to forty heads with a weight of one or two places, a last line, and the line of a refused file
pub record ShortLines : Type 0 where
  pub tree : (number : ℕ) (weight : Worth) (heads : List ℕ) → number < 2 ^ 64 → length weight ≤ 2 → Within (2 ^ 40) weight → length heads ≤ 40 → AllByRecursion (λ h. h < 256) heads → length (tree_text number weight heads) ≤ 212
  pub last : (last : Last) → length (last_text last) ≤ 8
  pub refused : (number place : ℕ) → number < 2 ^ 64 → place < 2 ^ 64 → length (refused_line_text number place) ≤ 53
