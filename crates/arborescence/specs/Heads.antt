-- Trees as lists of heads, with one word on the root
use Rattle.std.specs.Prelude.{◌≡◌, ℕ, suc, ◌≤◌, Bool, true, cond, List, [], ◌∷◌, pos, negsuc, ◌==◌}
use Rattle.weight.specs.Worth.{Worth, plus, AtMost}
use Rattle.tree.specs.Chains.{Word, head_of}
use Rattle.tree.specs.Trees.{SingleRootTree}
use Rattle.arborescence.specs.Search.{Tree, worth_of_heads}

-- a single-root tree of n words that uses only arcs that stand
pub record TreeOver (n : ℕ) (stands : ℕ → ℕ → Bool) (heads : List ℕ) : Type 0 where
  pub shape : SingleRootTree n heads
  pub standing : (w : ℕ) → Word n w → stands (head_of heads w) w ≡ true

-- the sum of the worths of the arcs into words w, w + 1, ...
abbrev pub worth_from : (ℕ → ℕ → Worth) → ℕ → List ℕ → Worth
worth_from worth w [] = []
worth_from worth w (h ∷ hs) = plus (worth h w) (worth_from worth (suc w) hs)

-- ---- one word on the root, by a place in front that counts the arcs from the root
abbrev pub rooted : (ℕ → ℕ → Worth) → ℕ → ℕ → Worth
rooted worth h d = cond (h == 0) (negsuc 0) (pos 0) ∷ worth h d

pub record OneRoot (n : ℕ) (head : ℕ → ℕ) : Type 0 where
  pub root : ℕ
  pub word : Word n root
  pub hangs : head root ≡ 0
  pub only : (w : ℕ) → Word n w → head w ≡ 0 → w ≡ root

-- the best of all trees by those worths: if there is a tree with one word on the root, then this is such a tree, and the best of them
abbrev pub ByRootLayer : Type 0
ByRootLayer =
    (n : ℕ) (stands : ℕ → ℕ → Bool) (worth : ℕ → ℕ → Worth) (head : ℕ → ℕ) → 1 ≤ n → Tree n stands head →
    ((other : ℕ → ℕ) → Tree n stands other → AtMost (worth_of_heads (rooted worth) other n) (worth_of_heads (rooted worth) head n)) →
    (other : ℕ → ℕ) → Tree n stands other → OneRoot n other → OneRoot n head × AtMost (worth_of_heads worth other n) (worth_of_heads worth head n)

-- the best tree by the worths with that place, as a list: if any list is a tree with one word on the root, it is the best of those
abbrev pub BestSingle : Type 0
BestSingle =
    (n : ℕ) (stands : ℕ → ℕ → Bool) (worth : ℕ → ℕ → Worth) (head : ℕ → ℕ) → 1 ≤ n → Tree n stands head →
    ((other : ℕ → ℕ) → Tree n stands other → AtMost (worth_of_heads (rooted worth) other n) (worth_of_heads (rooted worth) head n)) →
    (some : List ℕ) → TreeOver n stands some →
    (heads : List ℕ) × TreeOver n stands heads × ((other : List ℕ) → TreeOver n stands other → AtMost (worth_from worth 1 other) (worth_from worth 1 heads))
