-- A tree in round brackets, as bytes.
use Rattle.std.specs.Prelude.{◌≡◌, ℕ, zero, suc, ◌+◌, Bool, true, false, cond, ◌⊎◌, List, [], ◌∷◌, ◌++◌, length, Err, decimal, Result, ◌==◌}
use Rattle.refusal.specs.declared.Refusal.TheVariants.{NotATree}
use Rattle.refusal.specs.declared.Refusal.{Refusal}
use Rattle.text.specs.Space.{Placed}
use Rattle.tree.specs.Trees.{LineTree}

-- the words whose head is w, in rising order; the heads listed are those of word i and the words behind it
abbrev pub dependents_from : List ℕ → ℕ → ℕ → List ℕ
dependents_from [] i w = []
dependents_from (h ∷ hs) i w = cond (h == w) (i ∷ dependents_from hs (i + 1) w) (dependents_from hs (i + 1) w)

abbrev pub dependents : List ℕ → ℕ → List ℕ
dependents heads w = dependents_from heads 1 w

-- words in round brackets, one blank between, each written by f, and nothing where there is none;
-- `first` says that the bracket is still to be opened
abbrev pub in_brackets : (ℕ → List ℕ) → Bool → List ℕ → List ℕ
in_brackets f true [] = []
in_brackets f false [] = 41 ∷ []
in_brackets f first (d ∷ ds) = cond first 40 32 ∷ (f d ++ in_brackets f false ds)

-- a word with its dependents behind it, each written likewise, k levels deep at most
abbrev pub word_text : ℕ → List ℕ → ℕ → List ℕ
word_text zero heads w = decimal w
word_text (suc k) heads w = decimal w ++ in_brackets (word_text k heads) true (dependents heads w)

-- a word with all that hangs on it: no chain of heads is longer than the line
abbrev pub bracketed : List ℕ → ℕ → List ℕ
bracketed heads w = word_text (length heads) heads w

-- a word is followed by its dependents in brackets, each written likewise
abbrev pub WrittenLikewise : List ℕ → Type 0
WrittenLikewise heads = (w : ℕ) → bracketed heads w ≡ decimal w ++ in_brackets (bracketed heads) true (dependents heads w)

-- what the bracket writer answers and leaves in the space: the text of the root's word, if it fits;
-- of heads that form no tree, nothing
abbrev pub Drawn : List ℕ → List ℕ → Result ℕ Refusal → List ℕ → Type 0
Drawn heads space answer after =
    ((root : ℕ) × LineTree heads root × Placed (bracketed heads root) space 0 answer after)
    ⊎ (((root : ℕ) → LineTree heads root → ⊥) × (answer ≡ Err NotATree) × (after ≡ space))
