-- The brackets of a tree stand at the front of the space.
use Rattle.std.proofs.Common.{◌≡◌, ℕ, ◌+◌, List, ◌++◌, length, take, drop, Ok, ap, ◌∙◌, inl, inr, arith}
use Rattle.std.proofs.lemmas.List.{take_at}
use Rattle.text.proofs.Places.{placed_ok}
use Rattle.tree.specs.Brackets.{bracketed, Drawn}
use Rattle.tree.specs.Trees.{LineTree}

pub drawn_brackets : (heads space after : List ℕ) (root len : ℕ) → LineTree heads root → Drawn heads space (Ok len) after → take len after ≡ bracketed heads root
drawn_brackets heads space after root len tree (inr none) = absurd (none.0 root tree)
drawn_brackets heads space after root len tree (inl drawn) =
    let other : ℕ = drawn.0 in
    let same : other ≡ root = tree.top.only other drawn.1.top.word drawn.1.top.hangs in
    let placed = placed_ok (bracketed heads other) space 0 len after drawn.2 in
    let long : length (bracketed heads other) ≡ len = omega (arith, placed.0) in
    ap (take len) placed.1 ∙ take_at (bracketed heads other) (drop (0 + length (bracketed heads other)) space) len long ∙ ap (bracketed heads) same

-- what stands in the part of a vector that was written is left where the vector is cut behind it
pub cut_text : (after rest text : List ℕ) (n len : ℕ) → length after ≡ n → take len after ≡ text → take len (take n (after ++ rest)) ≡ text
cut_text after rest text n len e is = ap (take len) (take_at after rest n e) ∙ is
