-- The text of a word in the space.
use Rattle.std.proofs.Common.{◌≡◌, ℕ, ◌+◌, ◌≤◌, true, List, length, decimal, sym, ap, ◌∙◌, arith}
use Rattle.text.proofs.Places.{written_two}
use Rattle.text.specs.Space.{written}
use Rattle.tree.proofs.Depths.{written_likewise, length_bracketed}
use Rattle.tree.proofs.Rests.{rest}
use Rattle.tree.specs.Brackets.{bracketed}
use Rattle.tree.specs.Trees.{Rooted}

-- the number and what comes behind it are the word's text
pub whole_text : (s next : List ℕ) (at end : ℕ) (heads : List ℕ) (w : ℕ) → Rooted heads → next ≡ written s at (decimal w) → end ≡ at + length (decimal w) → at + length (bracketed heads w) ≤ length s → written next end (rest heads (bracketed heads) w true 0) ≡ written s at (bracketed heads w)
whole_text s next at end heads w r is e h =
    let long = length_bracketed heads w r in
    ap (λ l. written l end (rest heads (bracketed heads) w true 0)) is
    ∙ written_two s at (decimal w) (rest heads (bracketed heads) w true 0) end (sym e) (omega arith)
    ∙ ap (written s at) (sym (written_likewise heads r w))
