use Rattle.std.proofs.Common.{◌≡◌, ◌+◌, ◌≤◌, true, length}
use Rattle.text.specs.Space.{written}
use Rattle.tree.proofs.Depths.{unwritten}
use Rattle.tree.proofs.Rests.{rest}
use Rattle.tree.proofs.brackets.+write_word.Given as goal
use Rattle.tree.specs.Brackets.{bracketed}

abbrev pub decreases-write_word : goal.decreases-write_word
decreases-write_word l = unwritten l.heads.now l.word

-- with the text that is still to come, the space is as it will be
abbrev pub invariant-loop-i : goal.invariant-loop-i
invariant-loop-i l =
    (written l.space l.end (rest l.heads (bracketed l.heads) l.word l.first l.i) ≡ written l.initial.space l.initial.end (rest l.heads (bracketed l.heads) l.word true 0))
    × (l.end + length (rest l.heads (bracketed l.heads) l.word l.first l.i) ≡ l.initial.end + length (rest l.heads (bracketed l.heads) l.word true 0))
    × (l.initial.end + length (rest l.heads (bracketed l.heads) l.word true 0) ≤ length l.space)
