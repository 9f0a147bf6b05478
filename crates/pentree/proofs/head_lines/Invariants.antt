-- The heads so far are told.
use Rattle.std.proofs.Common.{◌≡◌, ◌+◌, ◌++◌, length}
use Rattle.pentree.specs.Texts.{head_lines}
use Rattle.pentree.proofs.head_lines.Given as goal

abbrev pub invariant-loop-rest : goal.invariant-loop-rest
invariant-loop-rest l = (l.text.items ++ head_lines l.word l.rest ≡ head_lines 1 l.heads) × (l.word + length l.rest ≡ 1 + length l.heads)

abbrev pub decreases-loop-rest : goal.decreases-loop-rest
decreases-loop-rest l = length l.rest
