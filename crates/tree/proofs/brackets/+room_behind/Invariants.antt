use Rattle.std.proofs.Common.{◌≡◌, ◌+◌, length}
use Rattle.tree.proofs.Depths.{unwritten}
use Rattle.tree.proofs.Rests.{rest}
use Rattle.tree.proofs.brackets.+room_behind.Given as goal
use Rattle.tree.specs.Brackets.{bracketed}

abbrev pub decreases-room_behind : goal.decreases-room_behind
decreases-room_behind l = unwritten l.heads.now l.word

-- the room that is left is for what is still to come
abbrev pub invariant-loop-i : goal.invariant-loop-i
invariant-loop-i l = l.free + length (bracketed l.heads l.word) ≡ l.room + length (rest l.heads (bracketed l.heads) l.word l.first l.i)
