use Rattle.std.proofs.Common.{◌≡◌, ℕ, ◌<◌, ◌≤◌}
use Rattle.tree.specs.Chains.{head_of}
use Rattle.search.specs.State.{group_at}
use Rattle.search.proofs.opening.first_heads.Given as goal

abbrev pub invariant-loop-word : goal.invariant-loop-word
invariant-loop-word g l = (w : ℕ) → 1 ≤ w → w < l.word → head_of l.heads w ≡ (group_at g.K.Kind.worth l.nodes w).from
