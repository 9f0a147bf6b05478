use Rattle.tree.proofs.Lines.{RootBefore}
use Rattle.tree.proofs.check.only_root.Given as goal

abbrev pub invariant-loop-i : goal.invariant-loop-i
invariant-loop-i l = RootBefore l.heads l.i l.root
