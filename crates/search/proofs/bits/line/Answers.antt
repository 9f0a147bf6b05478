use Rattle.std.proofs.Common.{◌+◌, arith}
use Rattle.word_set.proofs.Sets.{in_set_line}
use Rattle.std.proofs.lemmas.Nat.{one_shl}
use Rattle.search.proofs.bits.line.Goals as goal

pub returns : goal.returns
returns c v = rw (one_shl (c.args.n + 1) 64 (omega arith)) (in_set_line c.args.n v)
