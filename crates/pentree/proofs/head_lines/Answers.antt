use Rattle.std.proofs.Common.{rules}
use Rattle.pentree.proofs.Steps.{head_more}
use Rattle.pentree.proofs.head_lines.Goals as goal

pub loop-rest-preserved : goal.loop-rest-preserved
loop-rest-preserved c = (head_more c.loop-rest.text.items c.extend_from_slice.new.self.items _ c.loop-rest.rest.now c.loop-rest.word c.in-len1-up.len_at_least (search rules) c.loop-rest.invariant.0, search rules)
