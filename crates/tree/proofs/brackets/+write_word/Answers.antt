use Rattle.text.proofs.Places.{written_none, written_one, mark_then}
use Rattle.tree.proofs.Depths.{length_bracketed, falls}
use Rattle.tree.proofs.Rests.{rest_yes, rest_no, rest_none, rest_last, length_rest}
use Rattle.tree.proofs.Texts.{whole_text}
use Rattle.tree.proofs.brackets.+write_word.Goals as goal
use Rattle.std.proofs.Common.{rules}

pub write_word-requires : goal.write_word-requires
write_word-requires t c = search (rules, length_rest, falls)

pub loop-i-preserved : goal.loop-i-preserved
loop-i-preserved t c = search (rules, length_rest, rest_yes, rest_no, mark_then)

pub returns-then-first-2-clause-after : goal.returns-then-first-2-clause-after
returns-then-first-2-clause-after t c = search (rules, length_bracketed, rest_none, written_none, whole_text)

pub returns-clause-after : goal.returns-clause-after
returns-clause-after t c = search (rules, length_bracketed, rest_last, written_one, whole_text)
