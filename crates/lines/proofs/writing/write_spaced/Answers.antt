use Rattle.lines.proofs.Spacing.{split_first, length_split, blanked_more, length_blanked}
use Rattle.lines.proofs.writing.write_spaced.Goals as goal
use Rattle.std.proofs.lemmas.List.{drop_all}
use Rattle.text.proofs.Places.{written_none, written_two, mark_then}
use Rattle.std.proofs.Common.{rules}

pub loop-number-preserved : goal.loop-number-preserved
loop-number-preserved c = search (rules, length_blanked, blanked_more, mark_then)

pub returns : goal.returns
returns c = search (rules, length_split, split_first, drop_all, written_none, written_two)
