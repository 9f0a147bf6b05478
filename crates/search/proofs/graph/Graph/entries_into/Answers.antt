use Rattle.std.proofs.Common.{not, ap}
use Rattle.std.proofs.lemmas.Bool.{and_from}
use Rattle.word_set.specs.Bits.{in_set}
use Rattle.search.proofs.graph.Graph.entries_into.Goals as goal

pub returns : goal.returns
returns g c h t =
    let left = c.loop-from.from-iterator.left in
    c.loop-from.invariant.1 h (and_from (in_set c.args.heads h) (not (in_set left h)) t (ap not (c.in-None.ensures.steps.0 h)))
