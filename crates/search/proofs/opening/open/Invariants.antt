use Rattle.std.proofs.Common.{map, reverse}
use Rattle.std.specs.Iterator.Adapters.{rev_source}
use Rattle.std.specs.Slice.Iter.{iter_rest}
use Rattle.tree.specs.Chains.{head_of}
use Rattle.search.specs.State.{view, base_in, sets_in}
use Rattle.search.proofs.Heads.{Left}
use Rattle.search.proofs.opening.open.Given as goal

abbrev pub invariant-loop-node : goal.invariant-loop-node
invariant-loop-node g l =
    let f = g.K.Kind.worth in
    Left g.K.Kind.places l.family.words (base_in f l.family) (sets_in f l.family) (map (view f) (reverse (iter_rest (rev_source l.node-iterator)))) l.done (head_of l.heads)
