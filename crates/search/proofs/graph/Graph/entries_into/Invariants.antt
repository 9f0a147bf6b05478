use Rattle.std.proofs.Common.{◌≡◌, ℕ, true, not, ◌&&◌}
use Rattle.weight.specs.Range.{entry_in}
use Rattle.word_set.specs.Bits.{in_set}
use Rattle.search.specs.Arcs.{weight_in_graph, EntriesInto}
use Rattle.search.proofs.graph.Graph.entries_into.Given as goal

abbrev pub invariant-loop-from : goal.invariant-loop-from
invariant-loop-from g l =
    ((h : ℕ) → in_set l.from-iterator.left h ≡ true → in_set l.heads h ≡ true)
    × EntriesInto (λ h. in_set l.heads h && not (in_set l.from-iterator.left h)) (λ h. entry_in g.K.Kind.ranges (weight_in_graph g.K.Kind.worth l.self h l.to)) true
