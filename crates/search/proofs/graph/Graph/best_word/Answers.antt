use Rattle.std.proofs.Common.{ℕ, Some, sym, subst}
use Rattle.weight.specs.Worth.{Worth}
use Rattle.search.specs.Arcs.{weight_in_graph}
use Rattle.search.proofs.Scan.{Seen, seen_more, seen_all}
use Rattle.search.proofs.graph.Graph.best_word.Goals as goal

pub loop-from-preserved : goal.loop-from-preserved
loop-from-preserved g c =
    let w : ℕ → Worth = λ h. weight_in_graph g.K.Kind.worth c.args.self.now h c.args.to in
    let next = c.in-Some.ensures.steps in
    subst (λ (b : ℕ). Seen w c.args.heads c.next.new.self.left (Some b)) (sym c.better_head.ensures)
    (seen_more w c.args.heads c.loop-from.from-iterator.left c.next.new.self.left c.loop-from.best c.in-Some.from next.others next.inside next.lowest c.loop-from.invariant)

pub returns : goal.returns
returns g c =
    let w : ℕ → Worth = λ h. weight_in_graph g.K.Kind.worth c.args.self.now h c.args.to in
    seen_all w c.args.heads c.loop-from.from-iterator.left c.loop-from.best c.in-None.ensures.steps.0 c.loop-from.invariant
