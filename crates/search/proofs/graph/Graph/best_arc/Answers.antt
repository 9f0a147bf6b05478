use Rattle.std.proofs.Common.{◌≡◌, ◌^◌, sym, refl, ap, ◌∙◌, subst, arith}
use Rattle.weight.specs.Worth.{Worth, plus, Within}
use Rattle.weight.specs.Layers.{root_worth}
use Rattle.weight.proofs.Worths.{within_more}
use Rattle.search.specs.Arcs.{arc_in, potential}
use Rattle.search.proofs.Scan.{element, best_arc}
use Rattle.search.proofs.graph.Graph.best_arc.Goals as goal

pub returns : goal.returns
returns g c =
    let f = g.K.Kind.worth in
    let from = c.in_ok-from.from in
    let best = c.in_ok-from.ensures in
    let a : Worth = arc_in f c.args.self.now from c.args.to in
    let e : root_worth f c.index-potentials-to.result ≡ potential f c.args.potentials.now c.args.to = element (root_worth f) c.args.potentials.now c.args.to c.index-potentials-to.result c.requires.room c.index-potentials-to.is in
    let arc_small : Within (2 ^ 40) (root_worth f c.arc.result) = subst (Within (2 ^ 40)) (sym c.arc.ensures) (within_more (2 ^ 20) (2 ^ 40) a (omega arith) (c.requires.small from best.0)) in
    let add_small : Within (2 ^ 40) (root_worth f c.index-potentials-to.result) = subst (Within (2 ^ 40)) (sym e) (within_more (2 ^ 30) (2 ^ 40) _ (omega arith) c.requires.add) in
    best_arc f (arc_in f c.args.self.now) (potential f c.args.potentials.now) c.args.heads c.args.to (record { from = from; to = c.args.to; value = c.sum-value.result }) refl (c.sum-value.ensures.exact arc_small add_small ∙ (ap (λ (x : Worth). plus x (root_worth f c.index-potentials-to.result)) c.arc.ensures ∙ ap (plus a) e)) best
