use Rattle.std.proofs.Common.{◌≡◌, sym, subst, arith}
use Rattle.std.specs.Option.{option_or}
use Rattle.std.specs.Bool.{then_some}
use Rattle.word_set.specs.Bits.{in_set}
use Rattle.search.specs.Arcs.{BestHead, weight_in_graph, arc_in}
use Rattle.search.proofs.Scan.{head_either}
use Rattle.search.proofs.graph.Graph.best_head.Goals as goal

pub returns : goal.returns
returns g c =
    let f = g.K.Kind.worth in
    let e : c.or.result ≡ option_or c.best_word-word.result (then_some (in_set c.args.heads 0) 0) = cc in
    subst (λ o. BestHead (in_set c.args.heads) (λ h. arc_in f c.args.self.now h c.args.to) o) (sym e)
    (head_either (weight_in_graph f c.args.self.now) c.args.to c.args.heads c.only.result c.without.result c.without.ensures (c.only.ensures.small (omega arith)) c.best_word-word.result c.best_word-word.ensures)
