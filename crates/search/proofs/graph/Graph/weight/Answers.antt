use Rattle.std.proofs.Common.{◌+◌, ◌-◌, ◌*◌, ◌<◌, [], length, sym, arith, rules}
use Rattle.std.proofs.lemmas.List.{get_or-map}
use Rattle.search.proofs.Scan.{place_lt}
use Rattle.search.proofs.graph.Graph.weight.Goals as goal

pub offset_bounds-self-to : goal.offset_bounds-self-to
offset_bounds-self-to g c =
    let n = c.args.self.now.words in
    let l : (c.args.to - 1) * (n + 1) + c.args.from < length c.args.self.now.weights.now = omega (arith, place_lt n c.args.from c.args.to c.requires.to c.requires.from, c.args.self.now.weights_in) in
    search (rules, l)

pub returns : goal.returns
returns g c =
    let n = c.args.self.now.words in
    let l : (c.args.to - 1) * (n + 1) + c.args.from < length c.args.self.now.weights.now = omega (arith, place_lt n c.args.from c.args.to c.requires.to c.requires.from, c.args.self.now.weights_in) in
    sym (get_or-map g.K.Kind.worth c.args.self.now.weights.now _ c.index-self-to.result [] l)
