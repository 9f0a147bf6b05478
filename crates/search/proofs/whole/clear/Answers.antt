use Rattle.std.proofs.Common.{◌+◌, ◌<◌, [], length, drop, get_or, map, ap, ◌∙◌, inl, inr, arith}
use Rattle.std.proofs.lemmas.Bool.{cases_eq}
use Rattle.std.proofs.lemmas.List.{map-append, get_or_append_left, length-map, length-take}
use Rattle.search.specs.Arcs.{potential}
use Rattle.weight.specs.Layers.{root_worth}
use Rattle.search.proofs.Raised.{at_set_same, at_set_other}
use Rattle.search.proofs.whole.clear.Goals as goal

pub loop-potential-preserved : goal.loop-potential-preserved
loop-potential-preserved g c w lt =
    let f = g.K.Kind.worth in
    let k = c.loop-potential.potential-index in
    let l : k < length c.loop-potential.potential-items = omega (arith, c.loop-potential-test.true, c.loop-potential.auto.potential-items) in
    elim (cases_eq w k) [
      | inl q ↦ ap (potential f _) q ∙ (at_set_same (root_worth f) c.loop-potential.potential-items k c.nothing.result l ∙ c.nothing.ensures)
      | inr q ↦ at_set_other (root_worth f) c.loop-potential.potential-items k w c.nothing.result q ∙ c.loop-potential.invariant w (omega arith)
    ]

pub returns : goal.returns
returns g c w le =
    let f = root_worth g.K.Kind.worth in
    let items = c.loop-potential.potential-items in
    let long = length-take (c.args.words + 1) c.args.potentials.now in
    let l : w < length (map f items) = simp length-map (omega (arith, c.loop-potential.auto.potential-items, c.requires.room)) in
    ap (λ ws. get_or ws w []) (map-append f items (drop (c.args.words + 1) c.args.potentials.now)) ∙ (get_or_append_left (map f items) _ [] w l ∙ c.loop-potential.invariant w (omega (arith, c.loop-potential-test.false, c.requires.room)))
