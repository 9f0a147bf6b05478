use Rattle.std.proofs.Common.{◌+◌, ◌++◌, drop, sym, ap, ◌∙◌, arith, length-drop, length-take}
use Rattle.std.specs.Fmt.{signed_decimal}
use Rattle.std.proofs.lemmas.Result.{err_from_is_err_and}
use Rattle.weight.specs.Worth.{Worth}
use Rattle.weight.specs.Text.{text}
use Rattle.weight.proofs.Places.{lengths, part_same, front_put}
use Rattle.weight.proofs.showing.show_front.Goals as goal

-- the rest did not fit, and nothing was written yet
pub returns-in_err-n : goal.returns-in_err-n
returns-in_err-n g c =
    let a : Worth = g.K.Kind.worth c.args.rest.now in
    let l = lengths c.args.front a c.width-behind.result g.K.Kind.places c.ranges.front c.width-behind.ensures.value g.K.Kind.some (g.K.Kind.sized c.args.rest.now) in
    let h = c.in_err-n.ensures in
    let short = simp (length-take, length-drop) at h.1 in
    let p = err_from_is_err_and c.from_residual.result c.from_residual.ensures.1 in
    rw (p.1, p.2)
    (h.0, omega (arith, l.whole, short, c.if-behind-space.false), part_same c.args.space.now (c.width-behind.result + 1) c.show.new.space h.2)

-- the rest stands behind, the front and the comma before it
pub returns : goal.returns
returns g c =
    let a : Worth = g.K.Kind.worth c.args.rest.now in
    let l = lengths c.args.front a c.width-behind.result g.K.Kind.places c.ranges.front c.width-behind.ensures.value g.K.Kind.some (g.K.Kind.sized c.args.rest.now) in
    let h = c.in_ok-n.ensures in
    let room = simp (length-take, length-drop) at h.1 in
    let put = rw l.same at c.put.ensures in
    let after = front_put c.args.space.now (signed_decimal c.args.front) (text a) c.show.new.space c.put.new.space c.width-behind.result c.in_ok-n.n c.put.result l.width (omega arith) h.2 put in
    (omega (arith, l.whole, h.0), omega (arith, room, c.if-behind-space.false), after ∙ ap (λ t. t ++ drop (c.width-behind.result + 1 + c.in_ok-n.n) c.args.space.now) (sym l.shape))
