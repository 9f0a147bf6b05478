use Rattle.std.proofs.Common.{◌≡◌, Err, ◌∙◌, arith, rules}
use Rattle.std.proofs.lemmas.Bool.{or_left}
use Rattle.search.proofs.Records.{fine_more, fine_start, starts_more}
use Rattle.word_set.specs.Bits.{in_set}
use Rattle.search.specs.State.{head_in}
use Rattle.search.proofs.family.Family.walk_all.Goals as goal

pub loop-start-init : goal.loop-start-init
loop-start-init g c = fine_start (head_in g.K.Kind.worth c.args.self.now) c.only-fine.result (c.only-fine.ensures.small (omega arith))

pub loop-start-preserved : goal.loop-start-preserved
loop-start-preserved g c =
    let h = head_in g.K.Kind.worth c.args.self.now in
    let seen = c.in_ok-walk.field-0 in
    let w = c.in_ok-walk.ensures in
    let is = c.either-fine.ensures in (
      fine_more h c.loop-start.fine seen c.either-fine.result is w.0 c.loop-start.invariant.0,
      is 0 ∙ or_left (in_set c.loop-start.fine 0) (in_set seen 0) c.loop-start.invariant.1,
      starts_more c.loop-start.fine seen c.either-fine.result c.loop-start.start is w.1 c.loop-start.invariant.2,
    )

pub returns : goal.returns
returns g c = λ w v. c.loop-start.invariant.0 w (c.loop-start.invariant.2 w v.0 (omega arith))

pub returns-in_err-walk : goal.returns-in_err-walk
returns-in_err-walk g c =
    let w = c.in_err-walk.ensures in
    let e : c.from_residual.result ≡ Err c.in_err-walk.field-0.0 = search rules in
    rw e (w.0, w.1, record { start = c.loop-start.start; word = (c.loop-start.auto.start, omega arith); earlier = λ v one lt. c.loop-start.invariant.0 v (c.loop-start.invariant.2 v one lt); way = w.2 })
