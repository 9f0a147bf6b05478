use Rattle.std.proofs.Common.{◌≡◌, ℕ, suc, ◌-◌, ◌<◌, Bool, length, length-set, ap, ◌∙◌, subst, arith, rules}
use Rattle.weight.specs.Worth.{Worth, zeros}
use Rattle.weight.specs.Layers.{root_worth}
use Rattle.tree.specs.Chains.{Word}
use Rattle.search.specs.Arcs.{stands_in, arc_in}
use Rattle.search.specs.Family.{Group, Begun}
use Rattle.search.specs.State.{group_at}
use Rattle.search.proofs.Scan.{free_arc}
use Rattle.search.proofs.Steps.{group_set_same}
use Rattle.search.proofs.Begins.{begin_none, begin_some, begin_more}
use Rattle.search.proofs.whole.begin.Goals as goal

pub loop-to-init : goal.loop-to-init
loop-to-init g c =
    let f = g.K.Kind.worth in
    let l : 0 < length c.args.nodes.now = omega (arith, c.requires.room) in
    let e = group_set_same f c.args.nodes.now 0 _ l ∙ c.new.ensures in
    record { top = ap (λ (x : Group). x.to) e; root = ap (λ (x : Group). x.from) e; words = λ w v. absurd (omega (arith, v.0, v.1)) }

pub best_head-requires : goal.best_head-requires
best_head-requires g c =
    let f = g.K.Kind.worth in
    let n : ℕ = c.args.graph.now.words in
    let v : Word n c.loop-to.to = (c.loop-to.auto.to, omega (arith, c.loop-to-test.true)) in
    let q = free_arc f (arc_in f c.args.graph.now) n (stands_in c.args.graph.now) c.only-members.result c.loop-to.to c.open_heads.result c.without.result c.open_heads.ensures c.without.ensures in
    record { to = v; heads = λ h t. (q h t).0 }

pub arc-value-requires : goal.arc-value-requires
arc-value-requires g c =
    let f = g.K.Kind.worth in
    let n : ℕ = c.args.graph.now.words in
    let v : Word n c.loop-to.to = (c.loop-to.auto.to, omega (arith, c.loop-to-test.true)) in
    let q = free_arc f (arc_in f c.args.graph.now) n (stands_in c.args.graph.now) c.only-members.result c.loop-to.to c.open_heads.result c.without.result c.open_heads.ensures c.without.ensures in
    record { to = v; from = (q c.in_ok-from.from c.in_ok-from.ensures.0).0 }

pub returns-in_err-from : goal.returns-in_err-from
returns-in_err-from g c =
    let f = g.K.Kind.worth in
    let n : ℕ = c.args.graph.now.words in
    let v : Word n c.loop-to.to = (c.loop-to.auto.to, omega (arith, c.loop-to-test.true)) in
    let one = c.only-members.ensures.small (omega (arith, v.1, c.args.graph.now.few)) in
    rw c.from_residual.ensures
    (begin_none f n (stands_in c.args.graph.now) (arc_in f c.args.graph.now) (zeros (suc g.K.Kind.places)) c.loop-to.to c.only-members.result c.open_heads.result c.without.result v one c.open_heads.ensures c.without.ensures c.in_err-from.ensures)

pub offset_bounds-nodes-to : goal.offset_bounds-nodes-to
offset_bounds-nodes-to g c =
    let l : c.loop-to.to < length c.args.nodes.now = omega (arith, c.loop-to-test.true, c.requires.room) in
    search (rules, l)

pub loop-to-preserved : goal.loop-to-preserved
loop-to-preserved g c =
    let f = g.K.Kind.worth in
    let n : ℕ = c.args.graph.now.words in
    let k : ℕ = c.loop-to.to in
    let stands : ℕ → ℕ → Bool = stands_in c.args.graph.now in
    let worth : ℕ → ℕ → Worth = arc_in f c.args.graph.now in
    let z : Worth = zeros (suc g.K.Kind.places) in
    let v : Word n k = (c.loop-to.auto.to, omega (arith, c.loop-to-test.true)) in
    let one = c.only-members.ensures.small (omega (arith, v.1, c.args.graph.now.few)) in
    let long : length c.loop-to.nodes ≡ length c.args.nodes.now = c.loop-to.auto.nodes ∙ length-set c.args.nodes.now 0 _ in
    let l : k < length c.loop-to.nodes = omega (arith, c.loop-to-test.true, c.requires.room) in
    let b = begin_some f n stands worth z k c.only-members.result c.open_heads.result c.without.result v one c.open_heads.ensures c.without.ensures c.requires.sound.whole c.in_ok-from.from (root_worth f c.arc-value.result) c.arc-value.ensures c.in_ok-from.ensures in
    begin_more f n stands worth z c.loop-to.nodes k _ v.0 l b c.loop-to.invariant

pub returns : goal.returns
returns g c =
    let f = g.K.Kind.worth in
    let n : ℕ = c.args.graph.now.words in
    let e : c.loop-to.to - 1 ≡ n = omega (arith, c.loop-to-test.false, c.loop-to.auto.to-end (omega arith)) in
    subst (λ (k : ℕ). Begun n k (stands_in c.args.graph.now) (arc_in f c.args.graph.now) (zeros (suc g.K.Kind.places)) (group_at f c.loop-to.nodes)) e c.loop-to.invariant
