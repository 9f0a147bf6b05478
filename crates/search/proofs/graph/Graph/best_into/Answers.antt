use Rattle.std.proofs.Common.{◌≡◌, ℕ, ◌+◌, Bool, sym, ◌∙◌, subst, arith}
use Rattle.weight.specs.Worth.{Worth}
use Rattle.tree.specs.Chains.{Word}
use Rattle.search.specs.Arcs.{stands_in, arc_in, potential, Best, SetArc, with_potential}
use Rattle.search.proofs.Scan.{free_arc, set_skip, set_take}
use Rattle.search.proofs.graph.Graph.best_into.Goals.{then-holds, else-holds}
use Rattle.search.proofs.graph.Graph.best_into.Goals as goal

pub best_arc-requires : goal.best_arc-requires
best_arc-requires g c =
    let f = g.K.Kind.worth in
    let n : ℕ = c.args.self.now.words in
    let to : ℕ = c.loop-to.to in
    let v : Word n to = (c.loop-to.auto.to, omega (arith, c.loop-to-test.true)) in
    let w : ℕ → ℕ → Worth = with_potential (arc_in f c.args.self.now) (potential f c.args.potentials.now) in
    let q = free_arc f w n (stands_in c.args.self.now) _ to c.open_heads.result c.without-heads.result c.open_heads.ensures c.without-heads.ensures in
    record {
      to = v;
      heads = λ h t. (q h t).0;
      small = λ h t. c.requires.small h to v (q h t).0 (q h t).1;
      room = omega (arith, v.1, c.requires.room);
      add = c.requires.added to v;
    }

pub loop-to-preserved : goal.loop-to-preserved
loop-to-preserved g c =
    let f = g.K.Kind.worth in
    let n : ℕ = c.args.self.now.words in
    let to : ℕ = c.loop-to.to in
    let v : Word n to = (c.loop-to.auto.to, omega (arith, c.loop-to-test.true)) in
    let stands : ℕ → ℕ → Bool = stands_in c.args.self.now in
    let w : ℕ → ℕ → Worth = with_potential (arc_in f c.args.self.now) (potential f c.args.potentials.now) in
    elim c.if-holds.branch [
      | then-holds y ↦
          subst (Best f (SetArc n (to + 1) stands c.args.inside) w) (sym (y.best-is ∙ y.better-best.ensures))
          (set_take f w n stands c.args.inside to y.open_heads.result y.without-heads.result y.open_heads.ensures y.without-heads.ensures c.loop-to.best y.best_arc.result v (sym y.if-holds.ensures) y.best_arc.ensures c.loop-to.invariant)
      | else-holds y ↦
          subst (Best f (SetArc n (to + 1) stands c.args.inside) w) (sym y.best-is)
          (set_skip f w n stands c.args.inside to c.loop-to.best (sym y.if-holds.ensures) c.loop-to.invariant)
    ]

pub returns : goal.returns
returns g c =
    let f = g.K.Kind.worth in
    let n : ℕ = c.args.self.now.words in
    let e : c.loop-to.to ≡ n + 1 = omega arith in
    subst (λ (k : ℕ). Best f (SetArc n k (stands_in c.args.self.now) c.args.inside) (with_potential (arc_in f c.args.self.now) (potential f c.args.potentials.now)) c.loop-to.best) e c.loop-to.invariant
