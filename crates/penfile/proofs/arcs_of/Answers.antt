use Rattle.std.proofs.Common.{◌≡◌, ℕ, ◌+◌, ◌-◌, ◌++◌, sym, ap, ◌∙◌, arith}
use Rattle.penfile.proofs.Lists.{one_more}
use Rattle.penfile.specs.Lines.{all_standing, standing_into}
use Rattle.sheet.specs.Arcs.{arcs_in}
use Rattle.penfile.proofs.arcs_of.Goals as goal

pub loop-dependent-preserved : goal.loop-dependent-preserved
loop-dependent-preserved g c =
    let n = c.args.words in
    let d = c.loop-dependent.dependent in
    let into = λ (k : ℕ). standing_into (arcs_in n c.args.memory.now.weights.items c.args.memory.now.sets.items) k (n + 1) in
    let at : 1 + (d - 1) ≡ d = omega arith in
    c.in_ok-push_into.ensures
    ∙ ap (λ l. l ++ into d) c.loop-dependent.invariant
    ∙ sym (one_more into 1 (d - 1) (d + 1 - 1) (omega arith) ∙ ap (λ (k : ℕ). all_standing n (arcs_in n c.args.memory.now.weights.items c.args.memory.now.sets.items) (d - 1) ++ into k) at)
