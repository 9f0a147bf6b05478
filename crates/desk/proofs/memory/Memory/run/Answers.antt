use Rattle.std.proofs.Common.{◌≡◌, [], length, subst, ◌∙◌}
use Rattle.desk.proofs.Lists.{same_lists, kept_lists}
use Rattle.ranking.specs.Calls.{part_lengths}
use Rattle.ranking.specs.Memory.{MemoryParts as Parts}
use Rattle.run.specs.Loans.{lists}
use Rattle.run.specs.Steps.{Ran, run_check}
use Rattle.sheet.specs.Calls.{Answered}
use Rattle.desk.proofs.memory.Memory.run.Goals as goal

pub returns : goal.returns
returns g c =
    let n = c.run_in.new in
    let a = c.run_in.auto in
    let after = lists n.weights n.sets n.candidates n.nodes n.merges n.potentials in
    let same = same_lists _ _ _ _ _ _ _ _ _ _ _ _ c.deref_mut.ensures.value c.deref_mut-2.ensures.value c.deref_mut-3.ensures.value c.deref_mut-4.ensures.value c.deref_mut-5.ensures.value c.deref_mut-6.ensures.value in
    let kept =
    kept_lists c.args.self.now after (a.weights ∙ c.deref_mut.ensures.len) (a.sets ∙ c.deref_mut-2.ensures.len) (a.candidates ∙ c.deref_mut-3.ensures.len) (a.nodes ∙ c.deref_mut-4.ensures.len) (a.merges ∙ c.deref_mut-5.ensures.len) (a.potentials ∙ c.deref_mut-6.ensures.len) in
    rw kept (subst (λ (m : Parts g.row.K.Denot). Answered (run_check c.args.words (part_lengths m) (length c.args.calls.now) (length c.args.turns.now)) c.run_in.result ((after ≡ m) × (n.turns ≡ c.args.turns.now)) (Ran g.K.Kind.worth g.K.Kind.ranges c.args.words [] c.args.calls.now m after c.args.turns.now n.turns)) same c.run_in.ensures)
