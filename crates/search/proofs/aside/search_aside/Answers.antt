use Rattle.std.proofs.Common.{ℕ, length}
use Rattle.search.specs.Arcs.{weight_at}
use Rattle.search.specs.State.{Room}
use Rattle.search.proofs.Found.{aside_same}
use Rattle.search.proofs.aside.search_aside.Goals as goal

pub returns-clause-told : goal.returns-clause-told
returns-clause-told g c =
    let a = c.args in
    (aside_same g.K.Kind.worth g.K.Kind.ranges a.words a.sets.now a.held.now a.barred c.without.result (weight_at g.K.Kind.worth a.words a.weights.now)
    (λ (k : ℕ). Room a.words k (length a.weights.now) (length a.working.now.nodes.now) (length a.working.now.merges.now) (length a.working.now.potentials.now)) a.heads.now c.best_tree.new.heads c.best_tree.result c.requires.held c.without.ensures
    c.seen.ensures c.best_tree.ensures.told c.best_tree.ensures.settled).0

pub returns-clause-settled : goal.returns-clause-settled
returns-clause-settled g c =
    let a = c.args in
    (aside_same g.K.Kind.worth g.K.Kind.ranges a.words a.sets.now a.held.now a.barred c.without.result (weight_at g.K.Kind.worth a.words a.weights.now)
    (λ (k : ℕ). Room a.words k (length a.weights.now) (length a.working.now.nodes.now) (length a.working.now.merges.now) (length a.working.now.potentials.now)) a.heads.now c.best_tree.new.heads c.best_tree.result c.requires.held c.without.ensures
    c.seen.ensures c.best_tree.ensures.told c.best_tree.ensures.settled).1
