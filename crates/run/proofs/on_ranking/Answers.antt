use Rattle.run.specs.Loans.{lists_of}
use Rattle.run.proofs.Turns.{misplaced}
use Rattle.run.proofs.on_ranking.Goals as goal

pub returns-in_default-clause-stepped : goal.returns-in_default-clause-stepped
returns-in_default-clause-stepped g c = misplaced g.K.Kind.worth g.K.Kind.ranges c.args.ranking (lists_of c.args.memory.now) c.args.call c.in_default.not-Take c.in_default.not-End
