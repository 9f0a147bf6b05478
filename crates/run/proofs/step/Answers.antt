use Rattle.run.proofs.step.Goals as goal

pub returns-in-Open-clause-stepped : goal.returns-in-Open-clause-stepped
returns-in-Open-clause-stepped g c = rw c.in-Open.is (c.on_sheet.ensures c.args.memory.now.candidates.now c.args.memory.now.nodes.now c.args.memory.now.merges.now c.args.memory.now.potentials.now)
