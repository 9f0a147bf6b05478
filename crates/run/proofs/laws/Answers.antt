use Rattle.run.proofs.Alike.{calls_settle, runs_alike, fresh_alike, by_hand_alike}
use Rattle.run.proofs.Files.{file_stands}
use Rattle.run.proofs.Truly.{truly}
use Rattle.run.proofs.laws.Goals as goal

pub returns-clause-truly : goal.returns-clause-truly
returns-clause-truly g c = truly g.K.Kind.worth g.K.Kind.ranges

pub returns-clause-settled : goal.returns-clause-settled
returns-clause-settled g c = calls_settle g.K.Kind.worth g.K.Kind.ranges

pub returns-clause-alike : goal.returns-clause-alike
returns-clause-alike g c = runs_alike g.K.Kind.worth g.K.Kind.ranges

pub returns-clause-fresh : goal.returns-clause-fresh
returns-clause-fresh g c = fresh_alike g.K.Kind.worth g.K.Kind.ranges

pub returns-clause-file : goal.returns-clause-file
returns-clause-file g c = file_stands

pub returns-clause-by_hand : goal.returns-clause-by_hand
returns-clause-by_hand g c = by_hand_alike g.K.Kind.worth g.K.Kind.ranges
