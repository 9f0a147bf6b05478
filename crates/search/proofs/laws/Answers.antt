use Rattle.search.proofs.Choosing.{found_once, same_sets, limited_sets}
use Rattle.search.proofs.Found.{searches_alike}
use Rattle.search.proofs.laws.Goals as goal

pub returns-clause-alike : goal.returns-clause-alike
returns-clause-alike g c = searches_alike g.K.Kind.worth g.K.Kind.ranges

pub returns-clause-once : goal.returns-clause-once
returns-clause-once g c = found_once

pub returns-clause-sets : goal.returns-clause-sets
returns-clause-sets g c = same_sets

pub returns-clause-limited : goal.returns-clause-limited
returns-clause-limited g c = limited_sets
