use Rattle.weight.specs.Worth.{plus, minus}
use Rattle.word_set.specs.Bits.{in_set}
use Rattle.weight.specs.Layers.{root_worth}
use Rattle.search.specs.Arcs.{potential}
use Rattle.search.specs.Family.{best_of}
use Rattle.search.specs.State.{base_in, sets_in}
use Rattle.search.proofs.Raised.{RaisedTo}
use Rattle.search.proofs.family.Family.raise.Given as goal

abbrev pub invariant-loop-word : goal.invariant-loop-word
invariant-loop-word g l =
    let f = g.K.Kind.worth in
    let old = potential f l.initial.potentials in
    RaisedTo (root_worth f) l.self.words (in_set l.members) (λ d. minus (plus (old d) (root_worth f l.all)) (best_of (base_in f l.self) (sets_in f l.self) d)) old l.potentials l.word
