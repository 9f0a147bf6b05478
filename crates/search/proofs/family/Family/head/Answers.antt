use Rattle.std.proofs.Common.{ap, ◌∙◌}
use Rattle.search.specs.Family.{Group}
use Rattle.search.specs.State.{base_in, sets_in}
use Rattle.search.proofs.Records.{entry_from}
use Rattle.search.proofs.family.Family.head.Goals as goal

pub returns : goal.returns
returns g c =
    let f = g.K.Kind.worth in
    ap (λ (x : Group). x.from) c.top.ensures ∙ entry_from (base_in f c.args.self.now) (sets_in f c.args.self.now) c.args.word
