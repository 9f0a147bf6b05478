use Rattle.std.proofs.Common.{◌≡◌, take, sym, ◌∙◌}
use Rattle.weight.specs.Text.{text}
use Rattle.bench.proofs.Fronts.{front_text}
use Rattle.bench.proofs.texts.shows.Goals as goal
use Rattle.std.proofs.lemmas.Bool.Decides.{Decides-eqb}
use Rattle.std.proofs.lemmas.Slice.Eq.{slice_eq-Decides}

pub returns-in-Ok : goal.returns-in-Ok
returns-in-Ok g c =
    let front : take c.in-Ok.long c.show.new.space ≡ text (g.K.Kind.worth c.args.weight.now) = front_text (text (g.K.Kind.worth c.args.weight.now)) _ c.show.new.space c.in-Ok.long c.in-Ok.ensures.0 c.in-Ok.ensures.2 in
    let equal = slice_eq-Decides Decides-eqb (take c.in-Ok.long c.show.new.space) c.args.shown.now c.eq.result c.eq.ensures in
    λ fits. ((λ yes. sym (equal.0 yes) ∙ front), (λ same. equal.1 (front ∙ sym same)))
