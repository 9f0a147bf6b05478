use Rattle.std.proofs.Common.{ℕ, OnOk, Result, subst, sym}
use Rattle.console.specs.Answers.{Writes}
use Rattle.file.specs.declared.fault.FileFault.{FileFault}
use Rattle.penrank.specs.Files.{TextOf}
use Rattle.sheet.specs.Arcs.{Arcs}
use Rattle.penrank.proofs.rank.Goals as goal

pub returns-in-Ok : goal.returns-in-Ok
returns-in-Ok g c =
    let out = g.W.Write.contents in
    subst (λ (said : Result (ℕ × Arcs g.row.K.Denot) FileFault). OnOk c.write_ranking.result (Writes (out c.args.out.now) (out c.write_ranking.new.out) (TextOf g.K.Kind.worth said)))
    (sym c.in-Ok.ensures.truly.0) c.write_ranking.ensures
