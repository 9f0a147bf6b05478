use Rattle.word_set.proofs.Sets.{in_set_empty}
use Rattle.std.proofs.Common.{sym, ap, ◌∙◌}
use Rattle.search.specs.Family.{Group}
use Rattle.search.specs.State.{base_in, sets_in}
use Rattle.search.proofs.Records.{entry_from}
use Rattle.search.proofs.Rings.{going_start, going_more, going_less, ring_done, ring_here}
use Rattle.search.proofs.family.Family.ring_members.Goals as goal

pub steps-init : goal.steps-init
steps-init g c =
    let f = g.K.Kind.worth in
    going_start c.args.self.now.words (base_in f c.args.self.now) (sets_in f c.args.self.now) c.requires.laid c.args.word 0 c.requires.word in_set_empty

pub steps-smaller : goal.steps-smaller
steps-smaller g c =
    let base = base_in g.K.Kind.worth c.args.self.now in
    let ms = sets_in g.K.Kind.worth c.args.self.now in
    going_less c.args.self.now.words base ms c.requires.laid c.args.word c.steps.at c.steps.members c.top-node.result.members c.either-members.result c.top-node.result.arc.from c.requires.ring c.requires.word c.steps.invariant c.either-members.ensures
    (ap (λ (x : Group). x.members) c.top-node.ensures) (ap (λ (x : Group). x.from) c.top-node.ensures ∙ entry_from base ms c.steps.at) (sym c.steps-test.ensures)

pub steps-preserved : goal.steps-preserved
steps-preserved g c =
    let base = base_in g.K.Kind.worth c.args.self.now in
    let ms = sets_in g.K.Kind.worth c.args.self.now in
    going_more c.args.self.now.words base ms c.requires.laid c.args.word c.steps.at c.steps.members c.top-node.result.members c.either-members.result c.top-node.result.arc.from c.requires.ring c.requires.word c.steps.invariant c.either-members.ensures
    (ap (λ (x : Group). x.members) c.top-node.ensures) (ap (λ (x : Group). x.from) c.top-node.ensures ∙ entry_from base ms c.steps.at)

pub returns : goal.returns
returns g c =
    let f = g.K.Kind.worth in
    record {
      ring = ring_done c.args.self.now.words (base_in f c.args.self.now) (sets_in f c.args.self.now) c.requires.laid c.args.word c.steps.at c.steps.members c.requires.ring c.requires.word c.steps.invariant (sym c.steps-test.ensures);
      here = ring_here c.args.self.now.words (base_in f c.args.self.now) (sets_in f c.args.self.now) c.requires.laid c.args.word c.steps.at c.steps.members c.steps.invariant (sym c.steps-test.ensures);
    }
