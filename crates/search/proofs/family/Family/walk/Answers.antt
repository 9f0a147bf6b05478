use Rattle.std.proofs.Common.{◌≡◌, ℕ, suc, ◌<◌, ◌≤◌, true, sym, refl, ap, ◌∙◌, subst, inl, arith}
use Rattle.std.proofs.lemmas.Bool.{both_ways, eq-eqb}
use Rattle.word_set.specs.Bits.{in_set}
use Rattle.search.specs.State.{head_in}
use Rattle.word_set.proofs.Sets.{in_set_empty}
use Rattle.search.proofs.Counts.{missing_less}
use Rattle.search.proofs.Records.{leads_more, start_seen, not_root, walked_start, up_last}
use Rattle.search.proofs.family.Family.walk.Goals as goal

pub steps-init : goal.steps-init
steps-init g c = (c.requires.start.1, λ x t. absurd (both_ways (in_set 0 x) (in_set_empty x) t), inl refl, (0, refl))

pub steps-smaller : goal.steps-smaller
steps-smaller g c =
    let one : 1 ≤ c.steps.word = not_root c.args.fine c.steps.word c.requires.root (sym c.steps-test.ensures) in
    let small : c.steps.word < 64 = omega (arith, c.steps.invariant.0, c.args.self.now.few) in
    missing_less c.args.self.now.words c.steps.seen c.only.result c.either-seen.result c.steps.word (one, c.steps.invariant.0) c.either-seen.ensures (sym c.if-holds.ensures) (c.only.ensures.small small c.steps.word ∙ eq-eqb c.steps.word c.steps.word refl)

pub steps-preserved : goal.steps-preserved
steps-preserved g c =
    let one : 1 ≤ c.steps.word = not_root c.args.fine c.steps.word c.requires.root (sym c.steps-test.ensures) in
    let small : c.steps.word < 64 = omega (arith, c.steps.invariant.0, c.args.self.now.few) in
    let h = head_in g.K.Kind.worth c.args.self.now in (
      subst (λ (x : ℕ). x ≤ c.args.self.now.words) (sym c.head-word.ensures) (c.requires.heads c.steps.word (one, c.steps.invariant.0)),
      leads_more h c.steps.seen c.only.result c.either-seen.result c.steps.word c.head-word.result c.either-seen.ensures (c.only.ensures.small small) c.head-word.ensures c.steps.invariant.1,
      start_seen c.steps.seen c.only.result c.either-seen.result c.steps.word c.args.start c.head-word.result c.either-seen.ensures (c.only.ensures.small small) c.steps.invariant.2,
      (suc c.steps.invariant.3.0, up_last h c.steps.invariant.3.0 c.args.start ∙ (ap h c.steps.invariant.3.1 ∙ sym c.head-word.ensures)),
    )

pub returns : goal.returns
returns g c =
    let t : in_set c.args.fine c.steps.word ≡ true = sym c.steps-test.ensures in
    (λ x s. let l = c.steps.invariant.1 x s in (suc l.0, subst (λ (v : ℕ). in_set c.args.fine v ≡ true) (sym l.1) t), walked_start c.args.fine c.steps.seen c.steps.word c.args.start t c.steps.invariant.2)

pub returns-then-holds : goal.returns-then-holds
returns-then-holds g c =
    let one : 1 ≤ c.steps.word = not_root c.args.fine c.steps.word c.requires.root (sym c.steps-test.ensures) in
    ((one, c.steps.invariant.0), c.steps.invariant.1 c.steps.word (sym c.if-holds.ensures), c.steps.invariant.3)
