use Rattle.std.proofs.Common.{◌≡◌, ℕ, ◌-◌, true, false, length, get_or, replicate, set, sym, refl, ap, ◌∙◌, subst, ⊎_elim, arith, rules}
use Rattle.std.proofs.lemmas.Bool.{cases_lt}
use Rattle.tree.proofs.Walks.{Walked, begun_marked, begun_past, first_lies, head_at, on_cycle_runs, one_first, rooted_is_cycle_free, walk_again, walk_more, walk_rooted}
use Rattle.tree.proofs.cycle.find_cycle.Goals.{then-first-lt256, else-first-lt256}
use Rattle.tree.proofs.cycle.find_cycle.Goals as goal
use Rattle.tree.specs.Chains.{RunsIntoCycle, Word, head_of}
use Rattle.tree.specs.Trees.{CycleFree}

pub loop-word-init : goal.loop-word-init
loop-word-init c =
    let heads = c.args.heads.now in
    let w : ℕ = c.in-Some.first in
    let next : ℕ = get_or heads (w - 1) 0 in
    let is : next ≡ head_of heads w = head_at heads w (omega (arith, c.in-Some.ensures.steps, c.words.invariant)) in
    let long : length (set (replicate 256 false) w true) ≡ 256 = search rules in
    elim c.if-first-lt256.branch [
      | then-first-lt256 y ↦ (ap length y.seen-is ∙ long, search rules, subst (λ s. Walked heads s w next) (sym y.seen-is) (begun_marked heads w next is y.if-first-lt256.true))
      | else-first-lt256 y ↦ (ap length y.seen-is, search rules, subst (λ s. Walked heads s w next) (sym y.seen-is) (begun_past heads w next is y.if-first-lt256.false))
    ]

pub words-preserved : goal.words-preserved
words-preserved c =
    let heads = c.args.heads.now in
    let rooted = walk_rooted heads c.loop-word.seen c.in-Some.first (subst (Walked heads c.loop-word.seen c.in-Some.first) c.loop-word-test.false c.loop-word.invariant.2) in (
      omega (arith, c.in-Some.ensures.steps, c.words.invariant),
      omega (arith, c.in-Some.ensures.steps, c.words.invariant),
      λ w word lt runs.
          ⊎_elim (λ before. c.words.invariant.2 w word before runs)
          (λ le. let e : w ≡ c.in-Some.first = omega (arith, c.in-Some.ensures.steps) in rooted (subst (RunsIntoCycle (head_of heads)) e runs))
          (cases_lt w c.words.words.start),
    )

pub loop-word-preserved : goal.loop-word-preserved
loop-word-preserved c = (
  search rules,
  search rules,
  walk_more c.args.heads.now c.loop-word.seen c.in-Some.first c.loop-word.word c.from-place.result c.head-word.result c.from-place.ensures c.head-word.ensures c.loop-word.invariant.0 (omega (arith, c.from-place.ensures, c.loop-word.invariant)) c.if-seen-place.false c.loop-word.invariant.2,
)

pub returns-in_default : goal.returns-in_default
returns-in_default c =
    let free : CycleFree c.args.heads.now = λ w word. c.words.invariant.2 w word (omega (arith, c.in_default.ensures.steps, c.words.invariant, word)) in
    record { told = free; only = λ _. refl; laws = (rooted_is_cycle_free, on_cycle_runs, first_lies, one_first) }

pub returns-then-seen-place : goal.returns-then-seen-place
returns-then-seen-place c =
    let heads = c.args.heads.now in
    let walk = subst (Walked heads c.loop-word.seen c.in-Some.first) (sym c.from-place.ensures) c.loop-word.invariant.2 in
    let again = walk_again heads c.loop-word.seen c.in-Some.first c.from-place.result (λ z. c.loop-word-test.true (sym c.from-place.ensures ∙ z)) (search rules) walk in
    let word : Word (length heads) c.in-Some.first = (omega (arith, c.in-Some.ensures.steps, c.words.invariant), omega (arith, c.in-Some.ensures.steps, c.words.invariant)) in
    record {
      told = record { start = c.in-Some.first; word = word; runs = again.0; least = λ w v lt. c.words.invariant.2 w v (omega (arith, c.in-Some.ensures.steps)); again = again.1 };
      only = λ free. absurd (free c.in-Some.first word again.0);
      laws = (rooted_is_cycle_free, on_cycle_runs, first_lies, one_first);
    }
