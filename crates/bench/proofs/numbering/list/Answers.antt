use Rattle.std.proofs.Common.{ℕ, ◌+◌, ◌/◌, ◌%◌, ◌^◌, ◌∙◌, ap, rules}
use Rattle.bench.proofs.Digits.{digits_next, rest_next}
use Rattle.bench.proofs.numbering.list.Goals as goal

pub loop-head-preserved : goal.loop-head-preserved
loop-head-preserved c =
    let inv = c.loop-head.invariant in
    let rest = inv.2 ∙ ap (λ (b : ℕ). c.args.number / b ^ c.loop-head.head-index) inv.1 in
    let now = ap (λ (b : ℕ). c.loop-head.rest % b) inv.1 in
    (search rules, search rules, rest_next _ _ _ _ inv.2, digits_next c.args.number (c.args.words + 1) c.loop-head.head-index c.loop-head.rest _ c.loop-head.head-items (search rules) rest now inv.3)
