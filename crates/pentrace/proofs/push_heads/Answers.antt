use Rattle.std.proofs.Common.{◌++◌, string_bytes, ◌+◌, drop, refl, ◌∙◌, ap}
use Rattle.pentrace.specs.Texts.{handed_heads_text}
use Rattle.pentrace.proofs.Heads.{next, none}
use Rattle.pentrace.proofs.push_heads.Goals as goal

-- src/main.rt:111:5
pub loop-head-init : goal.loop-head-init
loop-head-init c = refl

-- src/main.rt:111:5
pub loop-head-preserved : goal.loop-head-preserved
loop-head-preserved c =
    let before = string_bytes c.loop-head.text in
    let behind = handed_heads_text (drop (c.loop-head.head-index + 1) c.args.heads.now) in
    let put = c.in_ok-push_str.ensures.bytes ∙ ap (λ s. before ++ s) (c.as_str.ensures.value ∙ c.in_ok-head.ensures.ok) in
    ap (λ s. s ++ behind) put ∙ (next before c.args.heads.now c.loop-head.head-index c.loop-head-test.true ∙ c.loop-head.invariant)

-- src/main.rt:108:1
pub returns : goal.returns
returns c = none (string_bytes c.loop-head.text) c.args.heads.now c.loop-head.head-index c.loop-head-test.false ∙ c.loop-head.invariant
