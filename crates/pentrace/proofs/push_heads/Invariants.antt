use Rattle.std.proofs.Common.{◌≡◌, ◌++◌, string_bytes, drop}
use Rattle.pentrace.specs.Texts.{handed_heads_text}
use Rattle.pentrace.proofs.push_heads.Given as goal

-- what is written, with the heads to come behind it, stays the same
abbrev pub invariant-loop-head : goal.invariant-loop-head
invariant-loop-head l = string_bytes l.text ++ handed_heads_text (drop l.head-index l.heads) ≡ string_bytes l.initial.text ++ handed_heads_text l.initial.heads
