use Rattle.std.proofs.Common.{◌≡◌, ℕ, Bool, true, false, cond, List, [], IsUtf8, refl, sym, ap, ◌∙◌}
use Rattle.std.specs.Str.{is_utf8}
use Rattle.std.proofs.lemmas.Str.{IsUtf8-from_is_utf8, is_utf8-from_IsUtf8}
use Rattle.penbracket.proofs.shown.Goals as goal

none_shown : (line : List ℕ) (b : Bool) → is_utf8 line ≡ b → ¬ (IsUtf8 line) → [] ≡ cond b line []
none_shown line true is fails = absurd (fails (IsUtf8-from_is_utf8 line is))
none_shown line false is fails = refl

pub returns-in-Ok : goal.returns-in-Ok
returns-in-Ok c = c.in-Ok.ensures.cases.0 ∙ sym (ap (λ b. cond b c.args.line.now []) (is_utf8-from_IsUtf8 c.args.line.now c.in-Ok.ensures.cases.1))

pub returns-in-Err : goal.returns-in-Err
returns-in-Err c = none_shown c.args.line.now (is_utf8 c.args.line.now) refl c.in-Err.ensures.cases.0
