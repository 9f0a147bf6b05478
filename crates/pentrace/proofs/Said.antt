-- What the words of a line say, by the words that came
use Rattle.std.proofs.Common.{◌≡◌, ◌∷◌, refl, ℕ, true, false, List, Option, Some, None, Result, Ok, Err, MatchResult, is_some, ap, ◌∙◌}
use Rattle.std.specs.Borrow.{Bor}
use Rattle.std.specs.Result.{result_ok}
use Rattle.std.specs.Str.{IsUtf8}
use Rattle.std.specs.Str.Iter.{text_or_empty}
use Rattle.pentrace.proofs.Words.{Comes}
use Rattle.pentrace.specs.Orders.{Said, WordsSay, held}
use Rattle.pentrace.specs.declared.Order.{Order}

-- up to four words
pub few : (words : List (List ℕ)) (name : Bor (List ℕ)) (first second third fourth : Option (Bor (List ℕ))) (w1 w2 w3 w4 w5 : List (List ℕ)) (order : Option Order)
    → words ≡ name.now ∷ w1 → Comes w1 first w2 → Comes w2 second w3 → Comes w3 third w4 → Comes w4 fourth w5 → is_some fourth ≡ false
    → Said name.now (held first) (held second) (held third) order → WordsSay words order
few words name None None None fourth w1 w2 w3 w4 w5 order e a b c d none said = rw (e, a.0) said
few words name None None (Some third) fourth w1 w2 w3 w4 w5 order e a b c d none said = absurd cc
few words name None (Some second) third fourth w1 w2 w3 w4 w5 order e a b c d none said = absurd cc
few words name (Some first) None None fourth w1 w2 w3 w4 w5 order e a b c d none said = rw (e, a, b.0) said
few words name (Some first) None (Some third) fourth w1 w2 w3 w4 w5 order e a b c d none said = absurd cc
few words name (Some first) (Some second) None fourth w1 w2 w3 w4 w5 order e a b c d none said = rw (e, a, b, c.0) said
few words name (Some first) (Some second) (Some third) None w1 w2 w3 w4 w5 order e a b c d none said = rw (e, a, b, c, d.0) said
few words name (Some first) (Some second) (Some third) (Some fourth) w1 w2 w3 w4 w5 order e a b c d none said = absurd cc

-- more than four
pub many : (words : List (List ℕ)) (name : Bor (List ℕ)) (first second third fourth : Option (Bor (List ℕ))) (w1 w2 w3 w4 w5 : List (List ℕ))
    → words ≡ name.now ∷ w1 → Comes w1 first w2 → Comes w2 second w3 → Comes w3 third w4 → Comes w4 fourth w5 → is_some fourth ≡ true
    → WordsSay words None
many words name first second third None w1 w2 w3 w4 w5 e a b c d some = absurd cc
many words name first second None (Some fourth) w1 w2 w3 w4 w5 e a b c d some = absurd cc
many words name first None (Some third) (Some fourth) w1 w2 w3 w4 w5 e a b c d some = absurd cc
many words name None (Some second) (Some third) (Some fourth) w1 w2 w3 w4 w5 e a b c d some = absurd cc
many words name (Some first) (Some second) (Some third) (Some fourth) w1 w2 w3 w4 w5 e a b c d some = rw (e, a, b, c, d) refl

-- a line that was read as text is UTF-8
pub text_of : {E : Type 0} (line : List ℕ) (result : Result (Bor (List ℕ)) E) (Q : E → Type 0) (text : Bor (List ℕ))
    → Some text ≡ result_ok result → MatchResult result (λ s. (s.now ≡ line) × IsUtf8 line) Q → (text.now ≡ line) × IsUtf8 line
text_of line (Ok s) Q text e h = (ap (λ o. text_or_empty o) e ∙ h.0, h.1)
text_of line (Err why) Q text e h = absurd cc
