-- What is printed of the two-word file: each number by its digits, and the rest is computed.
use Rattle.std.proofs.Common.{◌≡◌, [], ◌∷◌, ◌++◌, decimal, refl, ap, ◌∙◌, arith}
use Rattle.examples.specs.Lines.{texts_from, Printed}
use Rattle.examples.specs.Worked.{four_arcs, three_lines}
use Rattle.lines.specs.declared.Last.TheVariants.{NoMore}
use Rattle.std.proofs.lemmas.Fmt.{decimal_digit, decimal_step}
use Rattle.weight.specs.Numbers.{score_worth}

twelve : decimal 12 ≡ 49 ∷ (50 ∷ [])
twelve = decimal_step 12 (omega arith) (omega arith) ∙ ap (λ ds. ds ++ (50 ∷ [])) (decimal_digit 1 (omega arith))

thirteen : decimal 13 ≡ 49 ∷ (51 ∷ [])
thirteen = decimal_step 13 (omega arith) (omega arith) ∙ ap (λ ds. ds ++ (51 ∷ [])) (decimal_digit 1 (omega arith))

whole : texts_from score_worth 1 four_arcs.trees NoMore ≡ three_lines
whole = rw (thirteen, twelve, decimal_digit 0 (omega arith), decimal_digit 1 (omega arith), decimal_digit 2 (omega arith))

pub printed : Printed score_worth four_arcs three_lines
printed = record { last = NoMore; ends = refl; whole = whole }
