-- The worths of kinds that have one place
use Rattle.std.specs.Prelude.{[], ◌∷◌, ℤ}
use Rattle.weight.specs.Worth.{Worth}
use Rattle.weight.specs.declared.single.Single.{Single}
use Rattle.weight.specs.declared.span.ScoreSpan.{ScoreSpan}
use Rattle.weight.specs.declared.span.CostSpan.{CostSpan}

-- the kinds, as the code names them
abbrev pub Score : Type 0
Score = Single ScoreSpan

abbrev pub Cost : Type 0
Cost = Single CostSpan

-- the weight with this value
abbrev pub single : {S : Type 0} → ℤ → Single S
single value = record { value = value; of = record {} }

abbrev pub single_worth : {S : Type 0} → Single S → Worth
single_worth x = x.value ∷ []

abbrev pub score_worth : Score → Worth
score_worth x = single_worth x

abbrev pub cost_worth : Cost → Worth
cost_worth x = single_worth x
