-- The worth of a pair: its two numbers
use Rattle.std.specs.Prelude.{[], ◌∷◌}
use Rattle.weight.specs.Worth.{Worth}
use Rattle.pair.specs.declared.Pair.{Pair}

abbrev pub pair_worth : Pair → Worth
pair_worth p = p.first ∷ (p.second ∷ [])
