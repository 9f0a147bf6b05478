-- Where the sums and differences of the kinds here stop, however far from 0 their places lie.
use Rattle.std.specs.Prelude.{◌≡◌, ℤ, ◌+ℤ◌, ◌-ℤ◌}
use Rattle.std.specs.Int.{w64, saturate_signed}
use Rattle.weight.specs.declared.layer.Layer.{Layer}
use Rattle.weight.specs.declared.single.Single.{Single}

-- what a kind says that does not tell where it stops
abbrev pub Unsaid : {K : Type 0} → K → K → K → Type 0
Unsaid a b c = Unit {0}

-- one place: the exact sum or difference, stopped at the ends of 64 bits
abbrev pub PlaceSum : ℤ → ℤ → ℤ → Type 0
PlaceSum x y z = z ≡ saturate_signed w64 (x +ℤ y)

abbrev pub PlaceDifference : ℤ → ℤ → ℤ → Type 0
PlaceDifference x y z = z ≡ saturate_signed w64 (x -ℤ y)

abbrev pub SingleSum : {S : Type 0} → Single S → Single S → Single S → Type 0
SingleSum a b c = PlaceSum a.value b.value c.value

abbrev pub SingleDifference : {S : Type 0} → Single S → Single S → Single S → Type 0
SingleDifference a b c = PlaceDifference a.value b.value c.value

-- a layer's place in front stops likewise, and what is behind it as its own kind says
pub record LayerSum {S K : Type 0} (stops : K → K → K → Type 0) (a b c : Layer S K) : Type 0 where
  pub front : PlaceSum a.place b.place c.place
  pub behind : stops a.rest b.rest c.rest

pub record LayerDifference {S K : Type 0} (stops : K → K → K → Type 0) (a b c : Layer S K) : Type 0 where
  pub front : PlaceDifference a.place b.place c.place
  pub behind : stops a.rest b.rest c.rest
