-- The worths of layers: a place in front of the worth of any kind
use Rattle.std.specs.Prelude.{ℕ, cond, ◌∷◌, ℤ, pos, negsuc, ◌==◌}
use Rattle.weight.specs.Worth.{Worth}
use Rattle.weight.specs.declared.layer.Layer.{Layer}
use Rattle.weight.specs.declared.span.MarkSpan.{MarkSpan}
use Rattle.weight.specs.declared.span.RootSpan.{RootSpan}

-- the layers, as the code names them
abbrev pub Mark : Type 0 → Type 0
Mark K = Layer MarkSpan K

abbrev pub Root : Type 0 → Type 0
Root K = Layer RootSpan K

-- the weight with this place in front
abbrev pub layer : {S K : Type 0} → ℤ → K → Layer S K
layer place rest = record { place = place; rest = rest; of = record {} }

abbrev pub layer_worth : {S K : Type 0} → (K → Worth) → Layer S K → Worth
layer_worth f x = x.place ∷ f x.rest

abbrev pub mark_worth : {K : Type 0} → (K → Worth) → Mark K → Worth
mark_worth f x = layer_worth f x

abbrev pub root_worth : {K : Type 0} → (K → Worth) → Root K → Worth
root_worth f x = layer_worth f x

-- −1 for an arc from the root, 0 for any other
abbrev pub root_place : ℕ → ℤ
root_place head = cond (head == 0) (negsuc 0) (pos 0)
