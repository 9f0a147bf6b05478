-- What is read of an input.
use Rattle.std.proofs.Common.{◌≡◌, ℕ, List, [], ◌++◌, take, Option, None, Some, IfSome, ap, ◌∙◌}
use Rattle.std.specs.Prelude.{option_map}
use Rattle.filing.specs.Inputs.{ReadIn}

-- all that comes up to the limit
pub read_in : (known : Option (List ℕ)) (file : List ℕ) (limit : ℕ) → limit ≡ 11206 → IfSome (option_map (take limit) known) (λ bytes. file ≡ [] ++ bytes) → ReadIn known file
read_in None file limit e is = tt
read_in (Some bytes) file limit e is = is ∙ ap (λ n. take n bytes) e
