-- The bytes that an input still has.
use Rattle.std.specs.Prelude.{ℕ, List, None, Option, if◌then◌else◌, ◌==◌}
use Rattle.console.specs.declared.Lines.{Lines}

-- the bytes of the reader, where they are known and fewer than 2^64 - 1 lines were asked for
abbrev pub lines_remaining : {R : Type 0} → (R → Option (List ℕ)) → Lines R → Option (List ℕ)
lines_remaining remaining lines = if lines.left == 0 then None else remaining lines.input
