use Rattle.std.proofs.Common.{◌≡◌, ℕ, ◌-◌, ◌<◌, List, [], ◌∷◌, ◌++◌, length, take, drop, slice_set, slice_index, sym, ap, rules, arith, take_all}
use Rattle.console.proofs.pieces.OneByteReaderRead.read.Goals as goal

-- the first byte, and the rest
moved : (all buf : List ℕ) → 0 < length all → 0 < length buf → all ≡ take 1 (slice_set buf 0 (slice_index all 0)) ++ take (length all - 1) (drop 1 all)
moved [] buf some room = absurd (omega arith)
moved (x ∷ xs) [] some room = absurd (omega arith)
moved (x ∷ xs) (b ∷ bs) some room = ap (λ l. x ∷ l) (sym (take_all (length (x ∷ xs) - 1) xs (omega arith)))

pub returns-clause-bytes : goal.returns-clause-bytes
returns-clause-bytes c = (moved c.args.self.now.rest.now c.args.buf.now (search rules) (search rules), λ none. absurd (omega arith))
