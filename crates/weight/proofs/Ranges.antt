-- What holds of entries
use Rattle.std.proofs.Common.{◌≡◌, ℕ, true, [], ◌∷◌, ℤ, ◌≤ℤ◌, arith}
use lib.Signed.{le_z}
use Rattle.std.proofs.lemmas.Int.{ints}
use Rattle.std.proofs.lemmas.Bool.{and_parts}
use Rattle.weight.specs.Range.{in_range, entry_in, EntryWithin}

le_true : (x y : ℤ) → le_z x y ≡ true → x ≤ℤ y
le_true x y e = grind (arith, ints)

pub entry_within : EntryWithin
entry_within [] [] g e = tt
entry_within [] (x ∷ xs) g e = let z : ◌≡◌ {A = ℕ} 0 1 = cc in absurd (omega arith)
entry_within (r ∷ rs) [] g e = let z : ◌≡◌ {A = ℕ} 0 1 = cc in absurd (omega arith)
entry_within (r ∷ rs) (x ∷ xs) g e =
    let p = and_parts (in_range r x) (entry_in rs xs) e in
    let q = and_parts (le_z r.least x) (le_z x r.greatest) p.0 in
    let l = le_true r.least x q.0 in
    let h = le_true x r.greatest q.1 in
    (omega (arith, ints), omega (arith, ints), entry_within rs xs g.4 p.1)
