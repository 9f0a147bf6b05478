-- The text of heads, a head at a time
use Rattle.std.proofs.Common.{◌≡◌, ◌∷◌, ◌++◌, ℕ, ◌+◌, ◌<◌, ◌≤◌, List, length, get_or, drop, decimal, ◌∙◌, ap, sym, append_assoc, append-nil, suc, arith}
use Rattle.std.proofs.Math.Seq.{drop-cons}
use Rattle.std.proofs.lemmas.List.{at_drop_all}
use Rattle.pentrace.specs.Texts.{handed_heads_text}

pub next : (t heads : List ℕ) (i : ℕ) → i < length heads → (t ++ (32 ∷ decimal (get_or heads i 0))) ++ handed_heads_text (drop (i + 1) heads) ≡ t ++ handed_heads_text (drop i heads)
next t heads i h =
    let e : i + 1 ≡ suc i = omega arith in
    rw e (append_assoc t (32 ∷ decimal (get_or heads i 0)) (handed_heads_text (drop (suc i) heads)) ∙ sym (ap (λ l. t ++ handed_heads_text l) (drop-cons heads i 0 h)))

pub none : (t heads : List ℕ) (i : ℕ) → length heads ≤ i → t ≡ t ++ handed_heads_text (drop i heads)
none t heads i h = sym (ap (λ l. t ++ l) (at_drop_all handed_heads_text heads i h) ∙ append-nil t)
