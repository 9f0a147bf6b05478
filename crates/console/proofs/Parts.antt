-- What one look at an input puts behind a line.
use Rattle.std.proofs.Common.{◌≡◌, ◌≢◌, ℕ, ◌-◌, ◌<◌, ◌≤◌, Bool, true, false, List, ◌++◌, length, take, get_or, slice_index, All, Option, OnSome, refl, sym, ap, subst, ◌∙◌, arith, get_or-take, length-take-le}
use Rattle.std.proofs.lemmas.List.Elements.{All-more}
use Rattle.std.proofs.BufReadLemmas.{zero_unless_positive}
use Rattle.std.proofs.Transfers.{StopsAt-take}
use Rattle.std.specs.Io.{IsEmptyOrEndsWith}
use Rattle.std.specs.Io.KnownBytes.{Consumes, IsAtEnd}
use Rattle.console.specs.Lines.{GivesPart}

-- what was shown, cut behind its first LF or where the room ends
pub part_given : (before after : Option (List ℕ)) (line shown longer : List ℕ) (room end : ℕ) (ends : Bool)
    → longer ≡ line ++ take end shown → end ≤ room → end ≤ length shown → (0 < length shown → 0 < end)
    → All (λ b. b ≢ 10) (take (end - 1) shown)
    → Consumes before after (take end shown) → (length shown ≡ 0 → OnSome before (IsAtEnd after))
    → (ends ≡ true → IsEmptyOrEndsWith (take end shown) 10)
    → (ends ≡ false → (0 < length (take end shown)) × (slice_index (take end shown) (length (take end shown) - 1) ≢ 10))
    → GivesPart before line room ends longer after
part_given before after line shown longer room end true grown fits within some front taken none hit miss =
    let long = length-take-le end shown within in
    (take end shown, grown, subst (λ n. n ≤ room) (sym long) fits, taken, StopsAt-take shown 10 end within front, hit refl, λ empty. none (zero_unless_positive (length shown) end some (sym long ∙ empty)))
part_given before after line shown longer room end false grown fits within some front taken none hit miss =
    let long = length-take-le end shown within in
    let last = miss refl in
    let there : 0 < end = omega (arith, last.0) in
    let same : get_or (take end shown) (length (take end shown) - 1) 0 ≡ get_or shown (end - 1) 0 = ap (λ n. get_or (take end shown) (n - 1) 0) long ∙ get_or-take end shown (end - 1) 0 (omega arith) in
    (take end shown, grown, subst (λ n. n ≤ room) (sym long) fits, taken, subst (λ k. All (λ b. b ≢ 10) (take k shown)) (omega arith) (All-more (λ b. b ≢ 10) shown (end - 1) 0 (omega arith) front (λ e. last.1 (same ∙ e))))
