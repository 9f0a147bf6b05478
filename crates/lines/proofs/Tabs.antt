-- The TABs of a tree's line stand between its fields and nowhere else.
use Rattle.std.proofs.Common.{◌≡◌, ℕ, suc, ◌+◌, ◌%◌, ◌^◌, ◌<◌, false, eqb, List, [], ◌∷◌, ◌++◌, ℤ, pos, negsuc, neg_ℤ, ◌≤ℤ◌, decimal, sym, refl, ap, ◌∙◌, append_assoc, arith}
use Rattle.lines.specs.Lines.{before_tab, behind_tab, behind_weight, tree_text, ToldFields}
use Rattle.std.proofs.lemmas.Fmt.{decimal_by_steps}
use Rattle.std.proofs.ByRecursion.{All-append, All-push}
use Rattle.std.proofs.lemmas.Int.{ints}
use Rattle.std.proofs.lemmas.Bool.{ne_eqb}
use Rattle.std.specs.Fmt.{signed_decimal}
use Rattle.std.specs.List.{AllByRecursion}
use Rattle.text.specs.Spaced.{spaced}
use Rattle.weight.specs.Text.{text}
use Rattle.weight.specs.Worth.{Worth, Within}

abbrev NotTab : ℕ → Type 0
NotTab b = eqb b 9 ≡ false

-- the first TAB behind bytes that are none
before_first : (t u : List ℕ) → AllByRecursion NotTab t → before_tab (t ++ (9 ∷ u)) ≡ t
before_first [] u h = refl
before_first (b ∷ bs) u h = rw h.0 (ap (λ l. b ∷ l) (before_first bs u h.1))

behind_first : (t u : List ℕ) → AllByRecursion NotTab t → behind_tab (t ++ (9 ∷ u)) ≡ u
behind_first [] u h = refl
behind_first (b ∷ bs) u h = rw h.0 (behind_first bs u h.1)

not_tab_decimal : (n : ℕ) → n < 2 ^ 64 → AllByRecursion NotTab (decimal n)
not_tab_decimal n h =
    decimal_by_steps (λ _ ds. AllByRecursion NotTab ds) (λ n l. (ne_eqb (48 + n) 9 (λ e. omega arith), tt)) (λ n ds l k. All-push NotTab ds (48 + n % 10) k (ne_eqb (48 + n % 10) 9 (λ e. omega arith))) n h

not_tab_signed : (x : ℤ) → neg_ℤ (pos (2 ^ 40)) ≤ℤ x → x ≤ℤ pos (2 ^ 40) → AllByRecursion NotTab (signed_decimal x)
not_tab_signed (pos n) l h = not_tab_decimal n (omega (arith, ints))
not_tab_signed (negsuc n) l h = (ne_eqb 45 9 (λ e. omega arith), not_tab_decimal (suc n) (omega (arith, ints)))

not_tab_text : (a : Worth) → Within (2 ^ 40) a → AllByRecursion NotTab (text a)
not_tab_text [] h = tt
not_tab_text (x ∷ []) h = not_tab_signed x h.0 h.1
not_tab_text (x ∷ (y ∷ ys)) h = All-append NotTab (signed_decimal x) (44 ∷ text (y ∷ ys)) (not_tab_signed x h.0 h.1) (ne_eqb 44 9 (λ e. omega arith), not_tab_text (y ∷ ys) h.2)

not_tab_spaced : (ns : List ℕ) → AllByRecursion (λ n. n < 256) ns → AllByRecursion NotTab (spaced ns)
not_tab_spaced [] h = tt
not_tab_spaced (n ∷ []) h = not_tab_decimal n (omega (arith, h.0))
not_tab_spaced (n ∷ (m ∷ ns)) h = All-append NotTab (decimal n) (32 ∷ spaced (m ∷ ns)) (not_tab_decimal n (omega (arith, h.0))) (ne_eqb 32 9 (λ e. omega arith), not_tab_spaced (m ∷ ns) h.1)

before_none : (t : List ℕ) → AllByRecursion NotTab t → before_tab t ≡ t
before_none [] h = refl
before_none (b ∷ bs) h = rw h.0 (ap (λ l. b ∷ l) (before_none bs h.1))

pub told_fields : ToldFields
told_fields number a heads small within =
    let rest = spaced heads ++ (10 ∷ []) in
    let more = text a ++ behind_weight heads in
    let whole : tree_text number a heads ≡ decimal number ++ (9 ∷ more) = append_assoc (decimal number) (9 ∷ []) more in
    let digits = not_tab_decimal number small in
    let shown = not_tab_text a within in
    let behind : behind_tab (tree_text number a heads) ≡ more = ap behind_tab whole ∙ behind_first (decimal number) more digits in
    let third : behind_tab (behind_tab (tree_text number a heads)) ≡ rest = ap behind_tab behind ∙ behind_first (text a) rest shown in
    record {
      first = ap before_tab whole ∙ before_first (decimal number) more digits;
      second = ap before_tab behind ∙ before_first (text a) rest shown;
      third = third;
      last = λ few.
          let none = All-append NotTab (spaced heads) (10 ∷ []) (not_tab_spaced heads few) (ne_eqb 10 9 (λ e. omega arith), tt) in
          ap before_tab third ∙ before_none rest none ∙ sym third;
    }
