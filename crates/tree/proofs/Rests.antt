-- What is still to be written of the dependents of a word.
use Rattle.std.proofs.Common.{◌≡◌, ℕ, suc, ◌+◌, ◌<◌, ◌≤◌, Bool, true, false, cond, eqb, List, [], ◌∷◌, ◌++◌, length, get_or, drop, refl, ap, ◌∙◌, arith, length-append, drop-cons, eq-eqb, ne_eqb}
use Rattle.std.proofs.lemmas.List.{drop_all}
use Rattle.tree.specs.Brackets.{dependents_from, in_brackets}

-- what is still to be written of the dependents of w, from word i + 1 on, each by f
abbrev pub rest : List ℕ → (ℕ → List ℕ) → ℕ → Bool → ℕ → List ℕ
rest heads f w first i = in_brackets f first (dependents_from (drop i heads) (i + 1) w)

in_brackets_more : (f : ℕ → List ℕ) (b : Bool) (d : ℕ) (ds : List ℕ) → in_brackets f b (d ∷ ds) ≡ cond b 40 32 ∷ (f d ++ in_brackets f false ds)
in_brackets_more f true d ds = refl
in_brackets_more f false d ds = refl

module _ (heads : List ℕ) (f : ℕ → List ℕ) (w : ℕ) (b : Bool) (i : ℕ) where
  at_word : i < length heads → dependents_from (drop i heads) (i + 1) w ≡ cond (eqb (get_or heads i 0) w) ((i + 1) ∷ dependents_from (drop (i + 1) heads) (i + 1 + 1) w) (dependents_from (drop (i + 1) heads) (i + 1 + 1) w)
  at_word h =
      let e : suc i ≡ i + 1 = omega arith in
      ap (λ l. dependents_from l (i + 1) w) (drop-cons heads i 0 h ∙ ap (λ j. get_or heads i 0 ∷ drop j heads) e)

  pub rest_yes : i < length heads → get_or heads i 0 ≡ w → rest heads f w b i ≡ cond b 40 32 ∷ (f (i + 1) ++ rest heads f w false (i + 1))
  rest_yes h e =
      ap (in_brackets f b) (at_word h ∙ ap (λ t. cond t ((i + 1) ∷ dependents_from (drop (i + 1) heads) (i + 1 + 1) w) (dependents_from (drop (i + 1) heads) (i + 1 + 1) w)) (eq-eqb _ _ e))
      ∙ in_brackets_more f b (i + 1) (dependents_from (drop (i + 1) heads) (i + 1 + 1) w)

  pub rest_no : i < length heads → (get_or heads i 0 ≡ w → ⊥) → rest heads f w b i ≡ rest heads f w b (i + 1)
  rest_no h e =
      ap (in_brackets f b) (at_word h ∙ ap (λ t. cond t ((i + 1) ∷ dependents_from (drop (i + 1) heads) (i + 1 + 1) w) (dependents_from (drop (i + 1) heads) (i + 1 + 1) w)) (ne_eqb _ _ e))

  pub rest_none : length heads ≤ i → b ≡ true → rest heads f w b i ≡ []
  rest_none h e = ap (λ l. in_brackets f b (dependents_from l (i + 1) w)) (drop_all i heads h) ∙ ap (λ x. in_brackets f x []) e

  pub rest_last : length heads ≤ i → b ≡ false → rest heads f w b i ≡ 41 ∷ []
  rest_last h e = ap (λ l. in_brackets f b (dependents_from l (i + 1) w)) (drop_all i heads h) ∙ ap (λ x. in_brackets f x []) e

  pub length_rest : i < length heads → get_or heads i 0 ≡ w → length (rest heads f w b i) ≡ 1 + length (f (i + 1)) + length (rest heads f w false (i + 1))
  length_rest h e = let p = length-append (f (i + 1)) (rest heads f w false (i + 1)) in omega (arith, ap length (rest_yes h e))
