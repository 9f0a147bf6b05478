use Rattle.std.proofs.Common.{◌≡◌, ℕ, ◌≤◌, true, false, ◌⊎◌, sym, ap, ◌∙◌, inl, inr}
use Rattle.std.proofs.lemmas.Bool.{cases_Bool, both_ways, cond-false}
use Rattle.arborescence.specs.Search.{merged, raised, Kept}
use Rattle.arborescence.proofs.Merged.{in_S, not_in_S, same_side, finer}

pub kept : Kept
kept n stands worth rep add best S s ℓ v sets union f = (
  λ covers h d i. rw (same d i.word.1 i.inside) (covers h d (finer n rep S s sets union stands ℓ ℓ h d i (sym (not_in_S n rep S s sets union d (out d i.word.1 i.inside)) ∙ i.inside))),
  λ h d i.
      let g : S d ≡ false = sym (union.closed d i.word) ∙ (ap S i.inside ∙ f) in
      (record { word = i.word; in_line = i.in_line; standing = i.standing; inside = not_in_S n rep S s sets union d g ∙ i.inside; outside = λ o. away h i.outside o (cases_Bool (S h)) }, cond-false (S d) _ (add d) g),
)
  where
    out : (d : ℕ) → d ≤ n → merged S s rep d ≡ ℓ → S d ≡ false
    out d le e = same_side n rep S s sets union d ℓ le e ∙ f

    same : (d : ℕ) → d ≤ n → merged S s rep d ≡ ℓ → raised S n rep add best d ≡ add d
    same d le e = cond-false (S d) _ (add d) (out d le e)

    away : (h : ℕ) → (rep h ≡ ℓ → ⊥) → merged S s rep h ≡ ℓ → (S h ≡ true) ⊎ (S h ≡ false) → ⊥
    away h k o (inl t) = both_ways (S s) (ap S (sym (in_S n rep S s sets union h t) ∙ o) ∙ f) union.inside
    away h k o (inr g) = k (sym (not_in_S n rep S s sets union h g) ∙ o)
