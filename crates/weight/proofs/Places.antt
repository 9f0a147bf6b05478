-- Texts put into a space
use Rattle.std.proofs.Common.{◌≡◌, ℕ, ◌+◌, ◌-◌, ◌<◌, ◌≤◌, ◌⊎◌, List, [], ◌∷◌, ◌++◌, length, get_or, take, drop, set, ℤ, Result, sym, refl, ap, ◌∙◌, inl, inr, append_assoc, append-nil, arith, length-append, length-drop, length-take-le, w64, SFits, to_z, of_z}
use borrow.Rule.Slice.PartMut.{put_mid}
use Rattle.refusal.specs.declared.Refusal.{Refusal}
use Rattle.std.specs.Fmt.{signed_decimal}
use Rattle.std.proofs.lemmas.List.{drop_at, drop-drop, drop_all, drop_more, take_rest, set_at, take-append-drop}
use Rattle.std.proofs.lemmas.Int.{to_z-of_z}
use Rattle.std.proofs.lemmas.Bool.{cases_lt}
use Rattle.text.specs.Space.{Placed}
use Rattle.weight.specs.Worth.{Worth}
use Rattle.weight.specs.Text.{text, Shown}

-- a text put at the place 0, where there is room
pub placed_first : (t before after : List ℕ) (r : Result ℕ Refusal) → Placed t before 0 r after → length t ≤ length before → after ≡ t ++ drop (length t) before
placed_first t before after r p h = let z : 0 + length t ≡ length t = omega arith in (p.fits (omega arith)).1 ∙ ap (λ k. t ++ drop k before) z

pub placed_shown : (x : ℤ) (before after : List ℕ) (r : Result ℕ Refusal) → Placed (signed_decimal x) before 0 r after → Shown (x ∷ []) before after r
placed_shown x before after r p = by (cases_lt (length before) (length (signed_decimal x)))
  where
    by : (length before < length (signed_decimal x)) ⊎ (length (signed_decimal x) ≤ length before) → Shown (x ∷ []) before after r
    by (inl h) = let e = p.short (omega arith) in rw e.0 (refl, h, e.1)
    by (inr h) =
        let e = p.fits (omega arith) in
        let z : 0 + length (signed_decimal x) ≡ length (signed_decimal x) = omega arith in
        rw (e.0, z) (refl, h, placed_first (signed_decimal x) before after r p h)

-- ---- a place, a comma, and the places behind it
text_front : (x : ℤ) (a : Worth) → 1 ≤ length a → text (x ∷ a) ≡ signed_decimal x ++ (44 ∷ text a)
text_front x [] h = absurd (omega arith)
text_front x (y ∷ ys) h = refl

-- with w the width of x as a call was told it, and p the places of the kind
pub record Lengths (x : ℤ) (a : Worth) (w : ℕ) : Type 0 where
  pub same : to_z w64 (of_z w64 x) ≡ x
  pub width : w ≡ length (signed_decimal x)
  pub whole : length (text (x ∷ a)) ≡ w + 1 + length (text a)
  pub shape : text (x ∷ a) ≡ signed_decimal x ++ (44 ∷ text a)

pub lengths : (x : ℤ) (a : Worth) (w p : ℕ) → SFits w64 x → w ≡ length (signed_decimal (to_z w64 (of_z w64 x))) → 1 ≤ p → length a ≡ p → Lengths x a w
lengths x a w p f e some sized =
    let same = to_z-of_z w64 x f in
    let width : w ≡ length (signed_decimal x) = e ∙ ap (λ y. length (signed_decimal y)) same in
    let shape : text (x ∷ a) ≡ signed_decimal x ++ (44 ∷ text a) = text_front x a (omega arith) in
    record { same = same; width = width; whole = rw (shape, length-append) (omega arith); shape = shape }

-- the space with m in place of its part from k on
part_put : (s : List ℕ) (k : ℕ) (m : List ℕ) → put_mid k (length s - k) s m ≡ take k s ++ m
part_put s k m =
    let past : drop (length s - k) (drop k s) ≡ [] = drop_all (length s - k) (drop k s) (simp length-drop (omega arith)) in
    ap (λ l. take k s ++ (m ++ l)) past ∙ ap (λ l. take k s ++ l) (append-nil m)

-- a part that was left as it was
pub part_same : (s : List ℕ) (k : ℕ) (m : List ℕ) → m ≡ take (length s - k) (drop k s) → put_mid k (length s - k) s m ≡ s
part_same s k m e = part_put s k m ∙ (ap (λ l. take k s ++ l) (e ∙ take_rest s k) ∙ take-append-drop k s)

-- the text t is put into the part behind the front f and its comma, then f and the comma before it
pub front_put : (s f t m u : List ℕ) (w n : ℕ) (r : Result ℕ Refusal) → w ≡ length f → w + 1 ≤ length s → m ≡ t ++ drop n (take (length s - (w + 1)) (drop (w + 1) s)) → Placed f (put_mid (w + 1) (length s - (w + 1)) s m) 0 r u → set u (w + 1 - 1) 44 ≡ (f ++ (44 ∷ t)) ++ drop (w + 1 + n) s
front_put s f t m u w n r e h em pu =
    let k : ℕ = w + 1 in
    let p : List ℕ = put_mid k (length s - k) s m in
    let front : length (take k s) ≡ k = length-take-le k s h in
    let behind : m ≡ t ++ drop (k + n) s = em ∙ (ap (λ l. t ++ drop n l) (take_rest s k) ∙ ap (λ l. t ++ l) (drop-drop n k s)) in
    let rest : drop k p ≡ m = ap (drop k) (part_put s k m) ∙ drop_at (take k s) m k front in
    let room : w < length p = rw (part_put s k m, length-append) (omega arith) in
    let comma : drop w p ≡ get_or p w 0 ∷ m = drop_more p w 0 room ∙ ap (λ l. get_or p w 0 ∷ l) rest in
    let put : u ≡ f ++ drop (length f) p = placed_first f p u r pu (omega arith) in
    let whole : u ≡ f ++ (get_or p w 0 ∷ m) = put ∙ (ap (λ i. f ++ drop i p) (sym e) ∙ ap (λ l. f ++ l) comma) in
    let at : w + 1 - 1 ≡ w = omega arith in
    ap (λ i. set u i 44) at ∙ (ap (λ l. set l w 44) whole ∙ (set_at f (get_or p w 0) m 44 w (sym e) ∙ (ap (λ l. f ++ (44 ∷ l)) behind ∙ sym (append_assoc f (44 ∷ t) (drop (k + n) s)))))
