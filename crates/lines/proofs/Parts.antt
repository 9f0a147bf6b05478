-- Texts put into a part of a space.
use Rattle.std.proofs.Common.{◌≡◌, ℕ, ◌+◌, ◌≤◌, List, ◌++◌, length, take, drop, sym, ap, ◌∙◌, append_assoc}
use Rattle.std.proofs.lemmas.List.{drop-drop, take-append-drop}
use Rattle.text.specs.Space.{written}
use borrow.Rule.Slice.PartMut.{put_mid}
use lib.Seq.{drop-append-le}

-- a text that fills its part
pub part_filled : (s t m : List ℕ) (at k : ℕ) → m ≡ t → k ≡ length t → put_mid at k s m ≡ written s at t
part_filled s t m at k e l =
    ap (λ x. take at s ++ (x ++ drop k (drop at s))) e
    ∙ ap (λ x. take at s ++ (t ++ x)) (drop-drop k at s ∙ ap (λ n. drop (at + n) s) l)

-- a text at the front of its part
pub part_shown : (s t m : List ℕ) (at k n : ℕ) → n ≡ length t → n ≤ length (take k (drop at s)) → m ≡ t ++ drop n (take k (drop at s)) → put_mid at k s m ≡ written s at t
part_shown s t m at k n l h e =
    let part = drop at s in
    let rest : drop n (take k part) ++ drop k part ≡ drop (at + length t) s =
    sym (drop-append-le n (take k part) (drop k part) h) ∙ ap (drop n) (take-append-drop k part) ∙ drop-drop n at s ∙ ap (λ i. drop (at + i) s) l in
    ap (λ x. take at s ++ (x ++ drop k part)) e
    ∙ ap (λ x. take at s ++ x) (append_assoc t (drop n (take k part)) (drop k part) ∙ ap (λ x. t ++ x) rest)

-- a part that was left as it was
pub part_kept : (s m : List ℕ) (at k : ℕ) → m ≡ take k (drop at s) → put_mid at k s m ≡ s
part_kept s m at k e =
    ap (λ x. take at s ++ (x ++ drop k (drop at s))) e
    ∙ ap (λ x. take at s ++ x) (take-append-drop k (drop at s))
    ∙ take-append-drop at s
