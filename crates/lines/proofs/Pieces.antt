-- Lines as pieces, one after another.
use Rattle.std.proofs.Common.{◌≡◌, ℕ, ◌+◌, ◌<◌, ◌≤◌, List, [], ◌∷◌, ◌++◌, length, take, drop, set, Some, None, Ok, Err, decimal, codes, Option, Result, sym, ap, ◌∙◌, append_assoc, arith, length-append, length-drop, length-set, length-take, length-take-le, MatchOption}
use Rattle.lines.proofs.Parts.{part_kept, part_shown}
use Rattle.lines.specs.Lines.{before_weight, behind_weight, tree_text, refused_line_text}
use Rattle.refusal.specs.declared.Refusal.TheVariants.{ShortSpace}
use Rattle.refusal.specs.declared.Refusal.{Refusal}
use Rattle.std.proofs.lemmas.List.{drop_at}
use Rattle.text.proofs.Places.{length_written, mark_then, placed_ok, written_byte, written_one, written_two}
use Rattle.text.specs.Space.{written, Placed}
use Rattle.text.specs.Spaced.{spaced}
use Rattle.weight.specs.Text.{text}
use Rattle.weight.specs.Worth.{Worth}
use borrow.Rule.Slice.PartMut.{put_mid}

-- a piece behind another, where both fit
pub placed_then : (t u s next after : List ℕ) (at k : ℕ) (r : Result ℕ Refusal) → at + (length t + length u) ≤ length s → Placed t s at (Ok k) next → Placed u next k r after → Placed (t ++ u) s at r after
placed_then t u s next after at k r h p q =
    let first = placed_ok t s at k next p in
    let place : at + length t ≡ k = sym first.0 in
    let long = length_written s at t (omega arith) in
    let same : length next ≡ length s = ap length first.1 ∙ long in
    let second = q.fits (omega arith) in
    let both = length-append t u in
    let total : k + length u ≡ at + length (t ++ u) = omega arith in
    let whole = ap (λ l. written l k u) first.1 ∙ written_two s at t u k place (omega arith) in
    record {
      fits = λ _. (second.0 ∙ ap Ok total, second.1 ∙ whole);
      short = λ less. absurd (omega arith);
    }

-- a call that places a text leaves the space as long as it was
placed_kept : (t s after : List ℕ) (at k : ℕ) → Placed t s at (Ok k) after → at + length t ≤ length s → length after ≡ length s
placed_kept t s after at k p h = ap length (placed_ok t s at k after p).1 ∙ length_written s at t h

-- the pieces of the line of a refused file
pub refused_placed : (number place : ℕ) (s s1 s2 s3 s4 after : List ℕ) (k1 k2 k3 k4 : ℕ) (r : Result ℕ Refusal) → length (refused_line_text number place) ≤ length s
    → Placed (codes "refused ") s 0 (Ok k1) s1 → Placed (decimal number) s1 k1 (Ok k2) s2 → Placed (codes " at ") s2 k2 (Ok k3) s3 → Placed (decimal place) s3 k3 (Ok k4) s4 → Placed (10 ∷ []) s4 k4 r after
    → Placed (refused_line_text number place) s 0 r after
refused_placed number place s s1 s2 s3 s4 after k1 k2 k3 k4 r h p1 p2 p3 p4 p5 =
    let e1 = (placed_ok (codes "refused ") s 0 k1 s1 p1).0 in
    let e2 = (placed_ok (decimal number) s1 k1 k2 s2 p2).0 in
    let e3 = (placed_ok (codes " at ") s2 k2 k3 s3 p3).0 in
    let l4 = length-append (decimal place) (10 ∷ []) in
    let l3 = length-append (codes " at ") (decimal place ++ (10 ∷ [])) in
    let l2 = length-append (decimal number) (codes " at " ++ (decimal place ++ (10 ∷ []))) in
    let l1 = placed_kept (codes "refused ") s s1 0 k1 p1 (omega arith) in
    let m2 = placed_kept (decimal number) s1 s2 k1 k2 p2 (omega arith) in
    let m3 = placed_kept (codes " at ") s2 s3 k2 k3 p3 (omega arith) in
    placed_then (codes "refused ") (decimal number ++ (codes " at " ++ (decimal place ++ (10 ∷ [])))) s s1 after 0 k1 r (omega arith) p1
    (placed_then (decimal number) (codes " at " ++ (decimal place ++ (10 ∷ []))) s1 s2 after k1 k2 r (omega arith) p2
    (placed_then (codes " at ") (decimal place ++ (10 ∷ [])) s2 s3 after k2 k3 r (omega arith) p3
    (placed_then (decimal place) (10 ∷ []) s3 s4 after k3 k4 r (omega arith) p4 p5)))

-- a text just before another
before_written : (s b t : List ℕ) (f : ℕ) → f ≡ length b → f + length t ≤ length s → written (written s f t) 0 b ≡ written s 0 (b ++ t)
before_written s b t f e h =
    let rest = drop (f + length t) s in
    let front : length (take f s) ≡ f = length-take-le f s (omega arith) in
    let zero_b : 0 + length b ≡ f = omega arith in
    let both : f + length t ≡ 0 + length (b ++ t) = omega (arith, length-append b t) in
    let cut : drop (0 + length b) (written s f t) ≡ t ++ rest = ap (λ n. drop n (written s f t)) zero_b ∙ drop_at (take f s) (t ++ rest) f front in
    ap (λ l. b ++ l) cut ∙ sym (append_assoc b t rest) ∙ ap (λ n. (b ++ t) ++ drop n s) both

-- a text with one before it and one behind it
pub around_written : (s b t u : List ℕ) (f k : ℕ) → f ≡ length b → k ≡ f + length t → k + length u ≤ length s → written (written (written s f t) 0 b) k u ≡ written s 0 (b ++ (t ++ u))
around_written s b t u f k e is h =
    let both = length-append b t in
    ap (λ l. written l k u) (before_written s b t f e (omega arith))
    ∙ written_two s 0 (b ++ t) u k (omega arith) (omega arith)
    ∙ ap (written s 0) (append_assoc b t u)

-- what stands before the weight of a tree's line, and what behind it from `at` on
pub around_put : (s first next : List ℕ) (number tab at end : ℕ) (heads : List ℕ) → first ≡ written s 0 (decimal number) → 0 + length (decimal number) ≡ tab → next ≡ written (set (set first tab 9) at 9) (at + 1) (spaced heads) → end ≡ at + 1 + length (spaced heads) → tab < at → at + (length (spaced heads) + 2) ≤ length s → set next end 10 ≡ written (written s 0 (before_weight number)) at (behind_weight heads)
around_put s first next number tab at end heads is e is-next e-end h fits =
    let tabbed : set first tab 9 ≡ written s 0 (before_weight number) = ap (λ l. set l tab 9) is ∙ written_byte s 0 (decimal number) 9 tab e (omega arith) in
    let base = written s 0 (before_weight number) in
    let b = length-append (decimal number) (9 ∷ []) in
    let long : length base ≡ length s = length_written s 0 (before_weight number) (omega arith) in
    let is2 : next ≡ written (set base at 9) (at + 1) (spaced heads) = is-next ∙ ap (λ l. written (set l at 9) (at + 1) (spaced heads)) tabbed in
    let marked : length (set base at 9) ≡ length s = length-set base at 9 ∙ long in
    let same : length next ≡ length s = ap length is2 ∙ length_written (set base at 9) (at + 1) (spaced heads) (omega arith) ∙ marked in
    written_one next end 10 (omega arith) ∙ mark_then base next at end 9 (spaced heads) (10 ∷ []) is2 e-end (omega arith)

-- ---- lengths
pub length_before : (number : ℕ) → length (before_weight number) ≡ length (decimal number) + 1
length_before number = length-append (decimal number) (9 ∷ [])

pub length_behind : (heads : List ℕ) → length (behind_weight heads) ≡ length (spaced heads) + 2
length_behind heads = omega (arith, length-append (spaced heads) (10 ∷ []))

pub length_tree : (number : ℕ) (a : Worth) (heads : List ℕ) → length (tree_text number a heads) ≡ length (before_weight number) + (length (text a) + length (behind_weight heads))
length_tree number a heads =
    length-append (before_weight number) (text a ++ behind_weight heads)
    ∙ ap (λ n. length (before_weight number) + n) (length-append (text a) (behind_weight heads))

pub length_refused : (number place : ℕ) → length (refused_line_text number place) ≡ length (decimal number) + length (decimal place) + 13
length_refused number place =
    let first = length-append (decimal number) (codes " at " ++ (decimal place ++ (10 ∷ []))) in
    let second = length-append (decimal place) (10 ∷ []) in
    omega arith

-- the room behind the heads is that between them and the number
pub room_between : (number len room : ℕ) (heads : List ℕ) (r : Option ℕ) → length (decimal number) + 3 + room ≡ len → MatchOption r (room < length (spaced heads)) (λ free. free + length (spaced heads) ≡ room) → MatchOption r ((a : Worth) → len < length (tree_text number a heads)) (λ free. length (before_weight number) + (free + length (behind_weight heads)) ≡ len)
room_between number len room heads None e short = λ a. omega (arith, length_tree number a heads, length_before number, length_behind heads)
room_between number len room heads (Some free) e fits = omega (arith, length_before number, length_behind heads)

-- ---- the line of a tree, whose weight has a part of the space from f on, k bytes long
module _ (number : ℕ) (a : Worth) (heads s m : List ℕ) (f k : ℕ) (r : Result ℕ Refusal) where
  -- the weight does not fit
  pub tree_refused : (why : Refusal) → f ≡ length (before_weight number) → f + (k + length (behind_weight heads)) ≡ length s → r ≡ Err why → why ≡ ShortSpace → length (take k (drop f s)) < length (text a) → m ≡ take k (drop f s) → Placed (tree_text number a heads) s 0 r (put_mid f k s m)
  tree_refused why e room is short less same =
      let least = simp (length-take, length-drop) at less in
      let long = length_tree number a heads in
      record {
        fits = λ h. absurd (omega arith);
        short = λ _. (is ∙ ap Err short, part_kept s m f k same);
      }

  -- the weight fits
  pub tree_shown : (n : ℕ) (after : List ℕ) → f ≡ length (before_weight number) → f + (k + length (behind_weight heads)) ≡ length s → n ≡ length (text a) → n ≤ length (take k (drop f s)) → m ≡ text a ++ drop n (take k (drop f s)) → r ≡ Ok (f + n + length (behind_weight heads)) → after ≡ written (written (put_mid f k s m) 0 (before_weight number)) (f + n) (behind_weight heads) → Placed (tree_text number a heads) s 0 r after
  tree_shown n after e room l h is ok put =
      let most = simp (length-take, length-drop) at h in
      let long = length_tree number a heads in
      let total : f + n + length (behind_weight heads) ≡ 0 + length (tree_text number a heads) = omega arith in
      record {
        fits = λ _. (
          ok ∙ ap Ok total,
          put ∙ ap (λ x. written (written x 0 (before_weight number)) (f + n) (behind_weight heads)) (part_shown s (text a) m f k n l h is)
              ∙ around_written s (before_weight number) (text a) (behind_weight heads) f (f + n) e (omega arith) (omega arith),
        );
        short = λ less. absurd (omega arith);
      }

  -- the rest of the line fits around it
  pub tree_room : (n : ℕ) → f + (k + length (behind_weight heads)) ≡ length s → n ≡ length (text a) → n ≤ length (take k (drop f s)) → m ≡ text a ++ drop n (take k (drop f s)) → f + n + length (behind_weight heads) ≤ length (put_mid f k s m)
  tree_room n room l h is =
      let most = simp (length-take, length-drop) at h in
      let long : length (put_mid f k s m) ≡ length s = ap length (part_shown s (text a) m f k n l h is) ∙ length_written s f (text a) (omega arith) in
      omega arith
