-- Two falling arrangements of the same elements are level: counted are the elements that one at place i outranks.
use Rattle.std.proofs.Common.{◌≡◌, ℕ, ◌+◌, ◌-◌, ◌<◌, ◌≤◌, Bool, true, false, cond, List, [], ◌∷◌, length, get_or, take, drop, count_by, refl, ap, ◌∙◌, arith, length-drop}
use Rattle.std.specs.Cmp.{IsStrictWeakOrder}
use Rattle.std.specs.List.Sorted.{IsPermutation}
use Rattle.std.proofs.ByRecursion.{All-from_get_or}
use Rattle.std.proofs.lemmas.List.{get_or-take, get_or-drop, length-take-le}
use Rattle.std.proofs.lemmas.List.Sorted.{length_permutation, IsPermutation-sym}
use Rattle.std.proofs.lemmas.List.Sums.{sum_by-take-drop, count_by-le-length}
use Rattle.queue.specs.Runs.{Falls, Level}
use Rattle.queue.proofs.Counting.{count_all, count_none, count_shuffled}
use Rattle.queue.proofs.Heaps.{by}

module _ {X : Type 0} (above : X → X → Bool) (o : IsStrictWeakOrder above) where
  -- what outranks y outranks what y is not outranked by
  passes_on : (a y z : X) → above a y ≡ true → above z y ≡ false → above a z ≡ true
  passes_on a y z t f = case (above a z) refl
    where
      case : (b : Bool) → above a z ≡ b → above a z ≡ true
      case true e = e
      case false e = let u = o.chain a z y e f in cc

  module _ (xs ys : List X) (s : IsPermutation xs ys) (fx : Falls above xs) (fy : Falls above ys) (i : ℕ) (d : X) (lt : i < length xs) where
    long : length ys ≡ length xs
    long = length_permutation xs ys s

    few : count_by (above (get_or xs i d)) xs ≤ length xs - (i + 1)
    few =
        let q = above (get_or xs i d) in
        let n = length-take-le (i + 1) xs (omega arith) in
        let none = count_none q (take (i + 1) xs) (All-from_get_or (λ y. q y ≡ false) (take (i + 1) xs) d (λ k f. by above o _ _ _ _ refl (get_or-take (i + 1) xs k d (omega arith)) (fx k i d (omega arith) lt))) in
        let parts = sum_by-take-drop (λ y. cond (q y) 1 0) xs (i + 1) in
        let most = count_by-le-length q (drop (i + 1) xs) in
        let rest = length-drop (i + 1) xs in
        omega arith

    many : above (get_or xs i d) (get_or ys i d) ≡ true → length xs - i ≤ count_by (above (get_or xs i d)) ys
    many t =
        let q = above (get_or xs i d) in
        let rest = length-drop i ys in
        let same = long in
        let all = count_all q (drop i ys) (All-from_get_or (λ y. q y ≡ true) (drop i ys) d (λ k f. ap q (get_or-drop i ys k d) ∙ passes_on _ (get_or ys i d) _ t (fy i (i + k) d (omega arith) (omega arith)))) in
        let parts = sum_by-take-drop (λ y. cond (q y) 1 0) ys i in
        omega arith

    pub not_over : above (get_or xs i d) (get_or ys i d) ≡ false
    not_over = case (above (get_or xs i d) (get_or ys i d)) refl
      where
        case : (b : Bool) → above (get_or xs i d) (get_or ys i d) ≡ b → above (get_or xs i d) (get_or ys i d) ≡ false
        case false e = e
        case true e =
            let a = few in
            let b = many e in
            let c = count_shuffled (above (get_or xs i d)) xs ys s in
            absurd (omega arith)

  pub level : (xs ys : List X) → IsPermutation xs ys → Falls above xs → Falls above ys → Level above xs ys
  level xs ys s fx fy i d lt =
      let n = length_permutation xs ys s in
      (not_over xs ys s fx fy i d lt, not_over ys xs (IsPermutation-sym xs ys s) fy fx i d (omega arith))
