-- What the calls leave in the slots.
use Rattle.std.proofs.Common.{◌≡◌, ℕ, suc, ◌+◌, ◌-◌, ◌<◌, ◌≤◌, Bool, List, [], ◌∷◌, ◌++◌, length, get_or, take, drop, set, sym, refl, ap, ◌∙◌, subst, add-zero, arith}
use Rattle.std.specs.Cmp.{IsStrictWeakOrder}
use Rattle.std.specs.List.Sorted.{IsPermutation}
use Rattle.std.proofs.lemmas.List.{get_or_append_left, get_or-append_right, get_or-drop, get_or-take, get_or_read, length_push, length-take-le, take_more, take_more_set, take_all, take_at, take-append-le, drop_at, drop-set-lt}
use Rattle.std.proofs.lemmas.List.Sorted.{IsPermutation-sym, IsPermutation-trans, IsPermutation-cons, IsPermutation-to_front, IsPermutation-swap, length_permutation}
use Rattle.queue.specs.Heap.{Ordered, Greatest, Least, Rising, Sinking}
use Rattle.queue.specs.Calls.{Pushed, Popped, Dropped}
use Rattle.queue.proofs.Counting.{counts_with, counts_for}
use Rattle.queue.proofs.Heaps.{Exchanged, by, over}

module _ {X : Type 0} (above : X → X → Bool) (o : IsStrictWeakOrder above) where
  -- one more at the end of a heap
  grown : (ws : List X) (x : X) → Ordered above ws → Rising above (ws ++ x ∷ []) (length ws)
  grown ws x h =
      let more = length_push ws x in record {
        others = λ p k d c f n.
            let u : k < length ws = omega arith in
            by above o _ _ _ _ (get_or_append_left ws (x ∷ []) d k u) (get_or_append_left ws (x ∷ []) d p (omega arith)) (over above o ws h p k d c u);
        across = λ p k d c f i. absurd (omega arith);
      }

  pub pushed : (xs zs : List X) (len : ℕ) (x : X) → len < length xs → IsPermutation (take (len + 1) (set xs len x)) zs → (Rising above (take (len + 1) (set xs len x)) len → Ordered above zs) → Pushed above xs len x (zs ++ drop (len + 1) (set xs len x)) (len + 1)
  pushed xs zs len x room s r =
      let ws = take len xs in
      let is : take (len + 1) (set xs len x) ≡ ws ++ x ∷ [] = take_more_set xs len x room in
      let n : length ws ≡ len = length-take-le len xs (omega arith) in
      let long : length zs ≡ len + 1 = length_permutation _ zs s ∙ ap length is ∙ length_push ws x ∙ ap (λ k. k + 1) n in
      let front : take (len + 1) (zs ++ drop (len + 1) (set xs len x)) ≡ zs = take_at zs _ (len + 1) long in
      let same = subst (IsPermutation (x ∷ ws)) (sym front) (IsPermutation-trans _ _ _ (IsPermutation-sym _ _ (IsPermutation-to_front ws x)) (subst (λ l. IsPermutation l zs) is s)) in record {
        room = room;
        more = refl;
        same = same;
        counts = counts_with x _ _ same;
        rest = drop_at zs _ (len + 1) long ∙ drop-set-lt (len + 1) xs len x (omega arith);
        ordered = λ h. subst (Ordered above) (sym front) (r (subst (λ l. Rising above l len) (sym is) (subst (Rising above (ws ++ x ∷ [])) n (grown ws x h))));
      }

  -- the first and the last of xs changed places
  module _ (xs ys : List X) (m : ℕ) (last : m + 1 ≡ length xs) (long : length ys ≡ length xs) (s : Exchanged xs ys 0 m) where
    pub shrunk : Ordered above xs → Sinking above (take m ys) 0
    shrunk h =
        let n : length (take m ys) ≡ m = length-take-le m ys (omega arith) in record {
          others = λ p k d c f z.
              let u : k < m = omega arith in
              let v : p < m = omega arith in
              by above o _ _ _ _ (get_or-take m ys k d u ∙ s.2 k d (omega arith) (omega arith)) (get_or-take m ys p d v ∙ s.2 p d z (omega arith)) (over above o xs h p k d c (omega arith));
          across = λ p k d c f i. absurd (omega arith);
        }

    -- the first of xs stands last, behind whatever the others became
    pub stays : (x : X) (zs : List X) → x ≡ get_or xs 0 x → length zs ≡ m → (d : X) → get_or (zs ++ drop m ys) m d ≡ x
    stays x zs e n d =
        let here : m - m ≡ 0 = omega arith in
        get_or-append_right zs (drop m ys) m m d n (omega arith) ∙ ap (λ k. get_or (drop m ys) k d) here ∙ get_or-drop m ys 0 d ∙ ap (λ k. get_or ys k d) (add-zero m) ∙ s.1 d ∙ sym (get_or_read xs 0 x (omega arith) e d)

    pub took : (x : X) (zs : List X) → x ≡ get_or xs 0 x → IsPermutation xs ys → IsPermutation (take m ys) zs → IsPermutation xs (x ∷ zs)
    took x zs e t u =
        let is : ys ≡ take m ys ++ x ∷ [] = sym (take_all (m + 1) ys (omega arith)) ∙ take_more ys m x (omega arith) ∙ ap (λ y. take m ys ++ y ∷ []) (s.1 x ∙ sym e) in
        IsPermutation-trans _ _ _ t (IsPermutation-trans _ _ _ (subst (λ l. IsPermutation l (x ∷ take m ys)) (sym is) (IsPermutation-to_front (take m ys) x)) (IsPermutation-cons x _ _ u))

  -- m is len - 1
  pub popped : (xs ws : List X) (len m : ℕ) (x : X) → m + 1 ≡ len → len ≤ length xs → length ws ≡ len → IsPermutation (take len xs) (x ∷ take m ws) → ((d : X) → get_or ws m d ≡ x) → (Ordered above (take len xs) → Ordered above (take m ws)) → (Ordered above (take len xs) → Greatest above x (take len xs)) → Popped above xs len (ws ++ drop len xs) x
  popped xs ws len m x some within long s left r t =
      let e : m ≡ len - 1 = omega arith in
      let front : take m ws ≡ take (len - 1) (ws ++ drop len xs) = sym (take-append-le m ws _ (omega arith)) ∙ ap (λ n. take n (ws ++ drop len xs)) e in
      let same = subst (λ l. IsPermutation (take len xs) (x ∷ l)) front s in record {
        some = omega arith;
        within = within;
        same = same;
        counts = counts_with x _ _ (IsPermutation-sym _ _ same);
        left = λ d. sym (ap (λ n. get_or (ws ++ drop len xs) n d) e) ∙ get_or_append_left ws (drop len xs) d m (omega arith) ∙ left d;
        rest = drop_at ws _ len long;
        ordered = λ h. subst (Ordered above) front (r h);
        greatest = t;
      }

  -- x in the place of y, which is left over
  pub put : (xs zs : List X) (i : ℕ) (x y : X) → i < length xs → y ≡ get_or xs i y → IsPermutation (set xs i x) zs → IsPermutation (x ∷ xs) (y ∷ zs)
  put xs zs i x y in' e s = IsPermutation-trans _ _ _ (IsPermutation-swap (x ∷ xs) (y ∷ set xs i x) 0 (suc i) (omega arith) (omega arith) (ap (λ z. z ∷ set xs i x) (get_or_read xs i y in' e x))) (IsPermutation-cons y _ _ s)

  pub dropped : (xs ws : List X) (len : ℕ) (x y : X) → len ≤ length xs → length ws ≡ len → IsPermutation (x ∷ take len xs) (y ∷ ws) → (Ordered above (take len xs) → Ordered above ws) → Least above y (x ∷ take len xs) → Dropped above xs len x (ws ++ drop len xs) y
  dropped xs ws len x y within long s r l =
      let front : ws ≡ take len (ws ++ drop len xs) = sym (take_at ws _ len long) in
      let same = subst (λ l. IsPermutation (x ∷ take len xs) (y ∷ l)) front s in record {
        within = within;
        same = same;
        counts = counts_for x _ y _ same;
        rest = drop_at ws _ len long;
        ordered = λ h. subst (Ordered above) front (r h);
        least = l;
      }
