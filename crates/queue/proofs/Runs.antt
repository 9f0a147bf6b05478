-- A run of pushes and then of pops: what each turn keeps.
use Rattle.std.proofs.Common.{◌≡◌, ℕ, ◌+◌, ◌-◌, ◌<◌, ◌≤◌, Bool, false, List, [], ◌∷◌, ◌++◌, length, get_or, take, drop, set, sym, ap, ◌∙◌, subst, ⊎_elim, arith, length-set}
use Rattle.std.specs.Cmp.{IsStrictWeakOrder}
use Rattle.std.specs.List.Sorted.{IsPermutation}
use Rattle.std.proofs.lemmas.List.{append_assoc, append-nil, take_all, take_at, drop_at, get_or-take, get_or-set_same, get_or-set_other, length-take-le, take_more, take_more_set, take-append-drop}
use Rattle.std.proofs.lemmas.List.Sorted.{length_permutation, IsPermutation-sym, IsPermutation-trans, IsPermutation-cons, IsPermutation-to_front, IsPermutation-append_left, IsPermutation-append_right}
use Rattle.std.proofs.ByRecursion.{all_shuffled}
use Rattle.std.proofs.lemmas.Bool.{cases_eq}
use Rattle.queue.specs.Heap.{Ordered, Greatest}
use Rattle.queue.specs.Calls.{Pushed, Popped}
use Rattle.queue.specs.Runs.{Falls, Emptied, CameOut}
use Rattle.queue.proofs.Heaps.{by, not_itself}
use Rattle.queue.proofs.Levels.{level}

module _ {X : Type 0} (above : X → X → Bool) (o : IsStrictWeakOrder above) where
  -- i of the given elements are in the list
  abbrev pub Filling : List X → List X → ℕ → Type 0
  Filling given xs i = IsPermutation (take i given) (take i xs) × Ordered above (take i xs)

  pub fills : (given xs ys : List X) (i n : ℕ) (x : X) → i < length given → x ≡ get_or given i x → Pushed above xs i x ys n → Filling given xs i → Filling given ys (i + 1)
  fills given xs ys i n x room e p h =
      let is : take (i + 1) given ≡ take i given ++ x ∷ [] = take_more given i x room ∙ ap (λ y. take i given ++ y ∷ []) (sym e) in (
        IsPermutation-trans _ _ _ (subst (λ l. IsPermutation l (x ∷ take i given)) (sym is) (IsPermutation-to_front (take i given) x)) (IsPermutation-trans _ _ _ (IsPermutation-cons x _ _ h.0) p.same),
        p.ordered h.1,
      )

  -- all slots are shuffled by a pop
  pub pop_moves : (xs ys : List X) (len : ℕ) (x : X) → length ys ≡ length xs → Popped above xs len ys x → IsPermutation xs ys
  pop_moves xs ys len x long p =
      let some = p.some in
      let within = p.within in
      let m : len - 1 + 1 ≡ len = omega arith in
      let front : take len ys ≡ take (len - 1) ys ++ x ∷ [] = ap (λ k. take k ys) (sym m) ∙ take_more ys (len - 1) x (omega arith) ∙ ap (λ y. take (len - 1) ys ++ y ∷ []) (p.left x) in
      let moved : IsPermutation (take len xs) (take len ys) = IsPermutation-trans _ _ _ p.same (subst (IsPermutation (x ∷ take (len - 1) ys)) (sym front) (IsPermutation-sym _ _ (IsPermutation-to_front (take (len - 1) ys) x))) in
      let all : ys ≡ take len ys ++ drop len xs = sym (take-append-drop len ys) ∙ ap (λ l. take len ys ++ l) p.rest in
      subst (λ l. IsPermutation l ys) (take-append-drop len xs) (subst (IsPermutation (take len xs ++ drop len xs)) (sym all) (IsPermutation-append_left (drop len xs) _ _ moved))

  -- of the elements hs, those that came out are the first i of out, and m are left in xs
  pub record Emptying (hs xs out : List X) (m i : ℕ) : Type 0 where
    pub same : IsPermutation hs (take i out ++ take m xs)
    pub used : IsPermutation hs xs
    pub order : Ordered above hs → Ordered above (take m xs) × Falls above (take i out) × ((k : ℕ) (d : X) → k < i → Greatest above (get_or out k d) (take m xs))

  module _ (hs xs ys out : List X) (m i : ℕ) (x : X) (room : i < length out) (long : length ys ≡ length xs) (p : Popped above xs m ys x) (h : Emptying hs xs out m i) where
    now_out : take (i + 1) (set out i x) ≡ take i out ++ x ∷ []
    now_out = take_more_set out i x room

    before : (k : ℕ) (d : X) → k < i → get_or (set out i x) k d ≡ get_or out k d
    before k d f = get_or-set_other out i k x d (omega arith)

    -- what came out earlier is outranked neither by x nor by what is left
    still : Ordered above hs → (k : ℕ) (d : X) → k < i → Greatest above (get_or out k d) (x ∷ take (m - 1) ys)
    still r k d f = all_shuffled (λ y. above y (get_or out k d) ≡ false) (take m xs) (x ∷ take (m - 1) ys) p.same ((h.order r).2 k d f)

    falls_on : Ordered above hs → Falls above (take (i + 1) (set out i x))
    falls_on r a b d le lt =
        let n : length (take (i + 1) (set out i x)) ≡ i + 1 = length-take-le (i + 1) (set out i x) (simp length-set (omega arith)) in
        let at_a : get_or (take (i + 1) (set out i x)) a d ≡ get_or (set out i x) a d = get_or-take (i + 1) (set out i x) a d (omega arith) in
        let at_b : get_or (take (i + 1) (set out i x)) b d ≡ get_or (set out i x) b d = get_or-take (i + 1) (set out i x) b d (omega arith) in
        let here : get_or (set out i x) i d ≡ x = get_or-set_same out i x d room in
        by above o _ _ _ _ at_b at_a (⊎_elim
        (λ e. ⊎_elim
        (λ u. by above o _ _ _ _ (ap (λ k. get_or (set out i x) k d) e ∙ here) (ap (λ k. get_or (set out i x) k d) u ∙ here) (not_itself above o x))
        (λ u. by above o _ _ _ _ (ap (λ k. get_or (set out i x) k d) e ∙ here) (before a d (omega arith)) (still r a d (omega arith)).0)
        (cases_eq a i))
        (λ e.
        let short : length (take i out) ≡ i = length-take-le i out (omega arith) in
        by above o _ _ _ _ (before b d (omega arith) ∙ sym (get_or-take i out b d (omega arith))) (before a d (omega arith) ∙ sym (get_or-take i out a d (omega arith))) ((h.order r).1 a b d le (omega arith)))
        (cases_eq b i))

    greatest_on : Ordered above hs → (k : ℕ) (d : X) → k < i + 1 → Greatest above (get_or (set out i x) k d) (take (m - 1) ys)
    greatest_on r k d f = ⊎_elim
        (λ e. subst (λ z. Greatest above z (take (m - 1) ys)) (sym (ap (λ j. get_or (set out i x) j d) e ∙ get_or-set_same out i x d room)) (all_shuffled (λ y. above y x ≡ false) (take m xs) (x ∷ take (m - 1) ys) p.same (p.greatest (h.order r).0)).1)
        (λ u. subst (λ z. Greatest above z (take (m - 1) ys)) (sym (before k d (omega arith))) (still r k d (omega arith)).1)
        (cases_eq k i)

    pub empties : Emptying hs ys (set out i x) (m - 1) (i + 1)
    empties =
        let joined : take i out ++ (x ∷ take (m - 1) ys) ≡ take (i + 1) (set out i x) ++ take (m - 1) ys = sym (append_assoc (take i out) (x ∷ []) (take (m - 1) ys)) ∙ ap (λ l. l ++ take (m - 1) ys) (sym now_out) in record {
          same = IsPermutation-trans _ _ _ h.same (subst (IsPermutation (take i out ++ take m xs)) joined (IsPermutation-append_right (take i out) _ _ p.same));
          used = IsPermutation-trans _ _ _ h.used (pop_moves xs ys m x long p);
          order = λ r. (p.ordered (h.order r).0, falls_on r, greatest_on r);
        }

  pub emptied : (hs xs out items : List X) (m i : ℕ) → m ≡ 0 → i ≡ length hs → length items ≡ length hs → Emptying hs xs items m i → Emptied above hs out xs (items ++ drop (length hs) out)
  emptied hs xs out items m i none all long h =
      let front : take i items ≡ take (length hs) (items ++ drop (length hs) out) = take_all i items (omega arith) ∙ sym (take_at items _ (length hs) long) in record {
        same = subst (IsPermutation hs) (ap (λ k. take i items ++ take k xs) none ∙ append-nil (take i items) ∙ front) h.same;
        falls = λ r. subst (Falls above) front (h.order r).1;
        rest = drop_at items _ (length hs) long;
        used = h.used;
      }

  -- zs is the full list after the pushes, ws what it is after the pops
  pub came_out : (given slots out zs ws out' : List X) → length given ≤ length slots → length given ≤ length out → length ws ≡ length given → IsPermutation given zs → Ordered above zs → Emptied above (take (length given) (zs ++ drop (length given) slots)) out ws out' → CameOut above given slots out (ws ++ drop (length given) (zs ++ drop (length given) slots)) out'
  came_out given slots out zs ws out' room places long s r h =
      let n = length given in
      let zl : length zs ≡ n = length_permutation given zs s in
      let e : take n (zs ++ drop n slots) ≡ zs = take_at zs (drop n slots) n zl in
      let f : drop n (zs ++ drop n slots) ≡ drop n slots = drop_at zs (drop n slots) n zl in
      let k : Emptied above zs out ws out' = subst (λ l. Emptied above l out ws out') e h in
      let same : IsPermutation given (take n out') = IsPermutation-trans _ _ _ s (subst (λ j. IsPermutation zs (take j out')) zl k.same) in
      let falls : Falls above (take n out') = subst (λ j. Falls above (take j out')) zl (k.falls r) in record {
        room = room;
        places = places;
        same = same;
        falls = falls;
        settled = λ xs t g. level above o xs (take n out') (IsPermutation-trans _ _ _ (IsPermutation-sym _ _ t) same) g falls;
        rest = subst (λ j. drop j out' ≡ drop j out) zl k.rest;
        used = subst (IsPermutation given) (sym (take_at ws _ n long)) (IsPermutation-trans _ _ _ s k.used);
        beyond = drop_at ws _ n long ∙ f;
      }
