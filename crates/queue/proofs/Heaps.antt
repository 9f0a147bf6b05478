-- What each step of a sift keeps.
use Rattle.std.proofs.Common.{◌≡◌, ℕ, zero, suc, ◌+◌, ◌-◌, ◌*◌, ◌/◌, ◌<◌, ◌≤◌, Bool, true, false, List, ◌∷◌, length, get_or, set, sym, refl, ap, ◌∙◌, ⊎_elim, arith, length-set}
use Rattle.std.specs.Cmp.{IsStrictWeakOrder}
use Rattle.std.proofs.ByRecursion.{All-from_get_or}
use Rattle.std.proofs.lemmas.List.{get_or_read, get_or-set_same, get_or-set_other}
use Rattle.std.proofs.lemmas.Bool.{cases_eq}
use Rattle.queue.specs.Heap.{IsChild, Ordered, Greatest, Least, Rising, Sinking, Highest, Lowest}

-- ys is xs with the elements at a and b in each other's place: the clause `places` of `swap`
abbrev pub Exchanged : {X : Type 0} → List X → List X → ℕ → ℕ → Type 0
Exchanged {X} xs ys a b =
    ((d : X) → get_or ys a d ≡ get_or xs b d)
    × ((d : X) → get_or ys b d ≡ get_or xs a d)
    × ((k : ℕ) (d : X) → (k ≡ a → ⊥) → (k ≡ b → ⊥) → get_or ys k d ≡ get_or xs k d)
    × ((d : X) → ys ≡ set (set xs a (get_or xs b d)) b (get_or xs a d))

pub child : {p k : ℕ} → p * 2 + 1 ≤ k → k ≤ p * 2 + 2 → IsChild p k
child f t = record { from = f; to = t }

module _ {X : Type 0} (above : X → X → Bool) (o : IsStrictWeakOrder above) where
  pub by : (a b x y : X) → a ≡ x → b ≡ y → above x y ≡ false → above a b ≡ false
  by a b x y p q h = (λ k. above (p k) (q k)) ∙ h

  never : (x : X) (b : Bool) → above x x ≡ b → above x x ≡ false
  never x true e = o.one_way x x e
  never x false e = e

  pub not_itself : (x : X) → above x x ≡ false
  not_itself x = never x (above x x) refl

  -- the order, by a parent and a child of it
  pub over : (xs : List X) → Ordered above xs → (p k : ℕ) (d : X) → IsChild p k → k < length xs → above (get_or xs k d) (get_or xs p d) ≡ false
  over xs h p k d c f =
      let e : p ≡ (k - 1) / 2 = omega arith in
      let u : k ≡ k - 1 + 1 = omega arith in
      by _ _ _ _ (ap (λ n. get_or xs n d) u) (ap (λ n. get_or xs n d) e) (h (k - 1) d (omega arith))

  pub ordered : (xs : List X) → ((p k : ℕ) (d : X) → IsChild p k → k < length xs → above (get_or xs k d) (get_or xs p d) ≡ false) → Ordered above xs
  ordered xs h = λ k d f. h (k / 2) (k + 1) d (child (omega arith) (omega arith)) f

  module _ (xs ys : List X) (p j : ℕ) (under : IsChild p j) (in' : j < length xs) (long : length ys ≡ length xs) (s : Exchanged xs ys p j) (t : (d : X) → above (get_or xs j d) (get_or xs p d) ≡ true) where
    at_p : (m : ℕ) (d : X) → m ≡ p → get_or ys m d ≡ get_or xs j d
    at_p m d e = ap (λ n. get_or ys n d) e ∙ s.0 d

    at_j : (m : ℕ) (d : X) → m ≡ j → get_or ys m d ≡ get_or xs p d
    at_j m d e = ap (λ n. get_or ys n d) e ∙ s.1 d

    -- the element at j has gone up to p
    pub rise_steps : Rising above xs j → Rising above ys p
    rise_steps h = record {
      others = λ q k d c f n. ⊎_elim
          (λ e. by _ _ _ _ (at_j k d e) (at_p q d (omega arith)) (o.one_way _ _ (t d)))
          (λ u. ⊎_elim
          (λ e. by _ _ _ _ (s.2 k d n u) (at_p q d e) (o.chain _ _ _ (h.others p k d (child (omega arith) (omega arith)) (omega arith) u) (o.one_way _ _ (t d))))
          (λ v. ⊎_elim
          (λ e. by _ _ _ _ (s.2 k d n u) (at_j q d e) (h.across p k d under (child (omega arith) (omega arith)) (omega arith)))
          (λ w. by _ _ _ _ (s.2 k d n u) (s.2 q d v w) (h.others q k d c (omega arith) u))
          (cases_eq q j))
          (cases_eq q p))
          (cases_eq k j);
      across = λ q k d c f i.
          let over = h.others q p d c (omega arith) (omega arith) in
          let same = s.2 q d (omega arith) (omega arith) in
          ⊎_elim
          (λ e. by _ _ _ _ (at_j k d e) same over)
          (λ u. by _ _ _ _ (s.2 k d (omega arith) u) same (o.chain _ _ _ (h.others p k d f (omega arith) u) over))
          (cases_eq k j);
    }

    -- the element at p has gone down to j, the highest of p's children
    pub sink_steps : Highest above xs p j → Sinking above xs p → Sinking above ys j
    sink_steps best h = record {
      others = λ q k d c f n. ⊎_elim
          (λ e. ⊎_elim
          (λ u. by _ _ _ _ (at_j k d u) (at_p q d e) (o.one_way _ _ (t d)))
          (λ u. by _ _ _ _ (s.2 k d (omega arith) u) (at_p q d e) (best k d (child (omega arith) (omega arith)) (omega arith)))
          (cases_eq k j))
          (λ v. ⊎_elim
          (λ u. by _ _ _ _ (at_p k d u) (s.2 q d v n) (h.across q j d (child (omega arith) (omega arith)) under in'))
          (λ u. by _ _ _ _ (s.2 k d u (omega arith)) (s.2 q d v n) (h.others q k d c (omega arith) v))
          (cases_eq k p))
          (cases_eq q p);
      across = λ q k d c f i. by _ _ _ _ (s.2 k d (omega arith) (omega arith)) (at_p q d (omega arith)) (h.others j k d f (omega arith) (omega arith));
    }

  top : (xs : List X) (d : X) → Ordered above xs → (fuel k : ℕ) → k ≤ fuel → k < length xs → above (get_or xs k d) (get_or xs 0 d) ≡ false
  top xs d h zero k a b = let e : k ≡ 0 = omega arith in by _ _ _ _ (ap (λ n. get_or xs n d) e) refl (not_itself (get_or xs 0 d))
  top xs d h (suc fuel) k a b = ⊎_elim
      (λ e. by _ _ _ _ (ap (λ n. get_or xs n d) e) refl (not_itself (get_or xs 0 d)))
      (λ n. o.chain _ _ _ (over xs h ((k - 1) / 2) k d (child (omega arith) (omega arith)) b) (top xs d h fuel ((k - 1) / 2) (omega arith) (omega arith)))
      (cases_eq k 0)

  -- the first of a heap is its greatest
  pub greatest : (xs : List X) (x : X) → x ≡ get_or xs 0 x → Ordered above xs → Greatest above x xs
  greatest xs x e h = All-from_get_or (λ y. above y x ≡ false) xs x (λ k f. by _ _ _ _ refl e (top xs x h k k (omega arith) f))

  pub lowest_keeps : (xs : List X) (b i : ℕ) (x y : X) → b < length xs → i < length xs → y ≡ get_or xs b y → x ≡ get_or xs i x → above y x ≡ false → Lowest above xs b i → Lowest above xs b (i + 1)
  lowest_keeps xs b i x y in' here p q t h = λ k d f. ⊎_elim
      (λ e. by _ _ _ _ (sym (get_or_read xs b y in' p d)) (ap (λ n. get_or xs n d) e ∙ sym (get_or_read xs i x here q d)) t)
      (λ n. h k d (omega arith))
      (cases_eq k i)

  pub lowest_takes : (xs : List X) (b i : ℕ) (x y : X) → b < length xs → i < length xs → y ≡ get_or xs b y → x ≡ get_or xs i x → above y x ≡ true → Lowest above xs b i → Lowest above xs i (i + 1)
  lowest_takes xs b i x y in' here p q t h = λ k d f. ⊎_elim
      (λ e. by _ _ _ _ refl (ap (λ n. get_or xs n d) e) (not_itself (get_or xs i d)))
      (λ n. o.chain _ y _ (by _ _ _ _ (sym (get_or_read xs i x here q d)) refl (o.one_way _ _ t)) (by _ _ _ _ (get_or_read xs b y in' p d) refl (h k d (omega arith))))
      (cases_eq k i)

  -- x in the place of y, which it outranks
  pub raised : (xs : List X) (i : ℕ) (x y : X) → i < length xs → y ≡ get_or xs i y → above x y ≡ true → Ordered above xs → Rising above (set xs i x) i
  raised xs i x y in' e t h =
      let long = length-set xs i x in
      let is : (d : X) → get_or xs i d ≡ y = λ d. sym (get_or_read xs i y in' e d) in record {
        others = λ p k d c f n. ⊎_elim
            (λ u. by _ _ _ _ (get_or-set_other xs i k x d n) (ap (λ m. get_or (set xs i x) m d) u ∙ get_or-set_same xs i x d in') (o.chain _ y _ (by _ _ _ _ refl (sym (ap (λ m. get_or xs m d) u ∙ is d)) (over xs h p k d c (omega arith))) (o.one_way _ _ t)))
            (λ u. by _ _ _ _ (get_or-set_other xs i k x d n) (get_or-set_other xs i p x d u) (over xs h p k d c (omega arith)))
            (cases_eq p i);
        across = λ p k d c f l. by _ _ _ _ (get_or-set_other xs i k x d (omega arith)) (get_or-set_other xs i p x d (omega arith)) (o.chain _ _ _ (over xs h i k d f (omega arith)) (over xs h p i d c in'));
      }

  pub least_old : (xs : List X) (i : ℕ) (x y : X) → y ≡ get_or xs i y → above x y ≡ true → Lowest above xs i (length xs) → Least above y (x ∷ xs)
  least_old xs i x y e t h = (o.one_way _ _ t, All-from_get_or (λ z. above y z ≡ false) xs y (λ k f. by _ _ _ _ e refl (h k y f)))
