-- Lines and arcs, one after another.
use Rattle.std.proofs.Common.{◌≡◌, ℕ, zero, suc, ◌+◌, ◌-◌, ◌≤◌, Bool, true, false, cond, ◌&&◌, slice_index, List, [], ◌∷◌, ◌++◌, Some, None, Option, refl, sym, ap, ◌∙◌, arith, append_assoc, append-nil}
use Rattle.penfile.specs.Lines.{standing_at, standing_into}
use Rattle.penfile.specs.declared.Standing.{Standing}
use Rattle.sheet.specs.Arcs.{Arcs, arcs_in, on_line, place}
use Rattle.std.proofs.lemmas.Bool.Decides.{nat_tests}
use Rattle.std.proofs.ByRecursion.{All-append}
use Rattle.std.specs.List.{AllByRecursion, flat_map, range_with_len, slice_get}
use Rattle.weight.specs.Range.{Range, entry_in}
use Rattle.weight.specs.Worth.{Worth}
use Rattle.word_set.specs.Bits.{in_set}

-- one number more
pub one_more : {X : Type 0} (f : ℕ → List X) (a n m : ℕ) → m ≡ n + 1 → flat_map f (range_with_len a m) ≡ flat_map f (range_with_len a n) ++ f (a + n)
one_more f a n m e = ap (λ k. flat_map f (range_with_len a k)) (e ∙ add_one n) ∙ by f a n
  where
    add_one : (n : ℕ) → n + 1 ≡ suc n
    add_one n = omega arith

    by : {X : Type 0} (f : ℕ → List X) (a n : ℕ) → flat_map f (range_with_len a (suc n)) ≡ flat_map f (range_with_len a n) ++ f (a + n)
    by f a zero = let none : a ≡ a + 0 = omega arith in append-nil (f a) ∙ ap f none
    by f a (suc n) =
        let at : a + 1 + n ≡ a + suc n = omega arith in
        ap (λ l. f a ++ l) (by f (a + 1) n ∙ ap (λ k. flat_map f (range_with_len (a + 1) n) ++ f k) at)
        ∙ sym (append_assoc (f a) (flat_map f (range_with_len (a + 1) n)) (f (a + suc n)))

module _ {K : Type 0} (worth : K → Worth) (ranges : List Range) (arcs : Arcs K) (entries : (h d : ℕ) (k : K) → arcs h d ≡ Some k → entry_in ranges (worth k) ≡ true) where
  abbrev IsEntry : Standing K → Type 0
  IsEntry arc = entry_in ranges (worth arc.weight) ≡ true

  one : (h d : ℕ) (x : Option K) → arcs h d ≡ x → AllByRecursion IsEntry (standing_at h d x)
  one h d None e = tt
  one h d (Some k) e = (entries h d k e, tt)

  into : (d a n : ℕ) → AllByRecursion IsEntry (flat_map (λ h. standing_at h d (arcs h d)) (range_with_len a n))
  into d a zero = tt
  into d a (suc n) = All-append IsEntry (standing_at a d (arcs a d)) _ (one a d (arcs a d) refl) (into d (a + 1) n)

  pub all_entries : (n a m : ℕ) → AllByRecursion IsEntry (flat_map (λ d. standing_into arcs d (n + 1)) (range_with_len a m))
  all_entries n a zero = tt
  all_entries n a (suc m) = All-append IsEntry (standing_into arcs a (n + 1)) _ (into a 0 (n + 1)) (all_entries n (a + 1) m)

-- the arc at a place, where it stands and where it does not
module _ {K : Type 0} (n h d : ℕ) (weights : List K) (sets : List ℕ) where
  stood : (b : Bool) (x : Option K) (k : K) → b ≡ true → x ≡ Some k → standing_at h d (cond b x None) ≡ record { head = h; dependent = d; weight = k } ∷ []
  stood b x k e is = rw (e, is) refl

  on : h ≤ n → 1 ≤ d → d ≤ n → on_line n h d ≡ true
  on head first last = grind (arith, nat_tests)

  pub stands_here : (k : K) → h ≤ n → 1 ≤ d → d ≤ n → in_set (slice_index sets (d - 1)) h ≡ true → slice_get weights (place n h d) ≡ Some k → standing_at h d (arcs_in n weights sets h d) ≡ record { head = h; dependent = d; weight = k } ∷ []
  stands_here k head first last up is =
      let line = on head first last in
      let both : (on_line n h d && in_set (slice_index sets (d - 1)) h) ≡ true = rw (line, up) refl in
      stood _ _ k both is

  pub absent_here : h ≤ n → 1 ≤ d → d ≤ n → in_set (slice_index sets (d - 1)) h ≡ false → standing_at h d (arcs_in n weights sets h d) ≡ []
  absent_here head first last up =
      let line = on head first last in
      rw (line, up) refl

-- the arcs into a word so far, and those of one head more
pub grown : {K : Type 0} (old items longer : List (Standing K)) (arcs : Arcs K) (d h : ℕ) (more : List (Standing K)) → items ≡ old ++ standing_into arcs d h → longer ≡ items ++ more → standing_at h d (arcs h d) ≡ more → longer ≡ old ++ standing_into arcs d (h + 1)
grown old items longer arcs d h more so put is =
    let at : 0 + h ≡ h = omega arith in
    let step = one_more (λ (k : ℕ). standing_at k d (arcs k d)) 0 h (h + 1) refl ∙ ap (λ (k : ℕ). standing_into arcs d h ++ standing_at k d (arcs k d)) at in
    put ∙ ap (λ l. l ++ more) so ∙ append_assoc old (standing_into arcs d h) more ∙ ap (λ l. old ++ l) (ap (λ l. standing_into arcs d h ++ l) (sym is) ∙ sym step)
