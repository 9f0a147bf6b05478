-- Whether heads are a tree is decided by a test, and what passes at every line of heads passes at every tree.
use Rattle.std.proofs.Common.{◌≡◌, ℕ, zero, suc, ◌<◌, ◌≤◌, Bool, true, false, not, ◌&&◌, ◌||◌, eqb, leb, ◌⊎◌, List, [], ◌∷◌, length, get_or, Decides, refl, ap, inl, inr, arith}
use Rattle.arborescence.specs.Heads.{TreeOver}
use Rattle.std.proofs.lemmas.Bool.{leb-true, le-leb, or_cases, both_ways, not-true}
use Rattle.std.proofs.lemmas.Bool.Decides.{nat_tests, Decides-eqb, Decides-like, Decides-and, Decides-below_and, Decides-below_or}
use Rattle.tree.proofs.Chains.{arrives, never_again, up_past}
use Rattle.tree.specs.Chains.{Word, head_of, up, RunsIntoCycle}
use Rattle.tree.specs.Trees.{OnlyRoot}

-- the test passes at each number below n, or at some
abbrev pub all_below : ℕ → (ℕ → Bool) → Bool
all_below zero p = true
all_below (suc n) p = p n && all_below n p

abbrev pub some_below : ℕ → (ℕ → Bool) → Bool
some_below zero p = false
some_below (suc n) p = p n || some_below n p

decides_all : (p : ℕ → Bool) (P : ℕ → Type 0) → ((k : ℕ) → Decides (p k) (P k)) → (n : ℕ) → Decides (all_below n p) ((k : ℕ) → k < n → P k)
decides_all p P each n = Decides-below_and p P (λ m. all_below m p) each refl (λ m. refl) n

decides_some : (p : ℕ → Bool) (P : ℕ → Type 0) → ((k : ℕ) → Decides (p k) (P k)) → (n : ℕ) → Decides (some_below n p) ((k : ℕ) × (k < n) × P k)
decides_some p P each n = Decides-below_or p P (λ m. some_below m p) each refl (λ m. refl) n

-- ---- the test of a tree; the word of place k is k + 1
module _ (n : ℕ) (stands : ℕ → ℕ → Bool) (heads : List ℕ) where
  -- the head is on the line, its arc stands, and the chain comes to the root
  abbrev pub hangs : ℕ → Bool
  hangs k = leb (get_or heads k 0) n && (stands (get_or heads k 0) (suc k) && eqb (up (head_of heads) n (suc k)) 0)

  -- what hangs on the root is the word of place r
  abbrev pub alone : ℕ → ℕ → Bool
  alone r k = not (eqb (get_or heads k 0) 0) || eqb k r

  abbrev pub tops : ℕ → Bool
  tops r = eqb (get_or heads r 0) 0 && all_below n (alone r)

  abbrev pub tree_test : Bool
  tree_test = eqb (length heads) n && (all_below n hangs && some_below n tops)

  abbrev Hangs : ℕ → Type 0
  Hangs k = (get_or heads k 0 ≤ n) × ((stands (get_or heads k 0) (suc k) ≡ true) × (up (head_of heads) n (suc k) ≡ 0))

  abbrev Tops : ℕ → Type 0
  Tops r = (get_or heads r 0 ≡ 0) × ((k : ℕ) → k < n → get_or heads k 0 ≡ 0 → k ≡ r)

  decides_hangs : (k : ℕ) → Decides (hangs k) (Hangs k)
  decides_hangs k =
      Decides-and (leb (get_or heads k 0) n) _ (leb-true (get_or heads k 0) n, le-leb (get_or heads k 0) n)
      (Decides-and (stands (get_or heads k 0) (suc k)) _ (λ e. e, λ e. e) (Decides-eqb (up (head_of heads) n (suc k)) 0))

  decides_alone : (r k : ℕ) → Decides (alone r k) (get_or heads k 0 ≡ 0 → k ≡ r)
  decides_alone r k = by (get_or heads k 0)
    where
      by : (h : ℕ) → Decides (not (eqb h 0) || eqb k r) (h ≡ 0 → k ≡ r)
      by h = (λ e z. grind (arith, nat_tests), λ f. grind (arith, nat_tests))

  decides_tops : (r : ℕ) → Decides (tops r) (Tops r)
  decides_tops r = Decides-and (eqb (get_or heads r 0) 0) _ (Decides-eqb (get_or heads r 0) 0) (decides_all (alone r) (λ k. get_or heads k 0 ≡ 0 → k ≡ r) (decides_alone r) n)

  abbrev Parts : Type 0
  Parts = (length heads ≡ n) × (((k : ℕ) → k < n → Hangs k) × ((r : ℕ) × (r < n) × Tops r))

  parts_tree : Parts → TreeOver n stands heads
  parts_tree (sized, (hang, top)) =
      record { shape = record { shape = record { sized = sized; in_line = in_line; no_cycle = no_cycle }; root = suc top.0; top = record { word = (omega arith, omega (arith, top.1)); hangs = top.2.0; only = only } }; standing = standing }
    where
      in_line : (w : ℕ) → Word n w → head_of heads w ≤ n
      in_line zero word = absurd (omega (arith, word.0))
      in_line (suc k) word = (hang k (omega (arith, word.1))).0

      no_cycle : (w : ℕ) → Word n w → RunsIntoCycle (head_of heads) w → ⊥
      no_cycle zero word = absurd (omega (arith, word.0))
      no_cycle (suc k) word = never_again (head_of heads) refl (suc k) (n, (hang k (omega (arith, word.1))).1.1)

      only : (w : ℕ) → Word n w → head_of heads w ≡ 0 → w ≡ suc top.0
      only zero word e = absurd (omega (arith, word.0))
      only (suc k) word e = ap suc (top.2.1 k (omega (arith, word.1)) e)

      standing : (w : ℕ) → Word n w → stands (head_of heads w) w ≡ true
      standing zero word = absurd (omega (arith, word.0))
      standing (suc k) word = (hang k (omega (arith, word.1))).1.0

  tree_parts : TreeOver n stands heads → Parts
  tree_parts t = (t.shape.shape.sized, (hang, top t.shape.root t.shape.top))
    where
      hang : (k : ℕ) → k < n → Hangs k
      hang k h =
          let word : Word n (suc k) = (omega arith, omega arith) in
          let a = arrives n (head_of heads) refl t.shape.shape.in_line (suc k) word (t.shape.shape.no_cycle (suc k) word) in
          (t.shape.shape.in_line (suc k) word, (t.standing (suc k) word, up_past (head_of heads) refl a.0 n (suc k) a.1 a.2))

      top : (root : ℕ) → OnlyRoot n heads root → (r : ℕ) × (r < n) × Tops r
      top zero o = absurd (omega (arith, o.word.0))
      top (suc r) o = (r, omega (arith, o.word.1), (o.hangs, λ k h e. let s : suc k ≡ suc r = o.only (suc k) (omega arith, omega arith) e in omega arith))

  pub decides_tree : Decides tree_test (TreeOver n stands heads)
  decides_tree =
      Decides-like tree_test parts_tree tree_parts
      (Decides-and (eqb (length heads) n) _ (Decides-eqb (length heads) n)
      (Decides-and (all_below n hangs) _ (decides_all hangs Hangs decides_hangs n) (decides_some tops Tops decides_tops n)))

-- ---- every line of k heads, each at most n
abbrev pub every_line : ℕ → ℕ → (List ℕ → Bool) → Bool
every_line zero n p = p []
every_line (suc k) n p = all_below (suc n) (λ h. every_line k n (λ t. p (h ∷ t)))

at_line : (k n : ℕ) (p : List ℕ → Bool) → every_line k n p ≡ true → (t : List ℕ) → length t ≡ k → ((i : ℕ) → i < k → get_or t i 0 ≤ n) → p t ≡ true
at_line zero n p e [] sized low = e
at_line zero n p e (h ∷ t) sized low = absurd (omega arith)
at_line (suc k) n p e [] sized low = absurd (omega arith)
at_line (suc k) n p e (h ∷ t) sized low =
    let front : h ≤ n = low 0 (omega arith) in
    let rest : every_line k n (λ t. p (h ∷ t)) ≡ true = (decides_all (λ h. every_line k n (λ t. p (h ∷ t))) (λ h. every_line k n (λ t. p (h ∷ t)) ≡ true) (λ h. (λ e. e, λ e. e)) (suc n)).0 e h (omega arith) in
    at_line k n (λ t. p (h ∷ t)) rest t (omega arith) (λ i l. low (suc i) (omega arith))

module _ (n : ℕ) (stands : ℕ → ℕ → Bool) where
  -- the test passes at every tree
  abbrev pub every_tree : (List ℕ → Bool) → Bool
  every_tree p = every_line n n (λ t. not (tree_test n stands t) || p t)

  pub at_tree : (p : List ℕ → Bool) → every_tree p ≡ true → (t : List ℕ) → TreeOver n stands t → p t ≡ true
  at_tree p e t tree = by (or_cases (not (tree_test n stands t)) (p t) (at_line n n (λ t. not (tree_test n stands t) || p t) e t tree.shape.shape.sized (λ i l. tree.shape.shape.in_line (suc i) (omega arith, omega arith))))
    where
      by : (not (tree_test n stands t) ≡ true) ⊎ (p t ≡ true) → p t ≡ true
      by (inl no') = absurd (both_ways (tree_test n stands t) (not-true (tree_test n stands t) no') ((decides_tree n stands t).1 tree))
      by (inr yes') = yes'
