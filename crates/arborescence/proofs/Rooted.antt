use Rattle.std.proofs.Common.{◌≡◌, ℕ, zero, suc, ◌+◌, ◌<◌, ◌≤◌, Bool, true, false, cond, ◌&&◌, T, eqb, leb, ◌⊎◌, List, [], ◌∷◌, map, length, get_or, pos, negsuc, ◌+ℤ◌, neg_ℤ, ◌<ℤ◌, sym, refl, ap, ◌∙◌, inl, inr, add_assoc, add_comm, zero-add, arith}
use Rattle.std.specs.List.{range_with_len}
use Rattle.std.proofs.lemmas.Int.{ints}
use Rattle.std.proofs.lemmas.Bool.{cases_eq, eq-eqb, ne_eqb, eqb-true}
use Rattle.std.proofs.lemmas.Bool.Decides.{nat_tests}
use Rattle.std.proofs.lemmas.List.FromFn.{length-map-range_with_len, get_or-map-range_with_len}
use Rattle.weight.specs.Worth.{Worth, plus, at_most, AtMost}
use Rattle.tree.specs.Chains.{Word, up, head_of, Reaches}
use Rattle.arborescence.specs.Sum.{count_if}
use Rattle.arborescence.specs.Search.{Tree, worth_of_heads}
use Rattle.arborescence.specs.Heads.{TreeOver, worth_from, rooted, OneRoot, ByRootLayer, BestSingle}
use Rattle.weight.proofs.Worths.{plus_none, plus_assoc, plus_left_comm, leads_out}
use Rattle.tree.proofs.Chains.{enters, arrives, never_again}
use Rattle.arborescence.proofs.Totals as totals
use Rattle.arborescence.proofs.Totals.{but}
use Rattle.arborescence.proofs.Sums.{count_out}

abbrev on_root : (ℕ → ℕ) → ℕ → ℕ
on_root head n = count_if (λ w. eqb (head w) 0) (λ w. 1) n

-- the place in front is the number of words on the root, below 0
front : (worth : ℕ → ℕ → Worth) (head : ℕ → ℕ) (n : ℕ) → worth_of_heads (rooted worth) head (suc n) ≡ neg_ℤ (pos (on_root head (suc n))) ∷ worth_of_heads worth head (suc n)
front worth head zero = by (eqb (head 1) 0) (worth (head 1) 1)
  where
    by : (b : Bool) (x : Worth) → ◌≡◌ {A = Worth} (cond b (negsuc 0) (pos 0) ∷ x) (neg_ℤ (pos (cond b 1 0 + 0)) ∷ plus x [])
    by true x = cc (plus_none x)
    by false x = cc (plus_none x)
front worth head (suc n) = by (eqb (head (suc (suc n))) 0) (worth (head (suc (suc n))) (suc (suc n))) _ _ _ (front worth head n)
  where
    by : (b : Bool) (x v : Worth) (c : ℕ) (w : Worth) → v ≡ neg_ℤ (pos c) ∷ w → plus (cond b (negsuc 0) (pos 0) ∷ x) v ≡ neg_ℤ (pos (cond b 1 0 + c)) ∷ plus x w
    by true x v c w e = let z : negsuc 0 +ℤ neg_ℤ (pos c) ≡ neg_ℤ (pos (1 + c)) = omega (arith, ints) in cc
    by false x v c w e = let z : pos 0 +ℤ neg_ℤ (pos c) ≡ neg_ℤ (pos (0 + c)) = omega (arith, ints) in cc

-- one word on the root, counted
one_on_root : (n : ℕ) (head : ℕ → ℕ) → OneRoot n head → on_root head n ≡ 1
one_on_root n head r =
    totals.one ◌+◌ 0 add_assoc add_comm zero-add (λ w. eqb (head w) 0) (λ w. 1) n r.root r.word (eq-eqb (head r.root) 0 r.hangs) (λ w v t. r.only w v (eqb-true (head w) 0 t))

some_on_root : (n : ℕ) (stands : ℕ → ℕ → Bool) (head : ℕ → ℕ) → 1 ≤ n → Tree n stands head → (d : ℕ) × Word n d × (head d ≡ 0)
some_on_root n stands head le tree = by (enters head inside (grind (arith, nat_tests)) n (grind (arith, nat_tests)) (tree.reaches n (omega arith)))
  where
    inside : ℕ → Bool
    inside w = leb 1 w && leb w n

    by : (d : ℕ) × (inside d ≡ true) × (inside (head d) ≡ false) → (d : ℕ) × Word n d × (head d ≡ 0)
    by e =
        let d : ℕ = e.0 in
        let t = e.1 in
        let v : Word n d = (grind (arith, nat_tests), grind (arith, nat_tests)) in
        let le = tree.in_line d v in
        let f = e.2 in
        (d, v, grind (arith, nat_tests))

-- −1 first on the left, −(1 + r) on the right
compare : (r : ℕ) (x y : Worth) → AtMost (neg_ℤ (pos 1) ∷ x) (neg_ℤ (pos (1 + r)) ∷ y) → (r ≡ 0) × AtMost x y
compare r x y h = by (leads_out (neg_ℤ (pos 1)) (neg_ℤ (pos (1 + r))) (at_most x y) h.holds)
  where
    by : (neg_ℤ (pos 1) <ℤ neg_ℤ (pos (1 + r))) ⊎ ((neg_ℤ (pos 1) ≡ neg_ℤ (pos (1 + r))) × T (at_most x y)) → (r ≡ 0) × AtMost x y
    by (inl lt) = absurd (omega (arith, ints))
    by (inr e) = (omega (arith, ints, e.0), record { holds = e.1 })

-- how many more hang on the root than one, and where none does, the one
roots : (n : ℕ) (stands : ℕ → ℕ → Bool) (head : ℕ → ℕ) → 1 ≤ n → Tree n stands head → (r : ℕ) × (on_root head n ≡ 1 + r) × (r ≡ 0 → OneRoot n head)
roots n stands head le tree =
    let d = some_on_root n stands head le tree in
    let p : ℕ → Bool = λ w. eqb (head w) 0 in (
      count_if (but p d.0) (λ w. 1) n,
      count_out p (λ w. 1) n d.0 d.1 (eq-eqb (head d.0) 0 d.2),
      λ none. record { root = d.0; word = d.1; hangs = d.2; only = λ w v z. only d.0 w v z none (cases_eq w d.0) },
    )
  where
    only : (d w : ℕ) → Word n w → head w ≡ 0 → count_if (but (λ w. eqb (head w) 0) d) (λ w. 1) n ≡ 0 → (w ≡ d) ⊎ (w ≡ d → ⊥) → w ≡ d
    only d w v z k (inl e) = e
    only d w v z k (inr e) =
        let t : but (λ w. eqb (head w) 0) d w ≡ true = let q = eq-eqb (head w) 0 z in let q' = ne_eqb w d e in cc in
        absurd (omega (arith, count_out (but (λ w. eqb (head w) 0) d) (λ w. 1) n w v t))

pub single : ByRootLayer
single zero stands worth head le tree best other tree' one = absurd (omega arith)
single (suc n) stands worth head le tree best other tree' one =
    let r = roots (suc n) stands head le tree in
    let b : AtMost (neg_ℤ (pos (on_root other (suc n))) ∷ worth_of_heads worth other (suc n)) (neg_ℤ (pos (on_root head (suc n))) ∷ worth_of_heads worth head (suc n)) = rw (← front worth other n, ← front worth head n) (best other tree') in
    let k = compare r.0 (worth_of_heads worth other (suc n)) (worth_of_heads worth head (suc n)) (rw (one_on_root (suc n) other one, r.1) at b) in
    (r.2 k.0, k.1)

-- ---- the place in front tells whether one word hangs on the root
pub front_of_one : (n : ℕ) (worth : ℕ → ℕ → Worth) (head : ℕ → ℕ) → 1 ≤ n → OneRoot n head → worth_of_heads (rooted worth) head n ≡ negsuc 0 ∷ worth_of_heads worth head n
front_of_one zero worth head le one = absurd (omega arith)
front_of_one (suc n) worth head le one = front worth head n ∙ ap (λ (k : ℕ). neg_ℤ (pos k) ∷ worth_of_heads worth head (suc n)) (one_on_root (suc n) head one)

pub one_by_front : (n : ℕ) (stands : ℕ → ℕ → Bool) (worth : ℕ → ℕ → Worth) (head : ℕ → ℕ) → 1 ≤ n → Tree n stands head → get_or (worth_of_heads (rooted worth) head n) 0 (pos 0) ≡ negsuc 0 → OneRoot n head
one_by_front zero stands worth head le tree e = absurd (omega arith)
one_by_front (suc n) stands worth head le tree e =
    let c : neg_ℤ (pos (on_root head (suc n))) ≡ negsuc 0 = sym (ap (λ (x : Worth). get_or x 0 (pos 0)) (front worth head n)) ∙ e in
    let r = roots (suc n) stands head le tree in
    r.2 (omega (arith, ints, c, r.1))

-- ---- lists of heads
from_is : (worth : ℕ → ℕ → Worth) (head : ℕ → ℕ) (hs : List ℕ) (m : ℕ) → ((i : ℕ) → i < length hs → get_or hs i 0 ≡ head (suc m + i)) → plus (worth_of_heads worth head m) (worth_from worth (suc m) hs) ≡ worth_of_heads worth head (m + length hs)
from_is worth head [] m at = let e : m + 0 ≡ m = omega arith in cc (plus_none (worth_of_heads worth head m))
from_is worth head (h ∷ hs) m at =
    let e : h ≡ head (suc m) = at 0 (omega arith) ∙ ap head (omega arith) in
    let r : plus (plus (worth (head (suc m)) (suc m)) (worth_of_heads worth head m)) (worth_from worth (suc (suc m)) hs) ≡ worth_of_heads worth head (suc m + length hs) = from_is worth head hs (suc m) (λ i l. at (suc i) (omega arith) ∙ ap head (omega arith)) in
    let q : suc m + length hs ≡ m + suc (length hs) = omega arith in
    let t : Worth = worth_of_heads worth head m in
    let x : Worth = worth (head (suc m)) (suc m) in
    let y : Worth = worth_from worth (suc (suc m)) hs in
    let z : plus t (plus x y) ≡ plus (plus x t) y = plus_left_comm t x y ∙ sym (plus_assoc x t y) in
    cc

-- the tree of a list of heads, and its worth
pub read : (n : ℕ) (stands : ℕ → ℕ → Bool) (worth : ℕ → ℕ → Worth) (heads : List ℕ) → TreeOver n stands heads →
    Tree n stands (head_of heads) × OneRoot n (head_of heads) × (worth_from worth 1 heads ≡ worth_of_heads worth (head_of heads) n)
read n stands worth heads t =
    let shape = t.shape.shape in
    let top = t.shape.top in (
      record { in_line = shape.in_line; reaches = λ w v. let r = arrives n (head_of heads) refl shape.in_line w v (shape.no_cycle w v) in (r.0, r.2); standing = t.standing },
      record { root = t.shape.root; word = top.word; hangs = top.hangs; only = top.only },
      from_is worth (head_of heads) heads 0 (λ i l. let q : suc i ≡ 1 + i = omega arith in ap (head_of heads) q) ∙ ap (worth_of_heads worth (head_of heads)) (omega (arith, shape.sized)),
    )

abbrev listed : (ℕ → ℕ) → ℕ → List ℕ
listed head n = map head (range_with_len 1 n)

listed_at : (head : ℕ → ℕ) (n w : ℕ) → Word n w → head_of (listed head n) w ≡ head w
listed_at head n zero v = absurd (omega arith)
listed_at head n (suc i) v = get_or-map-range_with_len head 1 n i (suc i) 0 (omega arith) (omega arith)

module _ (n : ℕ) (head list : ℕ → ℕ) (in_line : (w : ℕ) → Word n w → head w ≤ n) (same : (w : ℕ) → Word n w → list w ≡ head w) where
  carried : (k w : ℕ) → w ≤ n → up head k w ≡ 0 → Reaches list w
  carried k zero le e = (0, refl)
  carried zero (suc w) le e = absurd (omega arith)
  carried (suc k) (suc w) le e =
      let v : Word n (suc w) = omega arith in
      let r = carried k (head (suc w)) (in_line (suc w) v) e in
      (suc r.0, ap (up list r.0) (same (suc w) v) ∙ r.1)

-- a list that has the heads of a tree with one word on the root
pub written_as : (n : ℕ) (stands : ℕ → ℕ → Bool) (worth : ℕ → ℕ → Worth) (head : ℕ → ℕ) (heads : List ℕ) → length heads ≡ n → ((w : ℕ) → Word n w → head_of heads w ≡ head w) → Tree n stands head → OneRoot n head →
    TreeOver n stands heads × (worth_from worth 1 heads ≡ worth_of_heads worth head n)
written_as n stands worth head heads sized same tree one = (
  record {
    shape = record {
      shape = record {
        sized = sized;
        in_line = λ w v. rw (same w v) (tree.in_line w v);
        no_cycle = λ w v. let r = tree.reaches w v in never_again (head_of heads) refl w (carried n head (head_of heads) tree.in_line same r.0 w v.1 r.1);
      };
      root = one.root;
      top = record { word = one.word; hangs = same one.root one.word ∙ one.hangs; only = λ w v z. one.only w v (sym (same w v) ∙ z) };
    };
    standing = λ w v. rw (same w v) (tree.standing w v);
  },
  from_is worth head heads 0 (λ i l. same (suc i) (omega (arith, sized)) ∙ (let q : suc i ≡ 1 + i = omega arith in ap head q)) ∙ ap (worth_of_heads worth head) (omega (arith, sized)),
)

pub best_single : BestSingle
best_single n stands worth head le tree best some t =
    let r = read n stands worth some t in
    let one = (single n stands worth head le tree best (head_of some) r.0 r.1).0 in
    let w = written_as n stands worth head (listed head n) (length-map-range_with_len head 1 n) (listed_at head n) tree one in (
      listed head n,
      w.0,
      λ other o.
          let q = read n stands worth other o in
          rw (q.2, w.1) (single n stands worth head le tree best (head_of other) q.0 q.1).1,
    )
