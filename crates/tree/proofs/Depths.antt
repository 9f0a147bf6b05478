-- How deep a word hangs, and why the brackets end.
use Rattle.std.proofs.Common.{◌≡◌, ℕ, zero, suc, ◌+◌, ◌-◌, ◌<◌, ◌≤◌, Bool, true, false, cond, eqb, List, [], ◌∷◌, ◌++◌, length, get_or, decimal, sym, refl, ap, ◌∙◌, append-nil, arith, length-append, ne_eqb, eqb-true}
use Rattle.std.specs.List.{AllByRecursion}
use Rattle.std.proofs.ByRecursion.{All-weaker}
use Rattle.tree.proofs.Chains.{arrives, up_root, up_past}
use Rattle.tree.proofs.Rests.{rest}
use Rattle.tree.specs.Brackets.{dependents_from, dependents, in_brackets, word_text, bracketed, WrittenLikewise}
use Rattle.tree.specs.Chains.{head_of, up}
use Rattle.tree.specs.Trees.{LineTree, Rooted}

-- the steps from w up to the root, at most k
abbrev pub depth_by : ℕ → List ℕ → ℕ → ℕ
depth_by zero heads w = 0
depth_by (suc k) heads w = cond (eqb w 0) 0 (1 + depth_by k heads (head_of heads w))

depth_word : (k : ℕ) (heads : List ℕ) (w : ℕ) → 0 < w → depth_by (suc k) heads w ≡ 1 + depth_by k heads (head_of heads w)
depth_word k heads w h = ap (λ t. cond t 0 (1 + depth_by k heads (head_of heads w))) (ne_eqb w 0 (λ e. omega (arith, e, h)))

depth_le : (k : ℕ) (heads : List ℕ) (w : ℕ) → depth_by k heads w ≤ k
depth_le zero heads w = omega arith
depth_le (suc k) heads zero = omega arith
depth_le (suc k) heads (suc w) = let d = depth_word k heads (suc w) (omega arith) in omega (arith, depth_le k heads (head_of heads (suc w)))

depth_same : (k : ℕ) (heads : List ℕ) (w : ℕ) → up (head_of heads) k w ≡ 0 → depth_by k heads w ≡ depth_by (suc k) heads w
depth_same zero heads w e = sym (ap (depth_by 1 heads) e)
depth_same (suc k) heads zero e = refl
depth_same (suc k) heads (suc w) e =
    let h : 0 < suc w = omega arith in
    depth_word k heads (suc w) h ∙ ap (λ d. 1 + d) (depth_same k heads (head_of heads (suc w)) e) ∙ sym (depth_word (suc k) heads (suc w) h)

-- a dependent is one step further from the root
pub deeper : (n : ℕ) (heads : List ℕ) (d w : ℕ) → 0 < n → 0 < d → head_of heads d ≡ w → up (head_of heads) n d ≡ 0 → (depth_by n heads d ≡ 1 + depth_by n heads w) × (depth_by n heads d ≤ n)
deeper zero heads d w more h e r = absurd (omega arith)
deeper (suc m) heads d w more h e r = (
  depth_word m heads d h ∙ ap (λ x. 1 + depth_by m heads x) e ∙ ap (λ x. 1 + x) (depth_same m heads w (ap (up (head_of heads) m) (sym e) ∙ r)),
  depth_le (suc m) heads d,
)

-- the dependents of w are words whose head is w
abbrev pub Under : List ℕ → ℕ → ℕ → Type 0
Under heads w d = (0 < d) × (d ≤ length heads) × (head_of heads d ≡ w)

under_from : (heads hs : List ℕ) (i w : ℕ) → 0 < i → i + length hs ≤ length heads + 1 → ((k : ℕ) → k < length hs → get_or hs k 0 ≡ head_of heads (i + k)) → AllByRecursion (Under heads w) (dependents_from hs i w)
under_from heads [] i w h l same = tt
under_from heads (x ∷ hs) i w h l same =
    let e : i + 0 ≡ i = omega arith in
    let is : x ≡ head_of heads i = same 0 (omega arith) ∙ ap (head_of heads) e in
    let rest = under_from heads hs (i + 1) w (omega arith) (omega arith) (λ k lt. let p : i + suc k ≡ i + 1 + k = omega arith in same (suc k) (omega arith) ∙ ap (head_of heads) p) in
    go (eqb x w) refl is rest
  where
    go : (t : Bool) → eqb x w ≡ t → x ≡ head_of heads i → AllByRecursion (Under heads w) (dependents_from hs (i + 1) w) → AllByRecursion (Under heads w) (cond t (i ∷ dependents_from hs (i + 1) w) (dependents_from hs (i + 1) w))
    go true e is rest = ((h, omega arith, sym is ∙ eqb-true x w e), rest)
    go false e is rest = rest

under_all : (heads : List ℕ) (w : ℕ) → AllByRecursion (Under heads w) (dependents heads w)
under_all heads w = under_from heads heads 1 w (omega arith) (omega arith) (λ k lt. let p : suc k ≡ 1 + k = omega arith in ap (head_of heads) p)

in_brackets_same : (f g : ℕ → List ℕ) (b : Bool) (ds : List ℕ) → AllByRecursion (λ d. f d ≡ g d) ds → in_brackets f b ds ≡ in_brackets g b ds
in_brackets_same f g true [] a = refl
in_brackets_same f g false [] a = refl
in_brackets_same f g true (d ∷ ds) a = ap (λ t. 40 ∷ (t ++ in_brackets f false ds)) a.0 ∙ ap (λ t. 40 ∷ (g d ++ t)) (in_brackets_same f g false ds a.1)
in_brackets_same f g false (d ∷ ds) a = ap (λ t. 32 ∷ (t ++ in_brackets f false ds)) a.0 ∙ ap (λ t. 32 ∷ (g d ++ t)) (in_brackets_same f g false ds a.1)

none_below : (heads : List ℕ) (w : ℕ) (ds : List ℕ) → Rooted heads → length heads ≤ depth_by (length heads) heads w → AllByRecursion (Under heads w) ds → ds ≡ []
none_below heads w [] r h a = refl
none_below heads w (d ∷ ds) r h a =
    let u = a.0 in
    let deep = deeper (length heads) heads d w (omega (arith, u.0, u.1)) u.0 u.2 (r d u.1) in
    absurd (omega (arith, deep.0, deep.1))

-- one level more changes nothing where no word is so deep
stable : (heads : List ℕ) (k w : ℕ) → Rooted heads → length heads ≤ depth_by (length heads) heads w + k → word_text k heads w ≡ word_text (suc k) heads w
stable heads zero w r h = sym (append-nil (decimal w)) ∙ ap (λ ds. decimal w ++ in_brackets (word_text 0 heads) true ds) (sym (none_below heads w (dependents heads w) r (omega arith) (under_all heads w)))
stable heads (suc k) w r h =
    ap (λ t. decimal w ++ t)
    (in_brackets_same (word_text k heads) (word_text (suc k) heads) true (dependents heads w)
    (All-weaker (Under heads w) (λ d. word_text k heads d ≡ word_text (suc k) heads d) (λ d u. let deep = deeper (length heads) heads d w (omega (arith, u.0, u.1)) u.0 u.2 (r d u.1) in stable heads k d r (omega (arith, deep.0))) (dependents heads w) (under_all heads w)))

pub written_likewise : (heads : List ℕ) → Rooted heads → WrittenLikewise heads
written_likewise heads r w = stable heads (length heads) w r (omega arith)

pub length_bracketed : (heads : List ℕ) (w : ℕ) → Rooted heads → length (bracketed heads w) ≡ length (decimal w) + length (rest heads (bracketed heads) w true 0)
length_bracketed heads w r = ap length (written_likewise heads r w) ∙ length-append (decimal w) (rest heads (bracketed heads) w true 0)

-- the words that are not on the way from w up to the root; those on it are written before w's dependents are
abbrev pub unwritten : List ℕ → ℕ → ℕ
unwritten heads w = length heads - depth_by (length heads) heads w

-- they are fewer from a word to its dependent i + 1
pub falls : (heads : List ℕ) (w i : ℕ) → Rooted heads → i < length heads → get_or heads i 0 ≡ w → unwritten heads (i + 1) < unwritten heads w
falls heads w i r h e =
    let p : i + 1 ≡ suc i = omega arith in
    let deep = deeper (length heads) heads (i + 1) w (omega arith) (omega arith) (ap (head_of heads) p ∙ e) (r (i + 1) (omega arith)) in
    omega (arith, deep.0, deep.1)

pub rooted : (heads : List ℕ) (root : ℕ) → LineTree heads root → Rooted heads
rooted heads root t zero le = up_root (head_of heads) refl (length heads)
rooted heads root t (suc w) le =
    let word : (1 ≤ suc w) × (suc w ≤ length heads) = (omega arith, le) in
    let a = arrives (length heads) (head_of heads) refl t.shape.in_line (suc w) word (t.shape.no_cycle (suc w) word) in
    up_past (head_of heads) refl a.0 (length heads) (suc w) a.1 a.2
