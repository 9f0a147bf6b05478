-- The steps of a ranking.
use Rattle.std.proofs.Common.{◌≡◌, ℕ, zero, suc, ◌+◌, ◌<◌, ◌≤◌, Bool, true, false, cond, not, ◌&&◌, leb, ◌⊎◌, List, [], ◌∷◌, length, Decides, sym, refl, ap, ◌∙◌, subst, inl, inr, arith}
use Rattle.std.specs.List.Sorted.{IsPermutation}
use Rattle.std.specs.List.{AllByRecursion}
use Rattle.std.specs.Str.{bytes_eq}
use Rattle.std.proofs.ByRecursion.{All-weaker, all_shuffled}
use Rattle.std.proofs.lemmas.Slice.Eq.{bytes_eq-Decides}
use Rattle.std.proofs.lemmas.Bool.{cases_lt, false_from_ne_true, not-false, le-leb, lt-leb, leb-true}
use Rattle.std.proofs.lemmas.Bool.Decides.{nat_tests, same_from_decides, Decides-like}
use Rattle.weight.specs.Worth.{Worth, at_most, AtMost}
use Rattle.tree.specs.Chains.{head_of}
use Rattle.weight.proofs.Worths.{at_most_refl, at_most_trans}
use Rattle.arborescence.specs.Heads.{TreeOver, worth_from}
use Rattle.queue.specs.Heap.{Greatest, Least}
use Rattle.queue.proofs.Counting.{as_many, count_cons, count_all, count_shuffled}
use Rattle.cells.specs.Cells.{InCell, bans_at, apart_at, in_cell, pending}
use Rattle.cells.specs.Accounts.{Cell, Among, times, holds, heavier, BestOfCell, BestOfSubCell, Next, homes, over, Accounted}
use Rattle.cells.specs.Steps.{Steps, AllSteps}
use Rattle.cells.proofs.Parting.{same_all, apart_all, same_before, in_cell_decides, split}
use Rattle.cells.proofs.Counts.{counted, among_times, times_among, test_at_most, at_most_test}

all_both : {X : Type 0} (P Q : X → Type 0) (xs : List X) → AllByRecursion P xs → AllByRecursion Q xs → AllByRecursion (λ x. P x × Q x) xs
all_both P Q [] h k = tt
all_both P Q (x ∷ xs) h k = ((h.0, k.0), all_both P Q xs h.1 k.1)

-- a cell is its own tree and what differs first at `from` or after
module _ (n : ℕ) (c : Cell) (t : List ℕ) (sized : length c.heads ≡ n) (sized-t : length t ≡ n) where
  whole_by : (from d : ℕ) (b s : Bool) → (n < d → s ≡ true) → (d ≤ n → s ≡ false) → (from < d → s ≡ true → b ≡ false) → from ≤ n →
      cond (leb from d && not b) 1 0 ≡ cond s 1 0 + cond ((leb from d && not b) && (leb from d && leb d n)) 1 0
  whole_by from d b s one two three le = grind (arith, nat_tests)

  same_is : bytes_eq t c.heads ≡ leb (suc n) (apart_at t c.heads)
  same_is = same_from_decides _ _ (bytes_eq-Decides t c.heads) (
    λ e. same_all n c.heads t sized sized-t (leb-true (suc n) (apart_at t c.heads) e),
    λ e. le-leb (suc n) (apart_at t c.heads) (apart_all n c.heads t sized sized-t e),
  )

  pub whole : c.from ≤ n → c.banned (head_of c.heads c.from) ≡ false →
      cond (holds t c) 1 0 ≡ cond (bytes_eq t c.heads) 1 0 + cond (pending n c.heads c.from c.banned c.from t) 1 0
  whole le free =
      whole_by c.from (apart_at t c.heads) (c.banned (head_of t c.from)) (bytes_eq t c.heads)
      (λ l. same_is ∙ le-leb (suc n) (apart_at t c.heads) l)
      (λ l. same_is ∙ lt-leb (suc n) (apart_at t c.heads) (omega arith))
      (λ l e. ap c.banned (same_before n c.heads t sized sized-t c.from l) ∙ free)
      le

  -- nothing is left where all is split
  pub nothing_left : ◌≡◌ {A = ℕ} (cond (pending n c.heads c.from c.banned (suc n) t) 1 0) 0
  nothing_left = by (holds t c) (apart_at t c.heads)
    where
      by : (b : Bool) (d : ℕ) → ◌≡◌ {A = ℕ} (cond (b && (leb (suc n) d && leb d n)) 1 0) 0
      by b d = grind (arith, nat_tests)

module _ (n : ℕ) (Tree : List ℕ → Type 0) (value : List ℕ → Worth) {X : Type 0} (view : X → Cell) (limit : ℕ) (sized : (t : List ℕ) → Tree t → length t ≡ n) where
  abbrev Kept : List (List ℕ) → Cell → ℕ → List X → Type 0
  Kept ts u p cs = Accounted n Tree value view limit ts u p cs

  abbrev Homes : List (List ℕ) → Cell → ℕ → List X → List ℕ → ℕ
  Homes ts u p cs t = homes n Tree value view ts u p cs t

  abbrev Over : List X → List ℕ → ℕ
  Over cs t = over n Tree value view cs t

  pub own : (c : Cell) → BestOfCell n Tree value c → holds c.heads c ≡ true
  own c b =
      let s = sized c.heads b.tree in
      (in_cell_decides n c.heads c.heads s s c.from c.banned (omega (arith, b.place))).1 (record { before = λ w l. refl; free = b.free })

  found_same : (a b k o k' o' : ℕ) → a ≡ b → k + o ≤ k' + o' → (1 ≤ a) ⊎ (limit ≤ k + o) → (1 ≤ b) ⊎ (limit ≤ k' + o')
  found_same a b k o k' o' e le (inl h) = inl (omega arith)
  found_same a b k o k' o' e le (inr h) = inr (omega arith)

  start : (u : Cell) → BestOfCell n Tree value u → u.from ≡ 1 → ((h : ℕ) → u.banned h ≡ false) → Kept (u.heads ∷ []) u 1 [] × Next n Tree value [] u.heads u.worth
  start u b one none = (
    record {
      tree = b.tree;
      free = b.free;
      some = omega arith;
      low = omega arith;
      high = omega arith;
      waiting = tt;
      once = λ t is. let e = all t is in omega arith;
      found = λ t is. let e = all t is in inl (omega arith);
    },
    record { tree = b.tree; untaken = λ m. m; exact = b.exact; best = λ t is m. b.best t is (every t is) },
  )
    where
      every : (t : List ℕ) → Tree t → holds t u ≡ true
      every t is = (in_cell_decides n u.heads t (sized u.heads b.tree) (sized t is) u.from u.banned (omega arith)).1 (record { before = λ w l. zeroth w (omega arith); free = none (head_of t u.from) })
        where
          zeroth : (w : ℕ) → w < 1 → head_of t w ≡ head_of u.heads w
          zeroth zero l = refl
          zeroth (suc w) l = absurd (omega arith)

      all : (t : List ℕ) → Tree t → Homes (u.heads ∷ []) u 1 [] t ≡ 1
      all t is =
          let w = whole n u t (sized u.heads b.tree) (sized t is) b.place.1 b.free in
          let e = as_many (holds t u) true (every t is) in
          let q = count_cons (bytes_eq t) u.heads [] in
          let w' = subst (λ (p : ℕ). cond (holds t u) 1 0 ≡ cond (bytes_eq t u.heads) 1 0 + cond (pending n u.heads u.from u.banned p t) 1 0) one w in
          omega arith

  -- ---- a sub-cell
  module _ (ts : List (List ℕ)) (u : Cell) (p : ℕ) (cs : List X) (le : p ≤ n) (k : Kept ts u p cs) where
    splits : (t : List ℕ) → Tree t → cond (pending n u.heads u.from u.banned p t) 1 0 ≡ cond (in_cell u.heads p (bans_at u.heads u.from u.banned p) t) 1 0 + cond (pending n u.heads u.from u.banned (suc p) t) 1 0
    splits t is = split n u.heads u.from u.banned t (sized u.heads k.tree) (sized t is) p k.low le k.free

    pass : ((t : List ℕ) → Tree t → InCell u.heads p (bans_at u.heads u.from u.banned p) t → ⊥) → Kept ts u (suc p) cs
    pass empty = record {
      tree = k.tree;
      free = k.free;
      some = k.some;
      low = omega (arith, k.low);
      high = omega arith;
      waiting = k.waiting;
      once = λ t is. let e = same t is in let o = k.once t is in omega arith;
      found = λ t is. found_same (Homes ts u p cs t) (Homes ts u (suc p) cs t) (length ts) (Over cs t) (length ts) (Over cs t) (same t is) (omega arith) (k.found t is);
    }
      where
        out : (t : List ℕ) → Tree t → in_cell u.heads p (bans_at u.heads u.from u.banned p) t ≡ false
        out t is = false_from_ne_true _ (λ e. empty t is ((in_cell_decides n u.heads t (sized u.heads k.tree) (sized t is) p (bans_at u.heads u.from u.banned p) (omega arith)).0 e))

        same : (t : List ℕ) → Tree t → Homes ts u p cs t ≡ Homes ts u (suc p) cs t
        same t is =
            let s = splits t is in
            let z = as_many _ false (out t is) in
            omega arith

    push : (x : X) → BestOfSubCell n Tree value u p (view x) → Kept ts u (suc p) (x ∷ cs)
    push x b = record {
      tree = k.tree;
      free = k.free;
      some = k.some;
      low = omega (arith, k.low);
      high = omega arith;
      waiting = (best, k.waiting);
      once = λ t is. let e = same t is in let o = k.once t is in omega arith;
      found = λ t is.
          let o = count_cons (λ c. at_most (value t) (view c).worth) x cs in
          found_same (Homes ts u p cs t) (Homes ts u (suc p) (x ∷ cs) t) (length ts) (Over cs t) (length ts) (Over (x ∷ cs) t) (same t is) (omega arith) (k.found t is);
    }
      where
        inward : (t : List ℕ) → InCell (view x).heads (view x).from (view x).banned t → InCell u.heads p (bans_at u.heads u.from u.banned p) t
        inward t h = record {
          before = λ w l. h.before w (omega (arith, b.from)) ∙ b.inside.before w l;
          free = sym (b.bans (head_of t p)) ∙ subst (λ (v : ℕ). (view x).banned (head_of t v) ≡ false) b.from h.free;
        }

        outward : (t : List ℕ) → InCell u.heads p (bans_at u.heads u.from u.banned p) t → InCell (view x).heads (view x).from (view x).banned t
        outward t h = record {
          before = λ w l. h.before w (omega (arith, b.from)) ∙ sym (b.inside.before w (omega (arith, b.from)));
          free = subst (λ (v : ℕ). (view x).banned (head_of t v) ≡ false) (sym b.from) (b.bans (head_of t p) ∙ h.free);
        }

        holds_decides : (t : List ℕ) → Tree t → Decides (holds t (view x)) (InCell u.heads p (bans_at u.heads u.from u.banned p) t)
        holds_decides t is = Decides-like (holds t (view x)) (inward t) (outward t) (in_cell_decides n (view x).heads t (sized (view x).heads b.tree) (sized t is) (view x).from (view x).banned (omega (arith, b.from)))

        moved : (t : List ℕ) → Tree t → holds t (view x) ≡ in_cell u.heads p (bans_at u.heads u.from u.banned p) t
        moved t is = same_from_decides _ _ (holds_decides t is) (in_cell_decides n u.heads t (sized u.heads k.tree) (sized t is) p (bans_at u.heads u.from u.banned p) (omega arith))

        best : BestOfCell n Tree value (view x)
        best = record {
          place = omega (arith, b.from, k.some, k.low);
          tree = b.tree;
          free = (outward (view x).heads b.inside).free;
          exact = b.exact;
          best = λ t is h. b.best t is ((holds_decides t is).0 h);
        }

        same : (t : List ℕ) → Tree t → Homes ts u p cs t ≡ Homes ts u (suc p) (x ∷ cs) t
        same t is =
            let s = splits t is in
            let m = as_many _ _ (moved t is) in
            let q = count_cons (λ c. holds t (view c)) x cs in
            omega arith

  -- ---- one is dropped
  drop_least : (ts : List (List ℕ)) (u : Cell) (p : ℕ) (cs : List X) (y : X) → limit ≤ length ts + length cs → Least (λ a b. heavier (view a) (view b)) y cs → Kept ts u p (y ∷ cs) → Kept ts u p cs
  drop_least ts u p cs y le least k = record {
    tree = k.tree;
    free = k.free;
    some = k.some;
    low = k.low;
    high = k.high;
    waiting = k.waiting.1;
    once = λ t is. let q = count_cons (λ c. holds t (view c)) y cs in let o = k.once t is in omega arith;
    found = λ t is. found t is (holds t (view y)) refl (at_most (value t) (view y).worth) refl (k.found t is);
  }
    where
      outnumbered : (t : List ℕ) → AtMost (value t) (view y).worth → limit ≤ length ts + Over cs t
      outnumbered t h =
          let all = All-weaker (λ c. heavier (view y) (view c) ≡ false) (λ c. at_most (value t) (view c).worth ≡ true)
          (λ c e. test_at_most _ _ (at_most_trans (value t) (view y).worth (view c).worth h (at_most_test _ _ (not-false (at_most (view y).worth (view c).worth) e)))) cs least in
          let c = count_all (λ c. at_most (value t) (view c).worth) cs all in
          omega arith

      found : (t : List ℕ) → Tree t → (h : Bool) → holds t (view y) ≡ h → (m : Bool) → at_most (value t) (view y).worth ≡ m →
          (1 ≤ Homes ts u p (y ∷ cs) t) ⊎ (limit ≤ length ts + Over (y ∷ cs) t) → (1 ≤ Homes ts u p cs t) ⊎ (limit ≤ length ts + Over cs t)
      found t is true h m e old = inr (outnumbered t (k.waiting.0.best t is h))
      found t is false h true e old = inr (outnumbered t (at_most_test _ _ e))
      found t is false h false e old =
          let q = count_cons (λ c. holds t (view c)) y cs in
          let z = as_many (holds t (view y)) false h in
          let r = count_cons (λ c. at_most (value t) (view c).worth) y cs in
          let w = as_many (at_most (value t) (view y).worth) false e in
          found_same (Homes ts u p (y ∷ cs) t) (Homes ts u p cs t) (length ts) (Over (y ∷ cs) t) (length ts) (Over cs t) (omega arith) (omega arith) old

  -- ---- all is split
  no_more : (ts : List (List ℕ)) (u : Cell) → length ts < limit → Kept ts u (suc n) [] → (t : List ℕ) → Tree t → Among t ts
  no_more ts u lt k t is = by (k.found t is)
    where
      by : (1 ≤ Homes ts u (suc n) [] t) ⊎ (limit ≤ length ts + Over [] t) → Among t ts
      by (inl h) = let z = nothing_left n u t (sized u.heads k.tree) (sized t is) in times_among t ts (omega arith)
      by (inr h) = absurd (omega arith)

  take_greatest : (ts : List (List ℕ)) (u : Cell) (cs : List X) (x : X) → length ts < limit → Greatest (λ a b. heavier (view a) (view b)) x cs → Kept ts u (suc n) (x ∷ cs) → Kept ((view x).heads ∷ ts) (view x) (view x).from cs × Next n Tree value ts (view x).heads (view x).worth
  take_greatest ts u cs x lt greatest k = (
    record {
      tree = b.tree;
      free = b.free;
      some = b.place.0;
      low = omega arith;
      high = omega (arith, b.place);
      waiting = k.waiting.1;
      once = λ t is. let e = same t is in let o = k.once t is in omega arith;
      found = λ t is.
          let o = count_cons (λ c. at_most (value t) (view c).worth) x cs in
          let m = at_most_one (at_most (value t) (view x).worth) in
          found_same (Homes ts u (suc n) (x ∷ cs) t) (Homes ((view x).heads ∷ ts) (view x) (view x).from cs t) (length ts) (Over (x ∷ cs) t) (suc (length ts)) (Over cs t) (same t is) (omega arith) (k.found t is);
    },
    record {
      tree = b.tree;
      untaken = λ m.
          let a = among_times (view x).heads ts m in
          let e = as_many (holds (view x).heads (view x)) true (own (view x) b) in
          let q = count_cons (λ c. holds (view x).heads (view c)) x cs in
          let o = k.once (view x).heads b.tree in
          omega arith;
      exact = b.exact;
      best = λ t is m. best t is m (k.found t is);
    },
  )
    where
      b : BestOfCell n Tree value (view x)
      b = k.waiting.0

      at_most_one : (v : Bool) → cond v 1 0 ≤ 1
      at_most_one true = omega arith
      at_most_one false = omega arith

      same : (t : List ℕ) → Tree t → Homes ts u (suc n) (x ∷ cs) t ≡ Homes ((view x).heads ∷ ts) (view x) (view x).from cs t
      same t is =
          let z = nothing_left n u t (sized u.heads k.tree) (sized t is) in
          let w = whole n (view x) t (sized (view x).heads b.tree) (sized t is) b.place.1 b.free in
          let c = count_cons (bytes_eq t) (view x).heads ts in
          let q = count_cons (λ c. holds t (view c)) x cs in
          omega arith

      below : AllByRecursion (λ c. AtMost (view c).worth (view x).worth) (x ∷ cs)
      below = (at_most_refl (view x).worth, All-weaker (λ c. heavier (view c) (view x) ≡ false) (λ c. AtMost (view c).worth (view x).worth) (λ c e. at_most_test _ _ (not-false (at_most (view c).worth (view x).worth) e)) cs greatest)

      best : (t : List ℕ) → Tree t → (Among t ts → ⊥) → (1 ≤ Homes ts u (suc n) (x ∷ cs) t) ⊎ (limit ≤ length ts + Over (x ∷ cs) t) → AtMost (value t) (view x).worth
      best t is m (inl h) = by (cases_lt 0 (times t ts))
        where
          by : (0 < times t ts) ⊎ (times t ts ≤ 0) → AtMost (value t) (view x).worth
          by (inl l) = absurd (m (times_among t ts l))
          by (inr l) =
              let z = nothing_left n u t (sized u.heads k.tree) (sized t is) in
              counted (λ c. holds t (view c)) (λ c. BestOfCell n Tree value (view c) × AtMost (view c).worth (view x).worth) (AtMost (value t) (view x).worth) (x ∷ cs)
              (all_both (λ c. BestOfCell n Tree value (view c)) (λ c. AtMost (view c).worth (view x).worth) (x ∷ cs) k.waiting below)
              (λ c g e. at_most_trans (value t) (view c).worth (view x).worth (g.0.best t is e) g.1)
              (omega arith)
      best t is m (inr h) =
          counted (λ c. at_most (value t) (view c).worth) (λ c. AtMost (view c).worth (view x).worth) (AtMost (value t) (view x).worth) (x ∷ cs) below
          (λ c g e. at_most_trans (value t) (view c).worth (view x).worth (at_most_test _ _ e) g)
          (omega arith)

  shuffle : (ts : List (List ℕ)) (u : Cell) (p : ℕ) (cs ds : List X) → IsPermutation cs ds → Kept ts u p cs → Kept ts u p ds
  shuffle ts u p cs ds s k = record {
    tree = k.tree;
    free = k.free;
    some = k.some;
    low = k.low;
    high = k.high;
    waiting = all_shuffled (λ c. BestOfCell n Tree value (view c)) cs ds s k.waiting;
    once = λ t is. let e = homes_same t in let o = k.once t is in omega arith;
    found = λ t is. found_same (Homes ts u p cs t) (Homes ts u p ds t) (length ts) (Over cs t) (length ts) (Over ds t) (homes_same t) (let o = over_same t in omega arith) (k.found t is);
  }
    where
      homes_same : (t : List ℕ) → Homes ts u p cs t ≡ Homes ts u p ds t
      homes_same t = let e = count_shuffled (λ c. holds t (view c)) cs ds s in omega arith

      over_same : (t : List ℕ) → Over ds t ≡ Over cs t
      over_same t = count_shuffled (λ c. at_most (value t) (view c).worth) cs ds s

  pub steps : Steps n Tree value view limit
  steps = record { start = start; push = λ ts u p cs x le b k. push ts u p cs le k x b; pass = λ ts u p cs le e k. pass ts u p cs le k e; drop_least = drop_least; take_greatest = take_greatest; no_more = no_more; shuffle = shuffle }

pub all_steps : AllSteps
all_steps n limit stands worth = steps n (TreeOver n stands) (worth_from worth 1) (λ c. c) limit (λ t is. is.shape.shape.sized)
