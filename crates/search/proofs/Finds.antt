-- From a heaviest arborescence over the root layer to a heaviest single-root tree
use Rattle.std.proofs.Common.{◌≡◌, ℕ, zero, suc, ◌+◌, ◌-◌, ◌*◌, ◌^◌, ◌≤◌, Bool, true, false, cond, eqb, List, [], ◌∷◌, ◌++◌, length, get_or, take, drop, pos, negsuc, sym, ap, ◌∙◌, add-one, arith}
use Rattle.std.proofs.lemmas.List.{get_or-take, take-append-le, drop-append-le, take_all, drop_all}
use Rattle.std.proofs.lemmas.Int.{ints}
use Rattle.weight.specs.Range.{Range, Ranged, limit}
use Rattle.weight.specs.Worth.{Worth, zeros, plus, Within}
use Rattle.weight.proofs.Ranges.{entry_within}
use Rattle.weight.proofs.Worths.{plus_comm, plus_assoc, plus_zeros, within_more, outweighs_not}
use Rattle.tree.specs.Chains.{Word, head_of}
use Rattle.arborescence.specs.Search.{Tree, worth_of_heads}
use Rattle.arborescence.specs.Heads.{TreeOver, worth_from, rooted}
use Rattle.arborescence.proofs.Rooted.{read, single, front_of_one, one_by_front, written_as}
use Rattle.search.specs.Arcs.{weight_at, layered_worth, Sound, Entries}
use Rattle.search.specs.Opening.{BestOfAll}
use Rattle.search.specs.Answer.{HeaviestTree}
use Rattle.search.proofs.Scan.{place_lt}
use Rattle.search.proofs.Joining.{at_length}

module _ {K : Type 0} (f : K → Worth) (p : ℕ) (sized : (x : K) → length (f x) ≡ p) (n : ℕ) (weights : List K) (all : n * (n + 1) ≤ length weights) where
  pub arc_length : (h d : ℕ) → Word n d → h ≤ n → length (layered_worth f n weights h d) ≡ suc p
  arc_length h d v le = ap suc (at_length f p sized weights ((d - 1) * (n + 1) + h) (omega (arith, place_lt n h d v le)))

  -- entries are small, and each arc has all its places
  pub sound : (ranges : List Range) → Ranged ranges → (stands : ℕ → ℕ → Bool) → Entries n stands ranges (weight_at f n weights) → Sound n stands (layered_worth f n weights) (zeros (suc p))
  sound ranges ranged stands entries = record { whole = λ h d v le. plus_zeros (layered_worth f n weights h d) (suc p) (arc_length h d v le); small = λ h d v le t. by h d (eqb h 0) (within_more limit (2 ^ 20) (weight_at f n weights h d) (omega arith) (entry_within ranges (weight_at f n weights h d) ranged (entries h d v le t))) }
    where
      by : (h d : ℕ) (b : Bool) → Within (2 ^ 20) (weight_at f n weights h d) → Within (2 ^ 20) (cond b (negsuc 0) (pos 0) ∷ weight_at f n weights h d)
      by h d true w = (omega (arith, ints), omega (arith, ints), w)
      by h d false w = (omega (arith, ints), omega (arith, ints), w)

-- a sum of arcs has all its places
pub total_is : (worth : ℕ → ℕ → Worth) (head : ℕ → ℕ) (p n : ℕ) → 1 ≤ n → ((w : ℕ) → Word n w → length (worth (head w) w) ≡ p) → plus (zeros p) (worth_of_heads worth head n) ≡ worth_of_heads worth head n
total_is worth head p zero le each = absurd (omega arith)
total_is worth head p (suc n) le each =
    let a : Worth = worth (head (suc n)) (suc n) in
    let rest : Worth = worth_of_heads worth head n in
    sym (plus_assoc (zeros p) a rest) ∙ ap (λ (x : Worth). plus x rest) (plus_comm (zeros p) a ∙ plus_zeros a p (each (suc n) (omega arith)))

-- ---- what is told
pub no_tree : (n : ℕ) (stands : ℕ → ℕ → Bool) → ((head : ℕ → ℕ) → Tree n stands head → ⊥) → (t : List ℕ) → TreeOver n stands t → ⊥
no_tree n stands none t over = none (head_of t) (read n stands (λ h d. []) t over).0

module _ (n : ℕ) (some : 1 ≤ n) (stands : ℕ → ℕ → Bool) (worth : ℕ → ℕ → Worth) (head : ℕ → ℕ) (best : BestOfAll n stands (rooted worth) head) where
  pub several : (get_or (worth_of_heads (rooted worth) head n) 0 (pos 0) ≡ negsuc 0 → ⊥) → (t : List ℕ) → TreeOver n stands t → ⊥
  several more t over =
      let r = read n stands worth t over in
      let one = (single n stands worth head some best.0 best.1 (head_of t) r.0 r.1).0 in
      more (ap (λ (x : Worth). get_or x 0 (pos 0)) (front_of_one n worth head some one))

  pub the_heaviest : {K : Type 0} (f : K → Worth) (weight : K) (heads : List ℕ) → length heads ≡ n → ((w : ℕ) → Word n w → head_of heads w ≡ head w) → get_or (worth_of_heads (rooted worth) head n) 0 (pos 0) ≡ negsuc 0 → f weight ≡ drop 1 (worth_of_heads (rooted worth) head n) → HeaviestTree f n stands worth heads weight
  the_heaviest f weight heads sized same front value =
      let one = one_by_front n stands worth head some best.0 front in
      let w = written_as n stands worth head heads sized same best.0 one in
      let v : f weight ≡ worth_of_heads worth head n = value ∙ ap (drop 1) (front_of_one n worth head some one) in
      record {
        tree = w.0;
        weighs = v ∙ sym w.1;
        none_heavier = λ other over heavier.
            let r = read n stands worth other over in
            let le = (single n stands worth head some best.0 best.1 (head_of other) r.0 r.1).1 in
            outweighs_not (worth_from worth 1 other) (f weight) heavier (rw (r.2, v) le);
      }

-- ---- the front of a space, and its rest
-- the head of the word at place i, among the first n heads
pub head_next : (n : ℕ) (heads : List ℕ) (i : ℕ) → i + 1 ≤ n → head_of heads (i + 1) ≡ get_or (take n heads) i 0
head_next n heads i le = rw (add-one i) (sym (get_or-take n heads i 0 (omega arith)))

pub front_head : (n : ℕ) (heads : List ℕ) (w : ℕ) → Word n w → head_of (take n heads) w ≡ head_of heads w
front_head n heads zero v = absurd (omega arith)
front_head n heads (suc i) v = get_or-take n heads i 0 (omega arith)

pub new_front : (n : ℕ) (front rest : List ℕ) → length front ≡ n → (take n (front ++ rest) ≡ front) × (drop n (front ++ rest) ≡ rest)
new_front n front rest e =
    let le : n ≤ length front = omega arith in
    let all : length front ≤ n = omega arith in
    (take-append-le n front rest le ∙ take_all n front all, drop-append-le n front rest le ∙ ap (λ (xs : List ℕ). xs ++ rest) (drop_all n front all))
