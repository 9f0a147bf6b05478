-- What a tree weighs is small, since its arcs weigh no more than entries do.
use Rattle.std.proofs.Common.{◌≡◌, ℕ, suc, ◌+◌, ◌*◌, ◌^◌, ◌<◌, ◌≤◌, true, List, [], ◌∷◌, length, get_or, Some, None, Option, is_some, refl, sym, subst, arith}
use Rattle.arborescence.specs.Heads.{worth_from}
use Rattle.ranking.specs.Takes.{HandedOut}
use Rattle.ranking.specs.Trees.{TreeOf, arc_worth, tree_worth, weight_worth}
use Rattle.sheet.specs.Arcs.{Arcs}
use Rattle.std.specs.List.{AllByRecursion}
use Rattle.tree.specs.Chains.{Word}
use Rattle.weight.proofs.Ranges.{entry_within}
use Rattle.weight.proofs.Worths.{within_more, within_plus}
use Rattle.weight.specs.Range.{Range, Ranged, entry_in, limit}
use Rattle.weight.specs.Worth.{Worth, Within, plus}

-- bytes, one by one
pub all_bytes : (bs : List ℕ) → ((i : ℕ) → get_or bs i 0 < 256) → AllByRecursion (λ b. b < 256) bs
all_bytes [] each = tt
all_bytes (b ∷ bs) each = (each 0, all_bytes bs (λ i. each (suc i)))

-- a sum of as many arcs as there are heads
sum_within : (m : ℕ) (value : ℕ → ℕ → Worth) (w : ℕ) (hs : List ℕ) → ((i : ℕ) → i < length hs → Within m (value (get_or hs i 0) (w + i))) → Within (length hs * m) (worth_from value w hs)
sum_within m value w [] each = tt
sum_within m value w (h ∷ hs) each =
    let zero : w + 0 ≡ w = omega arith in
    let first : Within m (value h w) = subst (λ k. Within m (value h k)) zero (each 0 (omega arith)) in
    let rest : Within (length hs * m) (worth_from value (suc w) hs) = sum_within m value (suc w) hs (λ i lt. let next : w + suc i ≡ suc w + i = omega arith in subst (λ k. Within m (value (get_or hs i 0) k)) next (each (suc i) (omega arith))) in
    let total : m + length hs * m ≡ suc (length hs) * m = omega arith in
    subst (λ k. Within k (plus (value h w) (worth_from value (suc w) hs))) total (within_plus m (length hs * m) (value h w) (worth_from value (suc w) hs) first rest)

module _ {K : Type 0} (worth : K → Worth) (ranges : List Range) (ranged : Ranged ranges) (n : ℕ) (arcs : Arcs K) (entries : (h d : ℕ) (k : K) → arcs h d ≡ Some k → entry_in ranges (worth k) ≡ true) where
  arc_small : (h d : ℕ) (x : Option K) → arcs h d ≡ x → is_some x ≡ true → Within limit (weight_worth worth x)
  arc_small h d None e some = absurd cc
  arc_small h d (Some k) e some = entry_within ranges (worth k) ranged (entries h d k e)

  tree_small : (heads : List ℕ) → n ≤ 40 → TreeOf n arcs heads → Within (2 ^ 40) (tree_worth worth arcs heads)
  tree_small heads few tree =
      let long = tree.shape.shape.sized in
      let each : (i : ℕ) → i < length heads → Within limit (arc_worth worth arcs (get_or heads i 0) (1 + i)) = λ i lt.
      let word : Word n (suc i) = (omega arith, omega arith) in
      let at : suc i ≡ 1 + i = omega arith in
      subst (λ k. Within limit (arc_worth worth arcs (get_or heads i 0) k)) at (arc_small (get_or heads i 0) (suc i) (arcs (get_or heads i 0) (suc i)) refl (tree.standing (suc i) word)) in
      within_more (length heads * limit) (2 ^ 40) (tree_worth worth arcs heads) (omega arith) (sum_within limit (arc_worth worth arcs) 1 heads each)

  pub handed_small : (ts : List (List ℕ)) (heads : List ℕ) (weight : K) (count : ℕ) → n ≤ 40 → HandedOut worth n arcs ts heads weight count → Within (2 ^ 40) (worth weight)
  handed_small ts heads weight count few h = subst (Within (2 ^ 40)) (sym h.weighs) (tree_small heads few h.tree)
