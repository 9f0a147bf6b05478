-- What the order of the rows says
use Rattle.std.proofs.Common.{◌≡◌, Bool, true, false, cond, not, Ordering, Less, Equal, Greater, refl, ap, ◌⊎◌, inl, inr}
use Rattle.std.specs.Cmp.Lexicographic.{slice_cmp}
use Rattle.std.specs.Ordering.{nat_cmp, ordering_then, ordering_reverse, is_gt}
use Rattle.std.proofs.lemmas.Map.Lookups.{exact_bytes}
use Rattle.weight.specs.Worth.{Worth, at_most, order}
use Rattle.sheet.specs.Candidates.{Row, precedes, outranking, NoneLevel}
use Rattle.sheet.specs.Orders.{precedence_total, row_ranks}
use Rattle.sheet.specs.declared.Candidate.{Candidate}

-- what comes no earlier is no heavier
pub not_heavier : {K : Type 0} (worth : K → Worth) (a b : Candidate K) → outranking worth a b ≡ false → not (at_most (worth a.weight) (worth b.weight)) ≡ false
not_heavier worth a b = by (at_most (worth a.weight) (worth b.weight)) (at_most (worth b.weight) (worth a.weight)) (slice_cmp nat_cmp b.heads a.heads)
  where
    by : (p q : Bool) (h : Ordering) → is_gt (ordering_then (cond p (cond q Equal Less) Greater) h) ≡ false → not p ≡ false
    by true q h e = refl
    by false q h e = cc

-- of two rows with other heads the one precedes the other
pub one_precedes : (a b : Row) → (a.heads ≡ b.heads → ⊥) → precedes a b ≡ false → precedes b a ≡ true
one_precedes a b apart f = by (order b.worth a.worth) (slice_cmp nat_cmp a.heads b.heads) refl (ap is_gt (precedence_total.antisymm a b)) f
  where
    by : (o h : Ordering) → slice_cmp nat_cmp a.heads b.heads ≡ h → precedes a b ≡ is_gt (ordering_reverse (ordering_then o h)) → precedes a b ≡ false → is_gt (ordering_then o h) ≡ true
    by Greater h e turned f = refl
    by Less h e turned f = cc
    by Equal Greater e turned f = refl
    by Equal Less e turned f = cc
    by Equal Equal e turned f = absurd (apart (exact_bytes a.heads b.heads e))

pub none_level : NoneLevel
none_level a b apart = by (precedes a b) refl
  where
    by : (t : Bool) → precedes a b ≡ t → ((precedes a b ≡ true) × (precedes b a ≡ false)) ⊎ ((precedes b a ≡ true) × (precedes a b ≡ false))
    by true e = inl (e, row_ranks.one_way a b e)
    by false e = inr (one_precedes a b apart e, e)

pub row_same : (a b : Row) → a.worth ≡ b.worth → a.heads ≡ b.heads → a.from ≡ b.from → a.banned ≡ b.banned → a ≡ b
row_same a b w h f g = λ i. record { worth = w i; heads = h i; from = f i; banned = g i }
