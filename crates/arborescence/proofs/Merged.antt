-- What both ways of a merge share: the merged sets, and sums over their leaders
use Rattle.std.proofs.Common.{◌≡◌, ℕ, zero, suc, ◌+◌, ◌≤◌, Bool, true, false, cond, not, ◌&&◌, eqb, leb, ◌⊎◌, [], sym, refl, ap, ◌∙◌, inl, inr, add_assoc, add_comm, zero-add, arith}
use Rattle.std.proofs.lemmas.Bool.{cases_Bool, both_ways, eq-eqb, eqb-true, leb-true, and_parts, and_from, and_right, not-true, le-leb, cond-true, cond-false}
use Rattle.std.proofs.lemmas.Bool.Decides.{nat_tests}
use Rattle.weight.specs.Worth.{Worth, plus}
use Rattle.tree.specs.Chains.{Word}
use Rattle.arborescence.specs.Sum.{sum_by, sum_if, count_if}
use Rattle.arborescence.specs.Search.{Tree, Sets, leads, Leader, Into, merged, Union}
use Rattle.tree.proofs.Chains.{enters}
use Rattle.weight.proofs.Worths.{plus_assoc, plus_comm}
use Rattle.arborescence.proofs.Totals as totals

pub leader_from : (n : ℕ) (rep : ℕ → ℕ) (ℓ : ℕ) → Word n ℓ → leads rep ℓ ≡ true → Leader n rep ℓ
leader_from n rep ℓ v t = record { word = v; own = eqb-true (rep ℓ) ℓ t }

-- in a tree, each set is entered
module _ (n : ℕ) (stands : ℕ → ℕ → Bool) (head rep : ℕ → ℕ) (sets : Sets n rep) (tree : Tree n stands head) where
  pub entry : (ℓ : ℕ) → Leader n rep ℓ → (d : ℕ) × Into n stands rep ℓ (head d) d
  entry ℓ lead = by (enters head inside (ne sets.root lead.word) ℓ (and_from (leb ℓ n) (eqb (rep ℓ) ℓ) (le-leb ℓ n lead.word.1) (eq-eqb (rep ℓ) ℓ lead.own)) (tree.reaches ℓ lead.word))
    where
      inside : ℕ → Bool
      inside w = leb w n && eqb (rep w) ℓ

      ne : rep 0 ≡ 0 → Word n ℓ → inside 0 ≡ false
      ne e v = grind (arith, nat_tests)

      positive : (d : ℕ) → rep d ≡ ℓ → 1 ≤ d
      positive zero i = omega (arith, i, sets.root, lead.word.0)
      positive (suc d) i = omega arith

      by : (d : ℕ) × (inside d ≡ true) × (inside (head d) ≡ false) → (d : ℕ) × Into n stands rep ℓ (head d) d
      by e =
          let d : ℕ = e.0 in
          let t = and_parts (leb d n) (eqb (rep d) ℓ) e.1 in
          let i : rep d ≡ ℓ = eqb-true (rep d) ℓ t.1 in
          let v : Word n d = (positive d i, leb-true d n t.0) in
          (d, record { word = v; in_line = tree.in_line d v; standing = tree.standing d v; inside = i; outside = λ o. both_ways (inside (head d)) e.2 (and_from (leb (head d) n) (eqb (rep (head d)) ℓ) (le-leb (head d) n (tree.in_line d v)) (eq-eqb (rep (head d)) ℓ o)) })

  pub some_entry : (ℓ : ℕ) → (d : ℕ) × (Leader n rep ℓ → Into n stands rep ℓ (head d) d)
  some_entry ℓ = by (cases_Bool (leb 1 ℓ && (leb ℓ n && eqb (rep ℓ) ℓ)))
    where
      by : ((leb 1 ℓ && (leb ℓ n && eqb (rep ℓ) ℓ)) ≡ true) ⊎ ((leb 1 ℓ && (leb ℓ n && eqb (rep ℓ) ℓ)) ≡ false) → (d : ℕ) × (Leader n rep ℓ → Into n stands rep ℓ (head d) d)
      by (inl t) = let e = entry ℓ (record { word = (grind (arith, nat_tests), grind (arith, nat_tests)); own = grind (arith, nat_tests) }) in (e.0, λ lead. e.1)
      by (inr f) = (0, λ lead. absurd (let v = lead.word in let o = lead.own in grind (arith, nat_tests)))

-- the merged sets
module _ (n : ℕ) (rep : ℕ → ℕ) (S : ℕ → Bool) (s : ℕ) (sets : Sets n rep) (union : Union n rep S s) where
  pub closed : (v : ℕ) → v ≤ n → S (rep v) ≡ S v
  closed zero le = ap S sets.root
  closed (suc v) le = union.closed (suc v) (omega arith)

  pub at_s : merged S s rep s ≡ s
  at_s = cond-true (S s) s (rep s) union.inside

  pub in_S : (v : ℕ) → S v ≡ true → merged S s rep v ≡ s
  in_S v t = cond-true (S v) s (rep v) t

  pub not_in_S : (v : ℕ) → S v ≡ false → merged S s rep v ≡ rep v
  not_in_S v f = cond-false (S v) s (rep v) f

  pub same_side : (v ℓ : ℕ) → v ≤ n → merged S s rep v ≡ ℓ → S v ≡ S ℓ
  same_side v ℓ le e = by (cases_Bool (S v))
    where
      by : (S v ≡ true) ⊎ (S v ≡ false) → S v ≡ S ℓ
      by (inl t) = cc union.inside
      by (inr f) = cc (closed v le)

  -- what one set holds, one merged set holds
  pub coarser : (x y : ℕ) → x ≤ n → y ≤ n → rep x ≡ rep y → merged S s rep x ≡ merged S s rep y
  coarser x y p q e =
      let t : S x ≡ S y = cc (closed x p, closed y q) in
      cc

  -- so an arc into a merged set leads into the set that its word is of
  pub finer : (stands : ℕ → ℕ → Bool) (ℓ i h d : ℕ) → Into n stands (merged S s rep) ℓ h d → rep d ≡ i → Into n stands rep i h d
  finer stands ℓ i h d a e =
      record { word = a.word; in_line = a.in_line; standing = a.standing; inside = e; outside = λ o. a.outside (coarser h d a.in_line a.word.1 (o ∙ sym e) ∙ a.inside) }

  -- and the set that the arc into the new set leads into is one of S
  pub entered : (stands : ℕ → ℕ → Bool) (h d : ℕ) → Into n stands (merged S s rep) s h d → (S d ≡ true) × Leader n rep (rep d) × (S (rep d) ≡ true)
  entered stands h d a =
      let t : S d ≡ true = same_side d s a.word.1 a.inside ∙ union.inside in
      (t, record { word = sets.word d a.word; own = sets.leader d a.word }, union.closed d a.word ∙ t)

  pub rep_le : (v : ℕ) → v ≤ n → (rep v ≤ n) × (rep (rep v) ≡ rep v)
  rep_le zero le = (omega (arith, sets.root), ap rep sets.root)
  rep_le (suc v) le = let k : Word n (suc v) = omega arith in ((sets.word (suc v) k).1, sets.leader (suc v) k)

  pub merged_sets : Sets n (merged S s rep)
  merged_sets =
      record { root = cc (sets.root, union.root); word = λ w k. (by w k (cases_Bool (S w))).0; leader = λ w k. (by w k (cases_Bool (S w))).1 }
    where
      by : (w : ℕ) → Word n w → (S w ≡ true) ⊎ (S w ≡ false) → Word n (merged S s rep w) × (merged S s rep (merged S s rep w) ≡ merged S s rep w)
      by w k (inl t) = (rw t union.word, cc union.inside)
      by w k (inr f) = (rw f (sets.word w k), cc (union.closed w k, sets.leader w k))

  -- a sum over the merged sets: that of s, and those outside S
  module _ {X : Type 0} (op : X → X → X) (unit : X) (assoc : (a b c : X) → op (op a b) c ≡ op a (op b c)) (comm : (a b : X) → op a b ≡ op b a) (first : (a : X) → op unit a ≡ a) where
    pub merged_sum_by : (term term' : ℕ → X) → ((ℓ : ℕ) → Leader n rep ℓ → S ℓ ≡ false → term ℓ ≡ term' ℓ) →
        sum_by op unit (leads (merged S s rep)) term' n ≡ op (term' s) (sum_by op unit (λ ℓ. leads rep ℓ && not (S ℓ)) term n)
    merged_sum_by term term' same =
        let outer = totals.same op unit (λ ℓ. leads rep ℓ && not (S ℓ)) (λ ℓ. leads (merged S s rep) ℓ && not (S ℓ)) term term' n tests terms in
        let inner = totals.one op unit assoc comm first (λ ℓ. leads (merged S s rep) ℓ && S ℓ) term' n s union.word (and_from (leads (merged S s rep) s) (S s) (eq-eqb (merged S s rep s) s at_s) union.inside) only in
        rw (totals.split op unit assoc comm first (leads (merged S s rep)) S term' n, inner, outer) refl
      where
        tests : (ℓ : ℕ) → Word n ℓ → (leads rep ℓ && not (S ℓ)) ≡ (leads (merged S s rep) ℓ && not (S ℓ))
        tests ℓ v = by (S ℓ)
          where
            by : (t : Bool) → (leads rep ℓ && not t) ≡ (eqb (cond t s (rep ℓ)) ℓ && not t)
            by true = and_right (leads rep ℓ) false refl ∙ sym (and_right (eqb s ℓ) false refl)
            by false = refl

        terms : (ℓ : ℕ) → Word n ℓ → (leads (merged S s rep) ℓ && not (S ℓ)) ≡ true → term ℓ ≡ term' ℓ
        terms ℓ v t =
            let p = and_parts (leads (merged S s rep) ℓ) (not (S ℓ)) t in
            let f : S ℓ ≡ false = not-true (S ℓ) p.1 in
            same ℓ (record { word = v; own = sym (not_in_S ℓ f) ∙ eqb-true (merged S s rep ℓ) ℓ p.0 }) f

        only : (ℓ : ℕ) → Word n ℓ → (leads (merged S s rep) ℓ && S ℓ) ≡ true → ℓ ≡ s
        only ℓ v t =
            let p = and_parts (leads (merged S s rep) ℓ) (S ℓ) t in
            sym (eqb-true (merged S s rep ℓ) ℓ p.0) ∙ in_S ℓ p.1

  pub merged_sum : (term term' : ℕ → Worth) → ((ℓ : ℕ) → Leader n rep ℓ → S ℓ ≡ false → term ℓ ≡ term' ℓ) →
      sum_if (leads (merged S s rep)) term' n ≡ plus (term' s) (sum_if (λ ℓ. leads rep ℓ && not (S ℓ)) term n)
  merged_sum = merged_sum_by plus [] plus_assoc plus_comm (λ a. refl)

  pub merged_count : (term term' : ℕ → ℕ) → ((ℓ : ℕ) → Leader n rep ℓ → S ℓ ≡ false → term ℓ ≡ term' ℓ) →
      count_if (leads (merged S s rep)) term' n ≡ term' s + count_if (λ ℓ. leads rep ℓ && not (S ℓ)) term n
  merged_count = merged_sum_by ◌+◌ 0 add_assoc add_comm zero-add
