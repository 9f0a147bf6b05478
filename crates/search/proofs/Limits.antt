-- How great the numbers get, and how many merges there are
use Rattle.std.proofs.Common.{◌≡◌, ℕ, zero, suc, ◌+◌, ◌-◌, ◌*◌, ◌^◌, ◌≤◌, Bool, true, not, ◌&&◌, eqb, List, [], ◌∷◌, length, refl, ap, ◌∙◌, subst, arith}
use Rattle.std.proofs.lemmas.Bool.{and_from, eq-eqb, ne_eqb, both_ways}
use Rattle.weight.specs.Worth.{Worth, zeros, plus, Within}
use Rattle.tree.specs.Chains.{Word}
use Rattle.arborescence.specs.Sum.{sum_if, count_if}
use Rattle.arborescence.specs.Search.{Leader, leads, Union, merged, raised}
use Rattle.arborescence.specs.Bounds.{Sized, merged_size}
use Rattle.weight.proofs.Worths.{within_more, within_zeros}
use Rattle.arborescence.proofs.Totals.{but}
use Rattle.arborescence.proofs.Sums.{count_out, count_split}
use Rattle.arborescence.proofs.Bounded.{sized_merge}
use Rattle.arborescence.proofs.Merged as merges
use Rattle.word_set.specs.Bits.{in_set}
use Rattle.search.specs.Arcs.{Sound}
use Rattle.search.specs.Family.{Group, rep_of, from_of, best_of, add_of, size_of, Valid}
use Rattle.search.specs.Ring.{Laid, Ring}
use Rattle.search.proofs.Raised.{sum_small}
use Rattle.search.proofs.Families.{entered, valid_sized, value_within}
use Rattle.search.proofs.Stages.{valid_laid}
use Rattle.search.proofs.Rings.{best_same_set, joined_ring}

size_le : (n m : ℕ) (rep : ℕ → ℕ) (add : ℕ → Worth) (size : ℕ → ℕ) → Sized n m rep add size → (ℓ : ℕ) → Leader n rep ℓ → size ℓ ≤ n
size_le n m rep add size sized ℓ lead = omega (arith, sized.all, count_out (leads rep) size n ℓ lead.word (eq-eqb (rep ℓ) ℓ lead.own))

module _ (p n : ℕ) (few : n ≤ 40) (stands : ℕ → ℕ → Bool) (worth : ℕ → ℕ → Worth) (sound : Sound n stands worth (zeros (suc p))) (base : ℕ → Group) (ms : List Group) (valid : Valid n stands worth (zeros (suc p)) base ms) where
  laid : Laid n base ms
  laid = valid_laid n stands worth (zeros (suc p)) sound.whole base ms valid

  sizes : Sized n (2 ^ 20) (rep_of ms) (add_of n (zeros (suc p)) base ms) (size_of n ms)
  sizes = valid_sized n stands worth (zeros (suc p)) sound.whole base (2 ^ 20) sound.small (within_zeros 0 (suc p)) ms valid

  lead : (w : ℕ) → Word n w → Leader n (rep_of ms) (rep_of ms w)
  lead w v = record { word = laid.sets.word w v; own = laid.sets.leader w v }

  leader_value : (ℓ : ℕ) → Leader n (rep_of ms) ℓ → Within ((2 ^ 20) * size_of n ms ℓ) (best_of base ms ℓ)
  leader_value = value_within n stands worth (zeros (suc p)) sound.whole base (2 ^ 20) sound.small (within_zeros 0 (suc p)) ms valid sizes

  pub value_small : (w : ℕ) → Word n w → Within (2 ^ 26) (best_of base ms w)
  value_small w v =
      let le = size_le n (2 ^ 20) (rep_of ms) (add_of n (zeros (suc p)) base ms) (size_of n ms) sizes (rep_of ms w) (lead w v) in
      subst (Within (2 ^ 26)) (best_same_set n base ms laid w v.1) (within_more ((2 ^ 20) * size_of n ms (rep_of ms w)) (2 ^ 26) (best_of base ms (rep_of ms w)) (omega arith) (leader_value (rep_of ms w) (lead w v)))

  pub add_small : (w : ℕ) → Word n w → Within (2 ^ 26) (add_of n (zeros (suc p)) base ms w)
  add_small w v =
      let le = size_le n (2 ^ 20) (rep_of ms) (add_of n (zeros (suc p)) base ms) (size_of n ms) sizes (rep_of ms w) (lead w v) in
      within_more ((2 ^ 20) * (size_of n ms (rep_of ms w) - 1)) (2 ^ 26) (add_of n (zeros (suc p)) base ms w) (omega arith) (sizes.small w v)

  pub all_small : (q : ℕ → Bool) → Within (2 ^ 32) (plus (zeros (suc p)) (sum_if q (best_of base ms) n))
  all_small q = sum_small (2 ^ 26) (suc p) q (best_of base ms) n (2 ^ 32) value_small (omega arith)

  module _ (S : ℕ) (ring : Ring n base ms S) where
    s : ℕ
    s = ring.some.0

    union : Union n (rep_of ms) (in_set S) s
    unfolding s
    union = record { root = ring.root; closed = λ w v. ring.closed w v.1; word = ring.some.1; inside = ring.some.2 }

    pub new_small : (w : ℕ) → Word n w → Within (2 ^ 26) (raised (in_set S) n (rep_of ms) (add_of n (zeros (suc p)) base ms) (best_of base ms) w)
    new_small w v =
        let sm = sized_merge n (2 ^ 20) (rep_of ms) (add_of n (zeros (suc p)) base ms) (best_of base ms) (in_set S) s (size_of n ms) laid.sets union (λ ℓ l t. leader_value ℓ l) sizes in
        let ss = merges.merged_sets n (rep_of ms) (in_set S) s laid.sets union in
        let le = size_le n (2 ^ 20) (merged (in_set S) s (rep_of ms)) (raised (in_set S) n (rep_of ms) (add_of n (zeros (suc p)) base ms) (best_of base ms)) (merged_size (in_set S) n (rep_of ms) (size_of n ms)) sm (merged (in_set S) s (rep_of ms) w) (record { word = ss.word w v; own = ss.leader w v }) in
        within_more ((2 ^ 20) * (merged_size (in_set S) n (rep_of ms) (size_of n ms) (merged (in_set S) s (rep_of ms) w) - 1)) (2 ^ 26) _ (omega arith) (sm.small w v)

    -- ---- each merge leaves fewer sets
    two_in : 2 ≤ count_if (λ ℓ. leads (rep_of ms) ℓ && in_set S ℓ) (λ _. 1) n
    two_in =
        let w = ring.some.0 in
        let i : ℕ = rep_of ms w in
        let li = lead w ring.some.1 in
        let ti : in_set S i ≡ true = ring.closed w ring.some.1.1 ∙ ring.some.2 in
        let e = entered n stands worth (zeros (suc p)) sound.whole base ms valid i li in
        let h : ℕ = from_of base ms i in
        let th : in_set S h ≡ true = ring.within i li ti in
        let vh : Word n h = (not_zero h th, e.arc.in_line) in
        let j : ℕ = rep_of ms h in
        let lj = lead h vh in
        let tj : in_set S j ≡ true = ring.closed h vh.1 ∙ th in
        let pi = and_from (leads (rep_of ms) i) (in_set S i) (eq-eqb (rep_of ms i) i li.own) ti in
        let pj = and_from (leads (rep_of ms) j) (in_set S j) (eq-eqb (rep_of ms j) j lj.own) tj in
        let a = count_out (λ ℓ. leads (rep_of ms) ℓ && in_set S ℓ) (λ _. 1) n i li.word pi in
        let b = count_out (but (λ ℓ. leads (rep_of ms) ℓ && in_set S ℓ) i) (λ _. 1) n j lj.word (and_from _ (not (eqb j i)) pj (ap not (ne_eqb j i e.arc.outside))) in
        omega (arith, a, b)
      where
        not_zero : (h : ℕ) → in_set S h ≡ true → 1 ≤ h
        not_zero zero t = absurd (both_ways (in_set S 0) ring.root t)
        not_zero (suc h) t = omega arith

    pub fewer_sets : (t : ℕ) → Union n (rep_of ms) (in_set S) t → count_if (leads (merged (in_set S) t (rep_of ms))) (λ _. 1) n + 1 ≤ count_if (leads (rep_of ms)) (λ _. 1) n
    fewer_sets t u =
        let a = merges.merged_count n (rep_of ms) (in_set S) t laid.sets u (λ _. 1) (λ _. 1) (λ ℓ l q. refl) in
        let b = count_split (leads (rep_of ms)) (in_set S) (λ _. 1) n in
        omega (arith, a, b, two_in)

    pub two_sets : 2 ≤ count_if (leads (rep_of ms)) (λ _. 1) n
    two_sets = omega (arith, count_split (leads (rep_of ms)) (in_set S) (λ _. 1) n, two_in)

module _ (p n : ℕ) (few : n ≤ 40) (stands : ℕ → ℕ → Bool) (worth : ℕ → ℕ → Worth) (sound : Sound n stands worth (zeros (suc p))) (base : ℕ → Group) where
  count_all : (k : ℕ) → count_if (leads (rep_of [])) (λ _. 1) k ≤ k
  count_all zero = omega arith
  count_all (suc k) = let e : leads (rep_of []) (suc k) ≡ true = eq-eqb (suc k) (suc k) refl in let le = count_all k in rw e (omega arith)

  pub valid_count : (ms : List Group) → Valid n stands worth (zeros (suc p)) base ms → length ms + count_if (leads (rep_of ms)) (λ _. 1) n ≤ n
  valid_count [] valid = omega (arith, count_all n)
  valid_count (m ∷ ms) valid = by (valid_count ms valid.0)
    where
      ring : Ring n base ms m.members
      ring = joined_ring n base ms (valid_laid n stands worth (zeros (suc p)) sound.whole base ms valid.0) stands worth (zeros (suc p)) m valid.1

      by : length ms + count_if (leads (rep_of ms)) (λ _. 1) n ≤ n → length (m ∷ ms) + count_if (leads (rep_of (m ∷ ms))) (λ _. 1) n ≤ n
      by le = omega (arith, le, fewer_sets p n few stands worth sound base ms valid.0 m.members ring m.to valid.1.union)

  -- where there is a ring, there is room for one more merge
  pub room : (ms : List Group) (valid : Valid n stands worth (zeros (suc p)) base ms) (S : ℕ) → Ring n base ms S → length ms + 2 ≤ n
  room ms valid S ring = omega (arith, valid_count ms valid, two_sets p n few stands worth sound base ms valid S ring)
