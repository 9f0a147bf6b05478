use Rattle.std.proofs.Common.{◌≡◌, ℕ, zero, suc, ◌+◌, ◌<◌, Bool, true, cond, ◌&&◌, List, [], ◌∷◌, map, length, get_or, Some, sym, refl, ap, ◌∙◌, subst, arith}
use Rattle.std.proofs.lemmas.Bool.{false_from_ne_true, both_ways}
use Rattle.weight.specs.Worth.{Worth, zeros, plus, minus, AtMost}
use Rattle.tree.specs.Chains.{Word}
use Rattle.arborescence.specs.Sum.{sum_if}
use Rattle.arborescence.specs.Search.{Tree, leads, Into, Union, merged, raised}
use Rattle.weight.proofs.Worths.{plus_assoc}
use Rattle.arborescence.proofs.Merged as merges
use Rattle.arborescence.proofs.Above as above
use Rattle.search.specs.declared.arcs.Entering.{Entering}
use Rattle.word_set.specs.Bits.{in_set}
use Rattle.weight.specs.Layers.{root_worth}
use Rattle.search.specs.Arcs.{Best, SetArc, with_potential}
use Rattle.search.specs.Family.{Group, rep_of, from_of, best_of, add_of, OnFirstWay, Joined, Valid}
use Rattle.search.specs.Ring.{Laid, Ring}
use Rattle.search.proofs.Rings.{best_same_set}

-- ---- lengths
pub at_length : {X : Type 0} (f : X → Worth) (p : ℕ) → ((x : X) → length (f x) ≡ p) → (xs : List X) (i : ℕ) → i < length xs → length (get_or (map f xs) i []) ≡ p
at_length f p sized [] i l = absurd (omega arith)
at_length f p sized (x ∷ xs) zero l = sized x
at_length f p sized (x ∷ xs) (suc i) l = at_length f p sized xs i (omega arith)

module _ {K : Type 0} (f : K → Worth) (p n : ℕ) (stands : ℕ → ℕ → Bool) (worth : ℕ → ℕ → Worth) where
  -- ---- a merge: the arcs into the set, as the scan and as the search has them
  module _ (base : ℕ → Group) (ms : List Group) (laid : Laid n base ms) (S : ℕ) (ring : Ring n base ms S) (s : ℕ) (s-word : Word n s) (s-in : in_set S s ≡ true) where
    union : Union n (rep_of ms) (in_set S) s
    union = record { root = ring.root; closed = λ w v. ring.closed w v.1; word = s-word; inside = s-in }

    pub to_scan : (h d : ℕ) → Into n stands (merged (in_set S) s (rep_of ms)) s h d → SetArc n (n + 1) stands S h d
    to_scan h d i =
        record {
          word = i.word;
          before = omega (arith, i.word.1);
          in_line = i.in_line;
          standing = i.standing;
          within = merges.same_side n (rep_of ms) (in_set S) s laid.sets union d s i.word.1 i.inside ∙ s-in;
          outside = false_from_ne_true (in_set S h) (λ t. i.outside (merges.in_S n (rep_of ms) (in_set S) s laid.sets union h t));
        }

    pub from_scan : (h d : ℕ) → SetArc n (n + 1) stands S h d → Into n stands (merged (in_set S) s (rep_of ms)) s h d
    from_scan h d a =
        record { word = a.word; in_line = a.in_line; standing = a.standing; inside = merges.in_S n (rep_of ms) (in_set S) s laid.sets union d a.within; outside = λ e. both_ways (in_set S s) (sym (merges.same_side n (rep_of ms) (in_set S) s laid.sets union h s a.in_line e) ∙ a.outside) s-in }

    -- nothing enters the set: there is no tree
    pub merge_none : ((h d : ℕ) → SetArc n (n + 1) stands S h d → ⊥) → (head : ℕ → ℕ) → Tree n stands head → ⊥
    merge_none no_arc =
        above.none n stands (merged (in_set S) s (rep_of ms)) s (merges.merged_sets n (rep_of ms) (in_set S) s laid.sets union) (record { word = s-word; own = merges.at_s n (rep_of ms) (in_set S) s laid.sets union })
        (λ h d i. no_arc h d (to_scan h d i))

  -- ---- what each word adds, after the merge
  module _ (base : ℕ → Group) (ms : List Group) (laid : Laid n base ms) (old new : ℕ → Worth) (S : ℕ) (all : Worth)
      (full : (d : ℕ) → Word n d → plus (old d) (zeros (suc p)) ≡ old d)
      (all-is : all ≡ plus (zeros (suc p)) (sum_if (λ ℓ. leads (rep_of ms) ℓ && in_set S ℓ) (best_of base ms) n))
      (NewIs : (d : ℕ) → Word n d → new d ≡ cond (in_set S d) (minus (plus (old d) all) (best_of base ms d)) (old d))
      (agree : (d : ℕ) → Word n d → old d ≡ add_of n (zeros (suc p)) base ms d) where
    pub agree_after : (m : Group) → m.members ≡ S → (d : ℕ) → Word n d → new d ≡ add_of n (zeros (suc p)) base (m ∷ ms) d
    agree_after m e d v =
        let z : Worth = zeros (suc p) in
        let sum : Worth = sum_if (λ ℓ. leads (rep_of ms) ℓ && in_set S ℓ) (best_of base ms) n in
        let a : plus (old d) all ≡ plus (add_of n z base ms d) sum = ap (plus (old d)) all-is ∙ (sym (plus_assoc (old d) z sum) ∙ (ap (λ (x : Worth). plus x sum) (full d v) ∙ ap (λ (x : Worth). plus x sum) (agree d v))) in
        let b : best_of base ms d ≡ best_of base ms (rep_of ms d) = sym (best_same_set n base ms laid d v.1) in
        let c : new d ≡ raised (in_set S) n (rep_of ms) (add_of n z base ms) (best_of base ms) d =
        NewIs d v ∙ (ap (λ (x : Worth). cond (in_set S d) (minus x (best_of base ms d)) (old d)) a ∙ (ap (λ (x : Worth). cond (in_set S d) (minus (plus (add_of n z base ms d) sum) x) (old d)) b ∙ ap (λ (x : Worth). cond (in_set S d) (minus (plus (add_of n z base ms d) sum) (best_of base ms (rep_of ms d))) x) (agree d v))) in
        c ∙ ap (λ (t : ℕ). raised (in_set t) n (rep_of ms) (add_of n z base ms) (best_of base ms) d) (sym e)

    pub valid_after : Valid n stands worth (zeros (suc p)) base ms → Ring n base ms S → (w : ℕ) × (in_set S w ≡ true) × OnFirstWay n (from_of base ms) w → (e : Entering K) →
        Best f (SetArc n (n + 1) stands S) (with_potential worth new) (Some e) → (m : Group) → m ≡ record { members = S; from = e.from; to = e.to; value = root_worth f e.value } →
        Valid n stands worth (zeros (suc p)) base (m ∷ ms)
    valid_after valid ring chosen e best m is = subst (λ (g : Group). Valid n stands worth (zeros (suc p)) base (g ∷ ms)) (sym is) (valid, joined)
      where
        a : SetArc n (n + 1) stands S e.from e.to
        a = best.0

        adds : (d : ℕ) → Word n d → new d ≡ add_of n (zeros (suc p)) base (record { members = S; from = e.from; to = e.to; value = root_worth f e.value } ∷ ms) d
        adds d v = agree_after (record { members = S; from = e.from; to = e.to; value = root_worth f e.value }) refl d v

        joined : Joined n stands worth (zeros (suc p)) base (record { members = S; from = e.from; to = e.to; value = root_worth f e.value }) ms
        joined =
            record {
              union = record { root = ring.root; closed = λ w v. ring.closed w v.1; word = a.word; inside = a.within };
              within = ring.within;
              round = ring.round;
              arc = from_scan base ms laid S ring e.to a.word a.within e.from e.to a;
              valued = best.1 ∙ ap (plus (worth e.from e.to)) (adds e.to a.word);
              covers = λ h d i. subst (λ (x : Worth). AtMost (plus (worth h d) x) (root_worth f e.value)) (adds d i.word) (best.2 h d (to_scan base ms laid S ring e.to a.word a.within h d i));
              first = λ h d i v. best.3 h d (to_scan base ms laid S ring e.to a.word a.within h d i) (subst (λ (x : Worth). AtMost (root_worth f e.value) (plus (worth h d) x)) (sym (adds d i.word)) v);
              in_line = ring.in_line;
              chosen = chosen;
            }
