use Rattle.std.proofs.Common.{◌≡◌, ℕ, zero, suc, ◌+◌, ◌<◌, ◌≤◌, Bool, true, false, ◌||◌, eqb, ◌⊎◌, ⊎_elim, List, sym, refl, ap, ◌∙◌, subst, inl, inr, arith}
use Rattle.std.proofs.lemmas.Bool.{cases_eq, both_ways, or_left, or_right, or_cases, eq-eqb, ne_eqb, eqb-true}
use Rattle.tree.specs.Chains.{Word, up}
use Rattle.arborescence.specs.Search.{Leader}
use Rattle.arborescence.proofs.Merged as merges
use Rattle.tree.proofs.Chains.{up_plus}
use Rattle.word_set.specs.Bits.{in_set}
use Rattle.weight.specs.Worth.{Worth}
use Rattle.search.specs.Family.{Group, entry, rep_of, from_of, best_of, next_of, Joined}
use Rattle.search.specs.Ring.{Laid, Periodic, Going, Ring}
use Rattle.search.proofs.Counts.{missing, missing_less}
use Rattle.search.proofs.Records.{entry_from, entry_value, up_last}

-- what a chain has come to leads on round
pub back : (h : ℕ → ℕ) (w : ℕ) → Periodic h w → (a : ℕ) → (c : ℕ) × (up h c (up h a w) ≡ w)
back h w p zero = (0, refl)
back h w p (suc a) = by (back h w p a)
  where
    by : (c : ℕ) × (up h c (up h a w) ≡ w) → (c : ℕ) × (up h c (up h (suc a) w) ≡ w)
    by (zero, e) = (p.0, ap (up h p.0) (up_last h a w ∙ ap h e) ∙ p.1)
    by (suc c, e) = (c, ap (up h c) (up_last h a w) ∙ e)

stays : (h : ℕ → ℕ) → h 0 ≡ 0 → (k : ℕ) → up h k 0 ≡ 0
stays h z zero = refl
stays h z (suc k) = ap (up h k) z ∙ stays h z k

module _ (n : ℕ) (base : ℕ → Group) (ms : List Group) (laid : Laid n base ms) where
  pub from_same : (w : ℕ) → w ≤ n → from_of base ms (rep_of ms w) ≡ from_of base ms w
  from_same w le = sym (entry_from base ms (rep_of ms w)) ∙ (ap (λ (x : Group). x.from) (laid.same w le) ∙ entry_from base ms w)

  pub best_same_set : (w : ℕ) → w ≤ n → best_of base ms (rep_of ms w) ≡ best_of base ms w
  best_same_set w le = sym (entry_value base ms (rep_of ms w)) ∙ (ap (λ (x : Group). x.value) (laid.same w le) ∙ entry_value base ms w)

  pub up_rep : (k w : ℕ) → w ≤ n → up (next_of base ms) k (rep_of ms w) ≡ rep_of ms (up (from_of base ms) k w)
  up_rep zero w le = refl
  up_rep (suc k) w le = ap (λ (x : ℕ). up (next_of base ms) k (rep_of ms x)) (from_same w le) ∙ up_rep k (from_of base ms w) (laid.in_line w le)

  twice : (v : ℕ) → v ≤ n → rep_of ms (rep_of ms v) ≡ rep_of ms v
  twice zero le = ap (rep_of ms) laid.sets.root
  twice (suc v) le = laid.sets.leader (suc v) (omega arith)

  pub going_start : (word S : ℕ) → Word n word → ((v : ℕ) → in_set S v ≡ false) → Going n base ms word word S
  going_start word S v no_word =
      record { here = v; came = (0, refl); begun = inl refl; in_line = λ x t. absurd (both_ways (in_set S x) (no_word x) t); root = no_word 0; closed = λ x le. no_word (rep_of ms x) ∙ sym (no_word x); met = λ ℓ l t. absurd (both_ways (in_set S ℓ) (no_word ℓ) t); within = λ ℓ l t. absurd (both_ways (in_set S ℓ) (no_word ℓ) t) }

  module _ (word at S more S' at' : ℕ) (around : Periodic (from_of base ms) word) (start : Word n word) (going : Going n base ms word at S)
      (is : (v : ℕ) → in_set S' v ≡ (in_set S v || in_set more v)) (members : more ≡ (entry base ms at).members) (step : at' ≡ from_of base ms at) where
    new : (v : ℕ) → v ≤ n → in_set more v ≡ eqb (rep_of ms v) (rep_of ms at)
    new v le = ap (λ (x : ℕ). in_set x v) members ∙ laid.members at v going.here le

    at_new : in_set more at ≡ true
    at_new = new at going.here.1 ∙ eq-eqb (rep_of ms at) (rep_of ms at) refl

    came' : (a : ℕ) × (up (from_of base ms) a word ≡ at')
    came' = let c = going.came in (suc c.0, up_last (from_of base ms) c.0 word ∙ (ap (from_of base ms) c.1 ∙ sym step))

    here' : Word n at'
    here' = (by (cases_eq at' 0), subst (λ (x : ℕ). x ≤ n) (sym step) (laid.in_line at going.here.1))
      where
        by : (at' ≡ 0) ⊎ (at' ≡ 0 → ⊥) → 1 ≤ at'
        by (inl e) =
            let b = back (from_of base ms) word around came'.0 in
            let z : word ≡ 0 = sym b.1 ∙ (ap (up (from_of base ms) b.0) (came'.1 ∙ e) ∙ stays (from_of base ms) laid.root b.0) in
            absurd (omega arith)
        by (inr e) = omega arith

    old_or : (v : ℕ) → v ≤ n → in_set S' v ≡ true → (in_set S v ≡ true) ⊎ (rep_of ms v ≡ rep_of ms at)
    old_or v le t = ⊎_elim inl (λ b. inr (eqb-true (rep_of ms v) (rep_of ms at) (sym (new v le) ∙ b))) (or_cases (in_set S v) (in_set more v) (sym (is v) ∙ t))

    pub going_more : Going n base ms word at' S'
    going_more =
        record {
          here = here';
          came = came';
          begun = inr begun;
          in_line = λ v t. in_line v (or_cases (in_set S v) (in_set more v) (sym (is v) ∙ t));
          root = is 0 ∙ (ap (λ (b : Bool). b || in_set more 0) going.root ∙ (new 0 (omega arith) ∙ ne_eqb (rep_of ms 0) (rep_of ms at) (λ e. let q : rep_of ms at ≡ 0 = sym e ∙ laid.sets.root in let w = laid.sets.word at going.here in omega arith)));
          closed = λ v le. closed v le (rep_le v le);
          met = λ ℓ l t. met ℓ l (old_or ℓ l.word.1 t);
          within = λ ℓ l t. inside ℓ l (old_or ℓ l.word.1 t);
        }
      where
        begun : in_set S' word ≡ true
        begun = by going.begun
          where
            by : (at ≡ word) ⊎ (in_set S word ≡ true) → in_set S' word ≡ true
            by (inl e) = subst (λ (x : ℕ). in_set S' x ≡ true) e (is at ∙ or_right (in_set S at) (in_set more at) at_new)
            by (inr t) = is word ∙ or_left (in_set S word) (in_set more word) t

        in_line : (v : ℕ) → (in_set S v ≡ true) ⊎ (in_set more v ≡ true) → v ≤ n
        in_line v (inl t) = going.in_line v t
        in_line v (inr t) = laid.sets_in_line at going.here v (subst (λ (x : ℕ). in_set x v ≡ true) members t)

        rep_le : (v : ℕ) → v ≤ n → rep_of ms v ≤ n
        rep_le zero le = subst (λ (x : ℕ). x ≤ n) (sym laid.sets.root) le
        rep_le (suc v) le = (laid.sets.word (suc v) (omega arith)).1

        closed : (v : ℕ) → v ≤ n → rep_of ms v ≤ n → in_set S' (rep_of ms v) ≡ in_set S' v
        closed v le rle =
            let a : in_set S (rep_of ms v) ≡ in_set S v = going.closed v le in
            let b : in_set more (rep_of ms v) ≡ in_set more v = new (rep_of ms v) rle ∙ (ap (λ (x : ℕ). eqb x (rep_of ms at)) (twice v le) ∙ sym (new v le)) in
            is (rep_of ms v) ∙ (ap (λ (x : Bool). x || in_set more (rep_of ms v)) a ∙ (ap (λ (x : Bool). in_set S v || x) b ∙ sym (is v)))

        met : (ℓ : ℕ) → Leader n (rep_of ms) ℓ → (in_set S ℓ ≡ true) ⊎ (rep_of ms ℓ ≡ rep_of ms at) → (a : ℕ) × (up (next_of base ms) a (rep_of ms word) ≡ ℓ)
        met ℓ l (inl s) = going.met ℓ l s
        met ℓ l (inr e) = let c = going.came in (c.0, up_rep c.0 word start.1 ∙ (ap (rep_of ms) c.1 ∙ (sym e ∙ l.own)))

        inside : (ℓ : ℕ) → Leader n (rep_of ms) ℓ → (in_set S ℓ ≡ true) ⊎ (rep_of ms ℓ ≡ rep_of ms at) → (in_set S' (from_of base ms ℓ) ≡ true) ⊎ (from_of base ms ℓ ≡ at')
        inside ℓ l (inl s) = by (going.within ℓ l s)
          where
            by : (in_set S (from_of base ms ℓ) ≡ true) ⊎ (from_of base ms ℓ ≡ at) → (in_set S' (from_of base ms ℓ) ≡ true) ⊎ (from_of base ms ℓ ≡ at')
            by (inl t) = inl (is (from_of base ms ℓ) ∙ or_left (in_set S (from_of base ms ℓ)) (in_set more (from_of base ms ℓ)) t)
            by (inr e) = inl (subst (λ (x : ℕ). in_set S' x ≡ true) (sym e) (is at ∙ or_right (in_set S at) (in_set more at) at_new))
        inside ℓ l (inr e) = inr (ap (from_of base ms) (sym l.own ∙ e) ∙ (from_same at going.here.1 ∙ sym step))

    pub going_less : in_set S at ≡ false → missing n S' < missing n S
    going_less no-at = missing_less n S more S' at going.here is no-at at_new

  pub ring_done : (word at S : ℕ) → Periodic (from_of base ms) word → Word n word → Going n base ms word at S → in_set S at ≡ true → Ring n base ms S
  ring_done word at S around start going t =
      record {
        root = going.root;
        in_line = going.in_line;
        closed = going.closed;
        some = (at, going.here, t);
        within = λ ℓ l s. by ℓ (going.within ℓ l s);
        round = λ i j li ti lj tj.
            let a = going.met i li ti in
            let b = going.met j lj tj in
            let p : Periodic (next_of base ms) (rep_of ms word) = (around.0, up_rep (suc around.0) word start.1 ∙ ap (rep_of ms) around.1) in
            let c = back (next_of base ms) (rep_of ms word) p a.0 in
            (c.0 + b.0, up_plus (next_of base ms) c.0 b.0 i ∙ (ap (λ (x : ℕ). up (next_of base ms) b.0 (up (next_of base ms) c.0 x)) (sym a.1) ∙ (ap (up (next_of base ms) b.0) c.1 ∙ b.1)));
      }
    where
      by : (ℓ : ℕ) → (in_set S (from_of base ms ℓ) ≡ true) ⊎ (from_of base ms ℓ ≡ at) → in_set S (from_of base ms ℓ) ≡ true
      by ℓ (inl x) = x
      by ℓ (inr e) = subst (λ (x : ℕ). in_set S x ≡ true) (sym e) t

  -- the word that the walk began at is on the ring
  pub ring_here : (word at S : ℕ) → Going n base ms word at S → in_set S at ≡ true → in_set S word ≡ true
  ring_here word at S going t = by going.begun
    where
      by : (at ≡ word) ⊎ (in_set S word ≡ true) → in_set S word ≡ true
      by (inl e) = subst (λ (x : ℕ). in_set S x ≡ true) e t
      by (inr u) = u

  -- a merged set is a ring
  pub joined_ring : (stands : ℕ → ℕ → Bool) (worth : ℕ → ℕ → Worth) (z : Worth) (m : Group) → Joined n stands worth z base m ms → Ring n base ms m.members
  joined_ring stands worth z m j =
      record { root = j.union.root; in_line = j.in_line; closed = λ v le. merges.closed n (rep_of ms) (in_set m.members) m.to laid.sets j.union v le; some = (m.to, j.union.word, j.union.inside); within = j.within; round = j.round }
