-- The trees of the kept arcs.
use Rattle.std.proofs.Common.{◌≡◌, ℕ, zero, suc, ◌<◌, Bool, true, false, cond, not, ◌&&◌, eqb, ltb, sym, refl, ◌∙◌, subst, arith}
use Rattle.std.proofs.lemmas.Bool.{and_parts, and_from}
use Rattle.std.proofs.lemmas.Bool.Decides.{nat_tests}
use Rattle.tree.specs.Chains.{Word, head_of}
use Rattle.cells.specs.Kept.{KeptTrees, SubSearched}

-- one arc: d is the dependent, h its head, g its head in `heads`, b whether h is banned at p
before_p : (d p h g : ℕ) (b : Bool) → d < p → cond (ltb d p) (eqb h g) (not (eqb d p && b)) ≡ true → h ≡ g
before_p d p h g b l e = grind (arith, nat_tests)

at_p : (p h g : ℕ) (b : Bool) → cond (ltb p p) (eqb h g) (not (eqb p p && b)) ≡ true → b ≡ false
at_p p h g b e = grind (arith, nat_tests)

kept_by_arc : (d p h g : ℕ) (b : Bool) → (d < p → h ≡ g) → (d ≡ p → b ≡ false) → cond (ltb d p) (eqb h g) (not (eqb d p && b)) ≡ true
kept_by_arc d p h g b one two = grind (arith, nat_tests)

pub kept_trees : KeptTrees
kept_trees n stands heads p banned t word = (
  λ k.
      let second : (w : ℕ) → Word n w → cond (ltb w p) (eqb (head_of t w) (head_of heads w)) (not (eqb w p && banned (head_of t w))) ≡ true = λ w v. (and_parts (stands (head_of t w) w) (cond (ltb w p) (eqb (head_of t w) (head_of heads w)) (not (eqb w p && banned (head_of t w)))) (k.standing w v)).1 in (
        record { shape = k.shape; standing = λ w v. (and_parts (stands (head_of t w) w) _ (k.standing w v)).0 },
        record { before = λ w l. before w l second; free = at_p p (head_of t p) (head_of heads p) (banned (head_of t p)) (second p word) },
      ),
  λ k c. record {
    shape = k.shape;
    standing = λ w v. and_from (stands (head_of t w) w) _ (k.standing w v) (kept_by_arc w p (head_of t w) (head_of heads w) (banned (head_of t w)) (c.before w) (λ e. subst (λ (x : ℕ). banned (head_of t x) ≡ false) (sym e) c.free));
  },
)
  where
    before : (w : ℕ) → w < p → ((w : ℕ) → Word n w → cond (ltb w p) (eqb (head_of t w) (head_of heads w)) (not (eqb w p && banned (head_of t w))) ≡ true) → head_of t w ≡ head_of heads w
    before zero l second = refl
    before (suc w) l second = before_p (suc w) p (head_of t (suc w)) (head_of heads (suc w)) (banned (head_of t (suc w))) l (second (suc w) (omega arith))

pub sub_searched : SubSearched
sub_searched n stands worth u p c word from bans tree exact best =
    let k = kept_trees n stands u.heads p c.banned in
    let a = (k c.heads word).0 tree in
    record {
      from = from;
      bans = bans;
      tree = a.0;
      inside = record { before = a.1.before; free = sym (bans (head_of c.heads p)) ∙ a.1.free };
      exact = exact;
      best = λ t is i. best t ((k t word).1 is (record { before = i.before; free = bans (head_of t p) ∙ i.free }));
    }
