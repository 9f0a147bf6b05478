use Rattle.std.proofs.Common.{◌≡◌, ℕ, suc, Bool, List, length, get_or, take, drop, pos, negsuc, sym, refl, ap, ◌∙◌, arith}
use Rattle.std.proofs.lemmas.List.{length-take-le}
use Rattle.std.proofs.lemmas.Int.{ints}
use Rattle.weight.specs.Worth.{Worth}
use Rattle.weight.specs.Layers.{root_worth}
use Rattle.tree.specs.Chains.{head_of}
use Rattle.arborescence.specs.Search.{worth_of_heads}
use Rattle.search.specs.Arcs.{allowed, weight_at, layered_worth}
use Rattle.search.proofs.Finds.{arc_length, sound, total_is, no_tree, several, the_heaviest, front_head, new_front}
use Rattle.search.proofs.Found.{found_by}
use Rattle.search.proofs.best_tree.Goals as goal

suc_same : {a b : ℕ} → suc a ≡ suc b → a ≡ b
suc_same {a} {b} e = omega (arith, e)

pub heaviest-requires-clause-sound : goal.heaviest-requires-clause-sound
heaviest-requires-clause-sound g c =
    let W = g.K.Kind in
    sound W.worth W.places W.sized c.args.words c.args.weights.now c.in_ok-check.ensures.1.weights_in W.ranges W.ranged.1 (allowed c.args.sets.now c.args.held.now) c.if-not-all_entries.ensures

pub returns-in_default-clause-told : goal.returns-in_default-clause-told
returns-in_default-clause-told g c =
    let k = c.in_ok-check.ensures in
    (k.0, k.1, k.2, refl, λ _. no_tree c.args.words (allowed c.args.sets.now c.args.held.now) c.in_default.ensures)

pub tree_weight-total-requires : goal.tree_weight-total-requires
tree_weight-total-requires g c =
    let W = g.K.Kind in
    let k = c.in_ok-check.ensures in
    let tree = c.in-Some.ensures.0.0 in
    let s = sound W.worth W.places W.sized c.args.words c.args.weights.now k.1.weights_in W.ranges W.ranged.1 (allowed c.args.sets.now c.args.held.now) c.if-not-all_entries.ensures in
    record {
      room = omega (arith, k.0.1);
      in_line = tree.in_line;
      small = λ w v. s.small (head_of c.in-Some.found w) w v (tree.in_line w v) (tree.standing w v);
    }

pub returns-then-place-clause-told : goal.returns-then-place-clause-told
returns-then-place-clause-told g c =
    let W = g.K.Kind in
    let n : ℕ = c.args.words in
    let k = c.in_ok-check.ensures in
    let stands : ℕ → ℕ → Bool = allowed c.args.sets.now c.args.held.now in
    let worth : ℕ → ℕ → Worth = weight_at W.worth n c.args.weights.now in
    let head : ℕ → ℕ = head_of c.in-Some.found in
    let best = c.in-Some.ensures.0 in
    let whole = total_is (layered_worth W.worth n c.args.weights.now) head (suc W.places) n k.0.0 (λ w v. arc_length W.worth W.places W.sized n c.args.weights.now k.1.weights_in (head w) w v (best.0.in_line w v)) in
    let total : root_worth W.worth c.tree_weight-total.result ≡ worth_of_heads (layered_worth W.worth n c.args.weights.now) head n = c.tree_weight-total.ensures ∙ whole in (
      k.0,
      k.1,
      k.2,
      refl,
      λ _. several n k.0.0 stands worth head best
          (λ e. let z : c.place.result ≡ negsuc 0 = c.place.ensures ∙ (ap (λ (x : Worth). get_or x 0 (pos 0)) total ∙ e) in c.if-place.true (omega (arith, ints))),
    )

pub returns-clause-told : goal.returns-clause-told
returns-clause-told g c =
    let W = g.K.Kind in
    let n : ℕ = c.args.words in
    let k = c.in_ok-check.ensures in
    let stands : ℕ → ℕ → Bool = allowed c.args.sets.now c.args.held.now in
    let worth : ℕ → ℕ → Worth = weight_at W.worth n c.args.weights.now in
    let head : ℕ → ℕ = head_of c.in-Some.found in
    let best = c.in-Some.ensures.0 in
    let whole = total_is (layered_worth W.worth n c.args.weights.now) head (suc W.places) n k.0.0 (λ w v. arc_length W.worth W.places W.sized n c.args.weights.now k.1.weights_in (head w) w v (best.0.in_line w v)) in
    let total : root_worth W.worth c.tree_weight-total.result ≡ worth_of_heads (layered_worth W.worth n c.args.weights.now) head n = c.tree_weight-total.ensures ∙ whole in
    let here : c.place.result ≡ negsuc 0 = omega (arith, ints, c.if-place.false) in
    let front = sym (ap (λ (x : Worth). get_or x 0 (pos 0)) total) ∙ (sym c.place.ensures ∙ here) in
    let new = c.copy_from_slice.new.self in
    let e : new ≡ take n c.in-Some.found = c.copy_from_slice.ensures.after in
    let long : length new ≡ n = ap length e ∙ length-take-le n c.in-Some.found (omega (arith, k.0.1)) in
    let parts = new_front n new (drop n c.args.heads.now) long in (
      k.0,
      k.1,
      k.2,
      parts.1,
      λ _. rw parts.0 (the_heaviest n k.0.0 stands worth head best W.worth c.weight.result new long (λ w v. ap (λ (xs : List ℕ). head_of xs w) e ∙ front_head n c.in-Some.found w v) front (c.weight.ensures ∙ ap (drop 1) total)),
    )

pub returns-clause-settled : goal.returns-clause-settled
returns-clause-settled g c =
    let W = g.K.Kind in
    let n : ℕ = c.args.words in
    let k = c.in_ok-check.ensures in
    let new = c.copy_from_slice.new.self in
    let e : new ≡ take n c.in-Some.found = c.copy_from_slice.ensures.after in
    let long : length new ≡ n = ap length e ∙ length-take-le n c.in-Some.found (omega (arith, k.0.1)) in
    let parts = new_front n new (drop n c.args.heads.now) long in
    λ _. found_by W.places n (allowed c.args.sets.now c.args.held.now) (weight_at W.worth n c.args.weights.now) (head_of c.in-Some.found) _ (λ w v. ap (λ (xs : List ℕ). head_of xs w) (parts.0 ∙ e) ∙ front_head n c.in-Some.found w v) (λ h d v le. suc_same (arc_length W.worth W.places W.sized n c.args.weights.now k.1.weights_in h d v le)) c.in-Some.ensures.1
