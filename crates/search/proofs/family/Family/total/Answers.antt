use Rattle.std.proofs.Common.{◌≡◌, ℕ, suc, ◌+◌, ◌-◌, ◌*◌, ◌^◌, ◌≤◌, Bool, true, false, ◌&&◌, sym, ap, ◌∙◌, subst, arith}
use Rattle.std.proofs.Math.Bool.{and-false}
use Rattle.std.proofs.lemmas.Bool.{eq-eqb, ne_eqb, and_from}
use Rattle.weight.specs.Worth.{Worth, zeros, plus, Within}
use Rattle.arborescence.specs.Sum.{sum_if}
use Rattle.arborescence.specs.Search.{leads}
use Rattle.weight.proofs.Worths.{within_more}
use Rattle.word_set.specs.Bits.{in_set}
use Rattle.weight.specs.Layers.{root_worth}
use Rattle.search.specs.Family.{Group, entry, rep_of, best_of}
use Rattle.search.specs.State.{base_in, sets_in}
use Rattle.search.proofs.Records.{entry_value}
use Rattle.search.proofs.Raised.{sum_yes, sum_no, sum_small}
use Rattle.search.proofs.family.Family.total.Goals.{then-holds+then-node-word, then-holds+else-node-word, else-holds}
use Rattle.search.proofs.family.Family.total.Goals as goal

pub loop-word-init : goal.loop-word-init
loop-word-init g c = c.nothing-sum.ensures

pub loop-word-preserved : goal.loop-word-preserved
loop-word-preserved g c =
    let f = g.K.Kind.worth in
    let base = base_in f c.args.self.now in
    let ms = sets_in f c.args.self.now in
    let w : ℕ = c.loop-word.word in
    let z : Worth = zeros (suc g.K.Kind.places) in
    let p : ℕ → Bool = λ ℓ. leads (rep_of ms) ℓ && in_set c.args.members ℓ in
    let own : (t : ℕ) → t ≡ (entry base ms w).to → t ≡ rep_of ms w = λ t is. is ∙ c.requires.laid.own w (omega arith) in
    elim c.if-holds.branch [
      | then-holds+then-node-word y ↦
          let e : root_worth f y.top-node.result.arc.value ≡ best_of base ms w = ap (λ (x : Group). x.value) y.top-node.ensures ∙ entry_value base ms w in
          let l : leads (rep_of ms) w ≡ true = eq-eqb (rep_of ms w) w (sym (own y.top-node.result.arc.to (ap (λ (x : Group). x.to) y.top-node.ensures)) ∙ y.if-node-word.true) in
          let le : (2 ^ 26) * (w - 1) ≤ 2 ^ 40 = omega arith in
          let so_far : Within (2 ^ 40) (root_worth f c.loop-word.sum) = subst (Within (2 ^ 40)) (sym c.loop-word.invariant) (sum_small (2 ^ 26) (suc g.K.Kind.places) p (best_of base ms) (w - 1) (2 ^ 40) (λ v u. c.requires.small v (u.0, omega arith)) le) in
          let next : Within (2 ^ 40) (root_worth f y.top-node.result.arc.value) = subst (Within (2 ^ 40)) (sym e) (within_more (2 ^ 26) (2 ^ 40) (best_of base ms w) (omega arith) (c.requires.small w (c.loop-word.auto.word, omega arith))) in
          ap (root_worth f) y.sum-is ∙ (y.sum-sum.ensures.exact so_far next ∙ (ap (λ (x : Worth). plus x (root_worth f y.top-node.result.arc.value)) c.loop-word.invariant ∙ (ap (plus (plus z (sum_if p (best_of base ms) (w - 1)))) e ∙ sum_yes z p (best_of base ms) w c.loop-word.auto.word (and_from (leads (rep_of ms) w) (in_set c.args.members w) l (sym y.if-holds.ensures)))))
      | then-holds+else-node-word y ↦
          let no : p w ≡ false = ap (λ (b : Bool). b && in_set c.args.members w) (ne_eqb (rep_of ms w) w (λ q. y.if-node-word.false (own y.top-node.result.arc.to (ap (λ (x : Group). x.to) y.top-node.ensures) ∙ q))) in
          ap (root_worth f) y.sum-is ∙ (c.loop-word.invariant ∙ sum_no z p (best_of base ms) w c.loop-word.auto.word no)
      | else-holds y ↦
          let no : p w ≡ false = ap (λ (b : Bool). leads (rep_of ms) w && b) (sym y.if-holds.ensures) ∙ and-false (leads (rep_of ms) w) in
          ap (root_worth f) y.sum-is ∙ (c.loop-word.invariant ∙ sum_no z p (best_of base ms) w c.loop-word.auto.word no)
    ]

pub returns : goal.returns
returns g c =
    let f = g.K.Kind.worth in
    let base = base_in f c.args.self.now in
    let ms = sets_in f c.args.self.now in
    let u : c.loop-word.word ≤ c.args.self.now.words + 1 = c.loop-word.auto.word-end (omega arith) in
    let e : c.loop-word.word - 1 ≡ c.args.self.now.words = omega (arith, c.loop-word-test.false) in
    c.loop-word.invariant ∙ ap (λ (k : ℕ). plus (zeros (suc g.K.Kind.places)) (sum_if (λ ℓ. leads (rep_of ms) ℓ && in_set c.args.members ℓ) (best_of base ms) k)) e
