use Rattle.std.proofs.Common.{◌≡◌, ℕ, suc, ◌+◌, ◌*◌, ◌^◌, ◌≤◌, true, sym, refl, ap, ◌∙◌, subst, arith}
use Rattle.std.proofs.lemmas.List.{length-take-le}
use Rattle.weight.specs.Worth.{Worth, zeros, plus, Within}
use Rattle.weight.specs.Layers.{root_worth}
use Rattle.weight.proofs.Worths.{within_more}
use Rattle.tree.specs.Chains.{Word, head_of}
use Rattle.arborescence.specs.Search.{worth_of_heads}
use Rattle.search.specs.Arcs.{arc_in}
use Rattle.search.proofs.Finds.{head_next}
use Rattle.search.proofs.Raised.{sum_next, sum_small}
use Rattle.search.proofs.graph.Graph.tree_weight.Goals as goal

pub arc-next-requires-clause-from : goal.arc-next-requires-clause-from
arc-next-requires-clause-from g c =
    let n : ℕ = c.args.self.now.words in
    let long = length-take-le n c.args.heads.now c.requires.room in
    let v : Word n (c.loop-i.i + 1) = omega (arith, c.loop-i-test.true) in
    rw c.from.ensures (subst (λ (h : ℕ). h ≤ n) (head_next n c.args.heads.now c.loop-i.i v.1) (c.requires.in_line (c.loop-i.i + 1) v))

pub loop-i-preserved : goal.loop-i-preserved
loop-i-preserved g c =
    let f = g.K.Kind.worth in
    let i : ℕ = c.loop-i.i in
    let n : ℕ = c.args.self.now.words in
    let z : Worth = zeros (suc g.K.Kind.places) in
    let long = length-take-le n c.args.heads.now c.requires.room in
    let v : Word n (i + 1) = omega (arith, c.loop-i-test.true) in
    let worth : ℕ → ℕ → Worth = arc_in f c.args.self.now in
    let term : ℕ → Worth = λ d. worth (head_of c.args.heads.now d) d in
    let at : root_worth f c.arc-next.result ≡ term (i + 1) = (rw c.from.ensures at c.arc-next.ensures) ∙ ap (λ (h : ℕ). worth h (i + 1)) (sym (head_next n c.args.heads.now i v.1)) in
    let le : (2 ^ 20) * i ≤ 2 ^ 40 = omega (arith, v.1, c.args.self.now.few) in
    let so_far : Within (2 ^ 40) (root_worth f c.loop-i.sum) = subst (Within (2 ^ 40)) (sym c.loop-i.invariant) (sum_small (2 ^ 20) (suc g.K.Kind.places) (λ _. true) term i (2 ^ 40) (λ d u. c.requires.small d (u.0, omega arith)) le) in
    let next : Within (2 ^ 40) (root_worth f c.arc-next.result) = subst (Within (2 ^ 40)) (sym at) (within_more (2 ^ 20) (2 ^ 40) (term (i + 1)) (omega arith) (c.requires.small (i + 1) v)) in
    c.sum-sum.ensures.exact so_far next ∙ (ap (λ (x : Worth). plus x (root_worth f c.arc-next.result)) c.loop-i.invariant ∙ (ap (plus (plus z (worth_of_heads worth (head_of c.args.heads.now) i))) at ∙ sum_next z (λ _. true) term i refl))

pub returns : goal.returns
returns g c =
    let f = g.K.Kind.worth in
    let long = length-take-le c.args.self.now.words c.args.heads.now c.requires.room in
    let e : c.loop-i.i ≡ c.args.self.now.words = omega (arith, c.loop-i-test.false, c.loop-i.auto.i-end) in
    c.loop-i.invariant ∙ ap (λ (k : ℕ). plus (zeros (suc g.K.Kind.places)) (worth_of_heads (arc_in f c.args.self.now) (head_of c.args.heads.now) k)) e
