use Rattle.std.proofs.Common.{◌≡◌, ℕ, ◌+◌, ◌^◌, ◌<◌, Bool, [], length, get_or, sym, ap, ◌∙◌, subst, arith, rules}
use Rattle.std.proofs.lemmas.List.{get_or-map}
use Rattle.weight.specs.Worth.{Worth, plus, minus, Within}
use Rattle.tree.specs.Chains.{Word}
use Rattle.weight.proofs.Worths.{within_more, within_plus}
use Rattle.word_set.specs.Bits.{in_set}
use Rattle.weight.specs.Layers.{root_worth}
use Rattle.search.specs.Arcs.{potential}
use Rattle.search.specs.Family.{Group, best_of}
use Rattle.search.specs.State.{base_in, sets_in}
use Rattle.search.proofs.Records.{entry_value}
use Rattle.search.proofs.Raised.{RaisedTo, raised_yes, raised_no}
use Rattle.search.proofs.family.Family.raise.Goals.{then-holds, else-holds}
use Rattle.search.proofs.family.Family.raise.Goals as goal

pub offset_bounds-potentials-word-then-holds : goal.offset_bounds-potentials-word-then-holds
offset_bounds-potentials-word-then-holds g c =
    let l : c.loop-word.word < length c.loop-word.potentials = omega arith in
    search (rules, l, c.loop-word.auto.potentials)

pub loop-word-preserved : goal.loop-word-preserved
loop-word-preserved g c =
    let f = g.K.Kind.worth in
    let base = base_in f c.args.self.now in
    let ms = sets_in f c.args.self.now in
    let w : ℕ = c.loop-word.word in
    let n : ℕ = c.args.self.now.words in
    let S : ℕ → Bool = in_set c.args.members in
    let old : ℕ → Worth = potential f c.args.potentials.now in
    let r : ℕ → Worth = λ d. minus (plus (potential f c.args.potentials.now d) (root_worth f c.args.all)) (best_of base ms d) in
    elim c.if-holds.branch [
      | then-holds y ↦
          let l : w < length c.loop-word.potentials = omega arith in
          let here = get_or c.loop-word.potentials w y.index-potentials-word.result in
          let a : root_worth f here ≡ potential f c.args.potentials.now w = sym (get_or-map (root_worth f) c.loop-word.potentials w y.index-potentials-word.result [] l) ∙ c.loop-word.invariant.1 w (omega arith) in
          let e : root_worth f y.top-node.result.arc.value ≡ best_of base ms w = ap (λ (x : Group). x.value) y.top-node.ensures ∙ entry_value base ms w in
          let v : Word n w = omega arith in
          let at : Worth = potential f c.args.potentials.now w in
          let all : Worth = root_worth f c.args.all in
          let at_small : Within (2 ^ 30) at = c.requires.added w v in
          let all_small : Within (2 ^ 32) all = c.requires.total in
          let s : root_worth f y.sum-sum.result ≡ plus at all = y.sum-sum.ensures.exact (subst (Within (2 ^ 40)) (sym a) (within_more (2 ^ 30) (2 ^ 40) at (omega arith) at_small)) (within_more (2 ^ 32) (2 ^ 40) all (omega arith) all_small) ∙ ap (λ (x : Worth). plus x all) a in
          let sum_small : Within (2 ^ 40) (root_worth f y.sum-sum.result) = subst (Within (2 ^ 40)) (sym s) (within_more (2 ^ 30 + 2 ^ 32) (2 ^ 40) (plus at all) (omega arith) (within_plus (2 ^ 30) (2 ^ 32) at all at_small all_small)) in
          let value_small : Within (2 ^ 40) (root_worth f y.top-node.result.arc.value) = subst (Within (2 ^ 40)) (sym e) (within_more (2 ^ 26) (2 ^ 40) (best_of base ms w) (omega arith) (c.requires.values w v)) in
          let q : root_worth f y.difference.result ≡ r w = y.difference.ensures.exact sum_small value_small ∙ (ap (λ (x : Worth). minus x (root_worth f y.top-node.result.arc.value)) s ∙ ap (minus (plus at all)) e) in
          subst (λ xs. RaisedTo (root_worth f) n S r old xs (w + 1)) (sym y.potentials-is) (raised_yes (root_worth f) n S r old c.loop-word.potentials w y.difference.result l (sym y.if-holds.ensures) q c.loop-word.invariant)
      | else-holds y ↦
          subst (λ xs. RaisedTo (root_worth f) n S r old xs (w + 1)) (sym y.potentials-is) (raised_no (root_worth f) n S r old c.loop-word.potentials w (sym y.if-holds.ensures) c.loop-word.invariant)
    ]

pub returns : goal.returns
returns g c = λ d v. c.loop-word.invariant.0 d v (omega (arith, c.loop-word-test.false, v.1))
