use Rattle.std.proofs.Common.{◌≡◌, ℕ, ◌<◌, get_or, length, sym, ap, ◌∙◌, inl, inr, arith}
use Rattle.std.proofs.lemmas.Bool.{cases_eq}
use Rattle.std.proofs.lemmas.List.{get_or-map}
use Rattle.tree.specs.Chains.{head_of}
use Rattle.search.specs.Family.{Group}
use Rattle.search.specs.State.{view, blank, group_at}
use Rattle.search.proofs.opening.first_heads.Goals as goal

pub set_head-requires : goal.set_head-requires
set_head-requires g c =
    let f = g.K.Kind.worth in
    let w : ℕ = c.loop-word.word in
    let l : w < length c.args.nodes.now = omega (arith, c.loop-word-test.true, c.requires.nodes) in
    let e : (get_or c.args.nodes.now w c.index-nodes-word.result).arc.from ≡ (group_at f c.args.nodes.now w).from = ap (λ (x : Group). x.from) (sym (get_or-map (view f) c.args.nodes.now w c.index-nodes-word.result blank l)) in
    let le = c.requires.in_line w (c.loop-word.auto.word, omega (arith, c.loop-word-test.true)) in
    record { word = (c.loop-word.auto.word, omega (arith, c.loop-word-test.true, c.loop-word.auto.heads, c.requires.room)); from = omega (arith, e, le, c.requires.few) }

pub loop-word-preserved : goal.loop-word-preserved
loop-word-preserved g c v one lt =
    let f = g.K.Kind.worth in
    let w : ℕ = c.loop-word.word in
    let l : w < length c.args.nodes.now = omega (arith, c.loop-word-test.true, c.requires.nodes) in
    let e : (get_or c.args.nodes.now w c.index-nodes-word.result).arc.from ≡ (group_at f c.args.nodes.now w).from = ap (λ (x : Group). x.from) (sym (get_or-map (view f) c.args.nodes.now w c.index-nodes-word.result blank l)) in
    elim (cases_eq v w) [
      | inl q ↦ ap (head_of c.set_head.new.heads) q ∙ (c.set_head.ensures.here ∙ (e ∙ ap (λ (x : ℕ). (group_at f c.args.nodes.now x).from) (sym q)))
      | inr q ↦ c.set_head.ensures.there v q ∙ c.loop-word.invariant v one (omega arith)
    ]
