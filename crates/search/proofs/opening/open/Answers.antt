use Rattle.std.proofs.Common.{◌≡◌, ◌<◌, [], List, map, reverse, sym, subst, arith, rules}
use Rattle.std.proofs.lemmas.List.{nil_from_length}
use Rattle.std.specs.Iterator.Adapters.{rev_source}
use Rattle.std.specs.Slice.Iter.{iter_rest}
use Rattle.tree.specs.Chains.{head_of}
use Rattle.word_set.proofs.Sets.{in_set_empty}
use Rattle.search.specs.Family.{Group}
use Rattle.search.specs.State.{view, base_in, sets_in}
use Rattle.search.proofs.Records.{newest}
use Rattle.search.proofs.Heads.{Left, left_start, left_done, left_own, left_end, left_heads}
use Rattle.search.proofs.opening.open.Goals as goal

pub loop-node-init : goal.loop-node-init
loop-node-init g c =
    let f = g.K.Kind.worth in
    let family = c.args.family.now in
    let e : iter_rest (rev_source c.into_iter-node-iterator.result) ≡ family.made.now = cc in
    subst (λ nodes. Left g.K.Kind.places family.words (base_in f family) (sets_in f family) (map (view f) (reverse nodes)) 0 (head_of c.first_heads.new.heads)) (sym e)
    (left_start g.K.Kind.places family.words (base_in f family) (sets_in f family) 0 (head_of c.first_heads.new.heads) c.requires.lined in_set_empty c.first_heads.ensures)

pub set_head-requires : goal.set_head-requires
set_head-requires g c =
    let f = g.K.Kind.worth in
    let family = c.args.family.now in
    let x = c.in-Some.node.now in
    let e = newest f (iter_rest (rev_source c.loop-node.node-iterator)) (iter_rest (rev_source c.next.new.self)) x c.in-Some.ensures.steps in
    let left = subst (λ (ms : List Group). Left g.K.Kind.places family.words (base_in f family) (sets_in f family) ms c.loop-node.done (head_of c.loop-node.heads)) e c.loop-node.invariant in
    let at = left.lined 0 (view f x) (omega arith) in
    record { word = (at.0.0, omega (arith, at.0.1, c.requires.room, c.loop-node.auto.heads, c.first_heads.auto.heads)); from = omega (arith, at.1, family.few) }

pub loop-node-preserved-then-both-eq0 : goal.loop-node-preserved-then-both-eq0
loop-node-preserved-then-both-eq0 g c =
    let f = g.K.Kind.worth in
    let family = c.args.family.now in
    let x = c.in-Some.node.now in
    let e = newest f (iter_rest (rev_source c.loop-node.node-iterator)) (iter_rest (rev_source c.next.new.self)) x c.in-Some.ensures.steps in
    let left = subst (λ (ms : List Group). Left g.K.Kind.places family.words (base_in f family) (sets_in f family) ms c.loop-node.done (head_of c.loop-node.heads)) e c.loop-node.invariant in
    let at = left.lined 0 (view f x) (omega arith) in
    let small : x.arc.to < 64 = omega (arith, at.0.1, family.few) in
    left_own g.K.Kind.places family.words (base_in f family) (sets_in f family) (view f x) _ c.loop-node.done c.either-done.result c.only.result c.both.result (head_of c.loop-node.heads) (head_of c.set_head.new.heads) c.if-both-eq0.true c.both.ensures c.either-done.ensures (c.only.ensures.small small) c.set_head.ensures.here c.set_head.ensures.there left

pub loop-node-preserved : goal.loop-node-preserved
loop-node-preserved g c =
    let f = g.K.Kind.worth in
    let family = c.args.family.now in
    let x = c.in-Some.node.now in
    let e = newest f (iter_rest (rev_source c.loop-node.node-iterator)) (iter_rest (rev_source c.next.new.self)) x c.in-Some.ensures.steps in
    let left = subst (λ (ms : List Group). Left g.K.Kind.places family.words (base_in f family) (sets_in f family) ms c.loop-node.done (head_of c.loop-node.heads)) e c.loop-node.invariant in
    left_done g.K.Kind.places family.words (base_in f family) (sets_in f family) (view f x) _ c.loop-node.done c.both.result (head_of c.loop-node.heads) (search rules) c.if-both-eq0.false c.both.ensures left

pub returns : goal.returns
returns g c =
    let f = g.K.Kind.worth in
    let family = c.args.family.now in
    let e : iter_rest (rev_source c.loop-node.node-iterator) ≡ [] = nil_from_length _ c.in-None.ensures.steps.0 in
    let end =
    (subst (λ nodes. Left g.K.Kind.places family.words (base_in f family) (sets_in f family) (map (view f) (reverse nodes)) c.loop-node.done (head_of c.loop-node.heads)) e c.loop-node.invariant) in
    record {
      best = left_end g.K.Kind.places family.words (base_in f family) (sets_in f family) c.loop-node.done (head_of c.loop-node.heads) end;
      order = left_heads g.K.Kind.places family.words (base_in f family) (sets_in f family) c.loop-node.done (head_of c.loop-node.heads) end;
    }
