use Rattle.std.proofs.Common.{sym, rules}
use Rattle.desk.specs.Parts.{parts_of}
use Rattle.penrank.proofs.Steps.{begun, more_by, ended_by}
use Rattle.sheet.specs.Arcs.{arcs_in}
use Rattle.penrank.proofs.write_ranking.Goals as goal

pub loop-init : goal.loop-init
loop-init g c =
    let memory = c.args.memory.now in
    let n = c.args.sheet.words in
    let arcs = arcs_in n memory.weights.items memory.sets.items in
    record {
      words = c.words-words.ensures;
      line = search rules;
      so_far = begun g.K.Kind.worth g.K.Kind.ranges n arcs c.begin-ranking.result (parts_of memory) _ (c.begin-ranking.ensures.law (parts_of memory) arcs c.requires);
    }

pub loop-preserved : goal.loop-preserved
loop-preserved g c =
    let n = c.args.sheet.words in
    let arcs = arcs_in n c.args.memory.now.weights.items c.args.memory.now.sets.items in
    let so = c.loop.invariant.so_far in
    let new = c.write_next.new in
    record {
      words = c.loop.invariant.words;
      line = sym c.in_ok-write_next.ensures.words;
      so_far = (more_by g.K.Kind.worth g.K.Kind.ranges n arcs c.loop.ranking new.ranking (parts_of c.loop.memory) (parts_of new.memory) _ _ _ c.words-words.result _ so c.words-words.ensures c.if-branch.true
          (c.in_ok-write_next.ensures.line arcs so.trees so.stands)).0;
    }

pub loop-smaller : goal.loop-smaller
loop-smaller g c =
    let n = c.args.sheet.words in
    let arcs = arcs_in n c.args.memory.now.weights.items c.args.memory.now.sets.items in
    let so = c.loop.invariant.so_far in
    let new = c.write_next.new in
    (more_by g.K.Kind.worth g.K.Kind.ranges n arcs c.loop.ranking new.ranking (parts_of c.loop.memory) (parts_of new.memory) _ _ _ c.words-words.result _ so c.words-words.ensures c.if-branch.true
    (c.in_ok-write_next.ensures.line arcs so.trees so.stands)).1

pub returns : goal.returns
returns g c =
    let n = c.args.sheet.words in
    let arcs = arcs_in n c.args.memory.now.weights.items c.args.memory.now.sets.items in
    let so = c.loop.invariant.so_far in
    let new = c.write_next.new in
    ended_by g.K.Kind.worth g.K.Kind.ranges n arcs c.loop.ranking new.ranking (parts_of c.loop.memory) (parts_of new.memory) _ _ _ c.words-words.result _ so c.words-words.ensures c.if-branch.false
    (c.in_ok-write_next.ensures.line arcs so.trees so.stands)
