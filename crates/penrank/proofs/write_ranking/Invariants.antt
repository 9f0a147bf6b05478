use Rattle.std.proofs.Common.{◌≡◌, ◌-◌}
use Rattle.desk.specs.Parts.{parts_of}
use Rattle.penrank.specs.Steps.{LinesSoFar}
use Rattle.sheet.specs.Arcs.{arcs_in}
use Rattle.penrank.proofs.write_ranking.Given as goal

abbrev pub invariant-loop : goal.invariant-loop
invariant-loop g l = record {
  words : l.words ≡ l.fn.sheet.words;
  line : l.words ≡ l.ranking.sheet.words;
  so_far : LinesSoFar g.K.Kind.worth g.K.Kind.ranges l.fn.sheet.words (arcs_in l.fn.sheet.words l.fn.memory.weights.items l.fn.memory.sets.items) l.ranking (parts_of l.memory) (g.W.Write.contents l.fn.out) (g.W.Write.contents l.out);
}

abbrev pub decreases-loop : goal.decreases-loop
decreases-loop g l = 50 - l.ranking.taken
