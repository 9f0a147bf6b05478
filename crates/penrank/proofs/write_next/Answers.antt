use Rattle.std.proofs.Common.{◌≡◌, ℕ, ◌≤◌, false, sym, take, Ok, subst, rules}
use Rattle.desk.specs.Parts.{parts_of}
use Rattle.filing.proofs.Outcomes.{long_enough}
use Rattle.lines.specs.Lines.{tree_text}
use Rattle.std.specs.Io.KnownBytes.{Appends}
use Rattle.penrank.proofs.Steps.{tells_end, tree_written, last_written}
use Rattle.penrank.proofs.Weights.{handed_small}
use Rattle.penrank.specs.Steps.{TreeWritten, LastWritten}
use Rattle.ranking.specs.Calls.{part_lengths}
use Rattle.ranking.specs.Takes.{Tells}
use Rattle.sheet.specs.Calls.{too_short}
use Rattle.penrank.proofs.write_next.Goals as goal

pub write_tree-requires-clause-small : goal.write_tree-requires-clause-small
write_tree-requires-clause-small g c =
    let worth = g.K.Kind.worth in
    let n = c.args.ranking.now.sheet.words in
    let (arcs, ts, stands) = c.requires.stands in
    let memory = parts_of c.args.memory.now in
    let line : n ≤ 40 = search rules in
    let long : too_short n (part_lengths memory) ≡ false = long_enough n (part_lengths memory) line (search rules) (search rules) (search rules) (search rules) (search rules) (search rules) in
    let tells = (c.take.ensures.law arcs ts stands).0 long (search rules) in
    let heads = take n c.take.new.space in
    let told : Tells worth n arcs ts heads (Ok c.in-Ok.taken) = subst (Tells worth n arcs ts heads) c.in-Ok.is tells in
    handed_small worth g.K.Kind.ranges g.K.Kind.ranged.1 n arcs stands.sheet.entries ts heads c.in-Ok.taken.weight c.in-Ok.taken.count line told.0

pub unwrap-requires : goal.unwrap-requires
unwrap-requires g c =
    let worth = g.K.Kind.worth in
    let n = c.args.ranking.now.sheet.words in
    let (arcs, ts, stands) = c.requires.stands in
    let memory = parts_of c.args.memory.now in
    let line : n ≤ 40 = search rules in
    let long : too_short n (part_lengths memory) ≡ false = long_enough n (part_lengths memory) line (search rules) (search rules) (search rules) (search rules) (search rules) (search rules) in
    let tells = (c.take.ensures.law arcs ts stands).0 long (search rules) in
    tells_end worth g.K.Kind.ranges n arcs ts c.take.result (take n c.take.new.space) c.in-Err.why c.try_from.result c.in-Err.is tells c.try_from.ensures

pub returns-in_ok-write_tree-in-Ok-clause-line : goal.returns-in_ok-write_tree-in-Ok-clause-line
returns-in_ok-write_tree-in-Ok-clause-line g c arcs ts stands =
    let worth = g.K.Kind.worth in
    let n = c.args.ranking.now.sheet.words in
    let memory = parts_of c.args.memory.now in
    let line : n ≤ 40 = search rules in
    let long : too_short n (part_lengths memory) ≡ false = long_enough n (part_lengths memory) line (search rules) (search rules) (search rules) (search rules) (search rules) (search rules) in
    let law = c.take.ensures.law arcs ts stands in
    let heads = take n c.take.new.space in
    let next : TreeWritten worth g.K.Kind.ranges n arcs ts c.take.new.ranking (parts_of c.take.new.self) (g.W.Write.contents c.args.out.now) (g.W.Write.contents c.write_tree.new.out) =
    tree_written worth g.K.Kind.ranges n arcs ts c.take.new.ranking (parts_of c.take.new.self) _ _ heads c.take.result c.in-Ok.taken c.in-Ok.is (law.0 long (search rules)) law.1
    (subst (λ (k : ℕ). Appends (g.W.Write.contents c.args.out.now) (g.W.Write.contents c.write_tree.new.out) (tree_text c.in-Ok.taken.count (worth c.in-Ok.taken.weight) (take k c.take.new.space))) c.requires.line c.in_ok-write_tree-in-Ok.ensures) in
    subst (λ (k : ℕ). TreeWritten worth g.K.Kind.ranges k arcs ts c.take.new.ranking (parts_of c.take.new.self) (g.W.Write.contents c.args.out.now) (g.W.Write.contents c.write_tree.new.out)) (sym c.requires.line) next

pub returns-in_ok-write_last-in-Err-clause-line : goal.returns-in_ok-write_last-in-Err-clause-line
returns-in_ok-write_last-in-Err-clause-line g c arcs ts stands =
    let worth = g.K.Kind.worth in
    let n = c.args.ranking.now.sheet.words in
    let memory = parts_of c.args.memory.now in
    let line : n ≤ 40 = search rules in
    let long : too_short n (part_lengths memory) ≡ false = long_enough n (part_lengths memory) line (search rules) (search rules) (search rules) (search rules) (search rules) (search rules) in
    let law = c.take.ensures.law arcs ts stands in
    let last : LastWritten worth g.K.Kind.ranges n arcs ts (g.W.Write.contents c.args.out.now) (g.W.Write.contents c.write_last.new.out) =
    last_written worth g.K.Kind.ranges n arcs ts _ _ (take n c.take.new.space) c.take.result c.in-Err.why c.try_from.result c.unwrap.result c.in-Err.is (law.0 long (search rules)) c.unwrap.ensures c.try_from.ensures c.in_ok-write_last-in-Err.ensures in
    subst (λ (k : ℕ). LastWritten worth g.K.Kind.ranges k arcs ts (g.W.Write.contents c.args.out.now) (g.W.Write.contents c.write_last.new.out)) (sym c.requires.line) last
