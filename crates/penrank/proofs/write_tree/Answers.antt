use Rattle.std.proofs.Common.{◌≤◌, length, arith}
use Rattle.lines.proofs.Lengths.{line_fits, tree_short}
use Rattle.lines.specs.Lines.{tree_text}
use Rattle.penrank.proofs.Weights.{all_bytes}
use Rattle.penrank.proofs.write_tree.Goals as goal

pub unwrap-long-requires : goal.unwrap-long-requires
unwrap-long-requires g c =
    let number = c.args.taken.now.count in
    let weight = g.K.Kind.worth c.args.taken.now.weight in
    let heads = c.args.heads.now in
    let places : length weight ≤ 2 = omega (arith, g.K.Kind.sized c.args.taken.now.weight, g.met.K.Recorded.few_places) in
    let short = tree_short number weight heads (omega arith) places c.requires.small c.requires.forty (all_bytes heads (λ i. omega (arith, c.type_inv.heads i))) in
    (line_fits (tree_text number weight heads) _ _ _ c.tree_line.ensures (omega (arith, short))).0
