use Rattle.std.proofs.Common.{◌≡◌, ℕ, List, true, OnOk, sym, ap, ◌∙◌, subst}
use Rattle.desk.specs.Parts.{parts_of}
use Rattle.file.specs.Reading.{record_count}
use Rattle.penfile.proofs.Lists.{all_entries}
use Rattle.penfile.proofs.Texts.{all_said}
use Rattle.penfile.specs.Lines.{all_standing, arc_lines, record_lines}
use Rattle.penfile.specs.declared.Standing.{Standing}
use Rattle.sheet.specs.Arcs.{arcs_in}
use Rattle.std.specs.Io.KnownBytes.{Appends}
use Rattle.std.specs.List.{AllByRecursion}
use Rattle.weight.specs.Range.{entry_in}
use Rattle.penfile.proofs.show.Goals as goal

pub write_arcs-requires : goal.write_arcs-requires
write_arcs-requires g c =
    let worth = g.K.Kind.worth in
    let n = c.in-Ok.sheet.words in
    let memory = parts_of c.read_sheet.new.memory in
    let arcs = arcs_in n memory.weights memory.sets in
    let is : c.deref.result.now ≡ all_standing n arcs n = c.deref.ensures.value ∙ c.in_ok-arcs-in-Ok.ensures ∙ ap (λ (k : ℕ). all_standing k (arcs_in k memory.weights memory.sets) k) c.words.ensures in
    subst (AllByRecursion (λ (arc : Standing g.row.K.Denot). entry_in g.K.Kind.ranges (worth arc.weight) ≡ true)) (sym is) (all_entries worth g.K.Kind.ranges arcs c.in-Ok.ensures.truly.1.entries n 1 n)

pub returns : goal.returns
returns g c =
    let worth = g.K.Kind.worth in
    let f = g.K.Recorded.format in
    let n = c.in-Ok.sheet.words in
    let memory = parts_of c.read_sheet.new.memory in
    let arcs = arcs_in n memory.weights memory.sets in
    let out = g.W.Write.contents in
    let is : c.deref.result.now ≡ all_standing n arcs n = c.deref.ensures.value ∙ c.in_ok-arcs-in-Ok.ensures ∙ ap (λ (k : ℕ). all_standing k (arcs_in k memory.weights memory.sets) k) c.words.ensures in
    let records : Appends (out c.args.out.now) (out c.write_records.new.out) (record_lines f.width c.args.file.now (record_count f.width c.args.file.now)) =
    subst (λ (k : ℕ). Appends (out c.args.out.now) (out c.write_records.new.out) (record_lines k c.args.file.now (record_count k c.args.file.now))) c.bytes.ensures c.in_ok-write_records-in-Ok.ensures in
    all_said f worth c.args.file.now n arcs c.write_arcs.result (out c.args.out.now) (out c.write_records.new.out) (out c.write_arcs.new.out) c.in-Ok.ensures.truly.0 records
    (subst (λ (l : List (Standing g.row.K.Denot)). OnOk c.write_arcs.result (Appends (out c.write_records.new.out) (out c.write_arcs.new.out) (arc_lines worth l))) is c.write_arcs.ensures)
