use Rattle.std.proofs.Common.{◌≡◌, ℕ, OnOk, slice_index, sym, ◌∙◌, subst, rules}
use Rattle.file.specs.declared.fault.FileKind.{FileKind}
use Rattle.penfile.proofs.Texts.{all_shown}
use Rattle.penfile.specs.Files.{shown_as}
use Rattle.penfile.specs.Lines.{words_line}
use Rattle.std.specs.Io.KnownBytes.{Appends}
use Rattle.penfile.proofs.show_kind.Goals as goal

pub returns-in-Score : goal.returns-in-Score
returns-in-Score g c =
    let out = g.W.Write.contents in
    let file = c.args.file.now in
    let words : c.unwrap_or-words.result ≡ slice_index file 4 = search rules in
    all_shown file c.in-Ok.kind c.show.result (out c.args.out.now) (out c.writeln.new.self) (out c.writeln-2.new.self) (out c.show.new.out) (sym c.kind_of.ensures ∙ c.in-Ok.is) c.in_ok-writeln.ensures.bytes
    (subst (λ (n : ℕ). Appends (out c.writeln.new.self) (out c.writeln-2.new.self) (words_line n)) words c.in_ok-writeln-2.ensures.bytes)
    (subst (λ (k : FileKind). OnOk c.show.result (Appends (out c.writeln-2.new.self) (out c.show.new.out) (shown_as file k))) (sym c.in-Score.is) c.show.ensures)

pub returns-in-Cost : goal.returns-in-Cost
returns-in-Cost g c =
    let out = g.W.Write.contents in
    let file = c.args.file.now in
    let words : c.unwrap_or-words.result ≡ slice_index file 4 = search rules in
    all_shown file c.in-Ok.kind c.show-in-Cost.result (out c.args.out.now) (out c.writeln.new.self) (out c.writeln-2.new.self) (out c.show-in-Cost.new.out) (sym c.kind_of.ensures ∙ c.in-Ok.is) c.in_ok-writeln.ensures.bytes
    (subst (λ (n : ℕ). Appends (out c.writeln.new.self) (out c.writeln-2.new.self) (words_line n)) words c.in_ok-writeln-2.ensures.bytes)
    (subst (λ (k : FileKind). OnOk c.show-in-Cost.result (Appends (out c.writeln-2.new.self) (out c.show-in-Cost.new.out) (shown_as file k))) (sym c.in-Cost.is) c.show-in-Cost.ensures)

pub returns-in-Mark : goal.returns-in-Mark
returns-in-Mark g c =
    let out = g.W.Write.contents in
    let file = c.args.file.now in
    let words : c.unwrap_or-words.result ≡ slice_index file 4 = search rules in
    all_shown file c.in-Ok.kind c.show-in-Mark.result (out c.args.out.now) (out c.writeln.new.self) (out c.writeln-2.new.self) (out c.show-in-Mark.new.out) (sym c.kind_of.ensures ∙ c.in-Ok.is) c.in_ok-writeln.ensures.bytes
    (subst (λ (n : ℕ). Appends (out c.writeln.new.self) (out c.writeln-2.new.self) (words_line n)) words c.in_ok-writeln-2.ensures.bytes)
    (subst (λ (k : FileKind). OnOk c.show-in-Mark.result (Appends (out c.writeln-2.new.self) (out c.show-in-Mark.new.out) (shown_as file k))) (sym c.in-Mark.is) c.show-in-Mark.ensures)
