use Rattle.std.proofs.Common.{◌≡◌, ◌++◌, codes, decimal, None, sym, ap, subst, ◌∙◌, rules}
use Rattle.desk.specs.Parts.{parts_of}
use Rattle.pentree.proofs.Steps.{joined, line_of, open_ok}
use Rattle.pentree.specs.Texts.{puts_text, arcs_of_line, score_ranges, OpenedText, memory_lengths}
use Rattle.ranking.specs.Calls.{part_lengths}
use Rattle.sheet.specs.Arcs.{HoldsArcs, no_arcs}
use Rattle.sheet.specs.Calls.{open_check}
use Rattle.weight.specs.Numbers.{score_worth}
use Rattle.pentree.proofs.search_text.Goals as goal

pub found_text-requires : goal.found_text-requires
found_text-requires c = line_of c.args.words (part_lengths (parts_of c.args.memory.now)) (open_ok (open_check c.args.words (part_lengths (parts_of c.args.memory.now))) c.in-Ok.sheet _ _ c.in-Ok.ensures.answer).0

pub returns : goal.returns
returns c =
    let words = c.args.words in
    let arcs = c.args.arcs.now in
    let memory = c.puts_text.new.memory in
    let found = c.in_ok-found.found.items in
    let lengths : part_lengths (parts_of c.args.memory.now) ≡ memory_lengths = search rules in
    let opened = open_ok (open_check words (part_lengths (parts_of c.args.memory.now))) c.in-Ok.sheet _ _ c.in-Ok.ensures.answer in
    let passed : open_check words memory_lengths ≡ None = ap (open_check words) (sym lengths) ∙ opened.0 in
    let first : c.into_bytes-text.result.items ≡ codes "words: " ++ (decimal words ++ codes "\n") = search rules in
    let puts = c.in_ok-puts.ensures.told ∙ ap (λ w. puts_text w arcs) opened.1.0 in
    let held : HoldsArcs score_worth score_ranges words memory.weights.items memory.sets.items (arcs_of_line words arcs) =
    subst (λ w. HoldsArcs score_worth score_ranges w memory.weights.items memory.sets.items (arcs_of_line w arcs)) opened.1.0 (c.in_ok-puts.ensures.law no_arcs c.in-Ok.ensures.law) in
    let told = joined _ _ _ _ _ found _ _ (puts_text words arcs) c.in_ok-extend_from_slice-2.ensures.items c.in_ok-extend_from_slice.ensures.items c.as_slice-3.ensures.value c.as_slice-2.ensures.value puts first in
    subst (λ check. OpenedText words arcs check c.extend_from_slice-3.new.self.items) (sym passed) (found, c.in_ok-found.ensures (arcs_of_line words arcs) held, told)
