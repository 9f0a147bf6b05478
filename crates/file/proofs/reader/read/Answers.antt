use Rattle.file.proofs.Fills.{from_fresh, opened, refused}
use Rattle.file.proofs.Held.{fourth, puts_held}
use Rattle.file.proofs.Steps.{made, not_made}
use Rattle.file.proofs.reader.read.Goals as goal
use Rattle.file.specs.Reading.{record_count}
use Rattle.sheet.proofs.Holding.{none_held}
use Rattle.sheet.specs.Arcs.{HoldsArcs, no_arcs}
use Rattle.std.proofs.Common.{◌≡◌, get_or, sym, ◌∙◌, rules}

pub returns-in_err-sheet-clause-answer : goal.returns-in_err-sheet-clause-answer
returns-in_err-sheet-clause-answer g c = let why = refused _ _ _ _ _ c.in_err-sheet.ensures.answer in search rules

pub fill-requires-clause-room : goal.fill-requires-clause-room
fill-requires-clause-room g c = let fresh = opened _ _ _ _ c.in_ok-sheet.ensures.answer in search rules

pub returns-in_err-fill-clause-law : goal.returns-in_err-fill-clause-law
returns-in_err-fill-clause-law g c =
    let W = g.K.Kind in
    let f = g.K.Recorded.format in
    let file = c.args.file.now in
    let fresh = opened _ _ _ _ c.in_ok-sheet.ensures.answer in
    let told = not_made _ _ _ _ _ c.in_err-fill.ensures in
    let words : get_or file 4 0 ≡ c.in_ok-sheet.sheet.words = fourth f.kind f.width file c.in_ok-words.words (sym c.in_ok-words.ensures.value) ∙ sym fresh.1.0 in
    let none : HoldsArcs W.worth W.ranges (get_or file 4 0) c.fill.new.weights c.fill.new.sets no_arcs =
    rw words (none_held W.worth W.ranges c.in_ok-sheet.sheet.words c.args.weights.now c.fill.new.weights c.open.new.sets c.fill.new.sets told.1) in
    search rules

pub returns : goal.returns
returns g c =
    let f = g.K.Recorded.format in
    let file = c.args.file.now in
    let weights = c.args.weights.now in
    let sets = c.args.sets.now in
    let n = c.in_ok-sheet.sheet.words in
    let count = record_count f.width file in
    let fresh = opened _ _ _ _ c.in_ok-sheet.ensures.answer in
    let done = made _ _ _ _ c.in_ok-fill.ensures in
    let all = from_fresh f c.in_ok-words.words n count file weights c.fill.new.weights sets c.open.new.sets c.fill.new.sets fresh.1.0 fresh.1.1 done.1 in
    record { answer = search rules; law = puts_held f g.K.Kind.worth g.K.Kind.ranges g.met.K.Recorded.entries file n count weights c.fill.new.weights sets c.fill.new.sets done.0 (rw fresh.1.0 all) }
