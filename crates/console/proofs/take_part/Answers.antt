use Rattle.std.proofs.Common.{◌≡◌, ◌≢◌, ◌++◌, ◌-◌, ◌<◌, ◌≤◌, length, All, take, subst, rules, take-take}
use Rattle.std.proofs.lemmas.List.{places}
use Rattle.std.specs.Io.BufRead.{FillKeeps}
use Rattle.std.proofs.BufReadLemmas.{Consumes_shown}
use Rattle.console.proofs.Parts.{part_given}
use Rattle.console.proofs.take_part.Goals as goal

pub returns : goal.returns
returns g c =
    let end = c.length_through-end in
    let shown = c.in-Ok.available.now in
    let rested = c.fill_buf.follows.lender-at-none in
    let filled = subst (FillKeeps _ (g.R.Read.remaining rested) (g.R.BufRead.consumable_len rested)) c.in-Ok.is c.fill_buf.follows.holds-at-none in
    let within : end.result ≤ length shown = search (rules, places) in
    let fits : end.result ≤ c.args.room = search (rules, places) in
    let some : 0 < length shown → 0 < end.result = λ there. end.ensures.some (search (rules, places)) in
    let front : All (λ b. b ≢ 10) (take (end.result - 1) shown) = subst (All (λ b. b ≢ 10)) (take-take (end.result - 1) c.min-most.result shown (search (rules, places))) end.ensures.before in
    let grown : c.extend_from_slice.new.self.items ≡ c.args.line.now.items ++ take end.result shown = search rules in
    let moved = Consumes_shown _ _ _ _ shown end.result within c.in-Ok.ensures.front c.in-Ok.ensures.end filled.0 filled.1 c.consume.ensures.bytes in
    part_given _ _ _ shown _ c.args.room end.result c.ends_line-ends.result grown fits within some front moved.0 moved.1 c.ends_line-ends.ensures.yes c.ends_line-ends.ensures.no
