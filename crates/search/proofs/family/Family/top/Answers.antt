use Rattle.std.proofs.Common.{◌≡◌, ◌<◌, None, Some, reverse, length, find, sym, ◌∙◌, arith, rules, tests}
use Rattle.std.proofs.lemmas.List.{get_or-map}
use Rattle.std.proofs.lemmas.Iterator.Adapters.{YieldsList-from_rev_slice}
use Rattle.std.proofs.lemmas.Iterator.Search.{find_from_yields_List}
use Rattle.word_set.specs.Bits.{in_set}
use Rattle.search.specs.State.{view, blank, base_in}
use Rattle.search.proofs.Records.{entry_found}
use Rattle.search.proofs.family.Family.top.Goals as goal

pub returns-in-Some : goal.returns-in-Some
returns-in-Some g c =
    let f = g.K.Kind.worth in
    let found = find_from_yields_List (λ x. in_set x.members c.args.word) _ _ _ c.find.ensures.ran (YieldsList-from_rev_slice c.args.self.now.made.now cc) (λ x b q k. search (rules, tests)) in
    let e : Some c.in-Some.node.now ≡ find (λ x. in_set x.members c.args.word) (reverse c.args.self.now.made.now) = cc in
    entry_found f (base_in f c.args.self.now) c.args.word (reverse c.args.self.now.made.now) _ e

pub returns-in-None : goal.returns-in-None
returns-in-None g c =
    let f = g.K.Kind.worth in
    let l : c.args.word < length c.args.self.now.nodes.now = omega (arith, c.args.self.now.nodes_in, c.requires) in
    let found = find_from_yields_List (λ x. in_set x.members c.args.word) _ _ _ c.find.ensures.ran (YieldsList-from_rev_slice c.args.self.now.made.now cc) (λ x b q k. search (rules, tests)) in
    let e : None ≡ find (λ x. in_set x.members c.args.word) (reverse c.args.self.now.made.now) = cc in
    sym (get_or-map (view f) c.args.self.now.nodes.now c.args.word _ blank l) ∙ entry_found f (base_in f c.args.self.now) c.args.word (reverse c.args.self.now.made.now) _ e
