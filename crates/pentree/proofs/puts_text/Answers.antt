use Rattle.std.proofs.Common.{◌≡◌, ◌≤◌, ◌++◌, length, slice_index, true, ap, ◌∙◌, arith, rules}
use Rattle.pentree.proofs.Steps.{answered_put, byte_entry, puts_more, held_more, none_put}
use Rattle.pentree.specs.Texts.{put_told, score_ranges}
use Rattle.weight.specs.Numbers.{score_worth}
use Rattle.weight.specs.Range.{entry_in}
use Rattle.pentree.proofs.puts_text.Goals as goal

pub loop-rest-init : goal.loop-rest-init
loop-rest-init c = (search rules, λ weights sets held. held)

pub loop-rest-preserved : goal.loop-rest-preserved
loop-rest-preserved c =
    let words = c.args.sheet.now.words in
    let rest = c.loop-rest.rest.now in
    let before = c.loop-rest.memory in
    let after = c.put-answer.new.self in
    let whole : 3 ≤ length rest = search rules in
    let entry : entry_in score_ranges (score_worth c.new-weight.result) ≡ true = byte_entry (slice_index rest 2) c.new-weight.result (search rules) (omega arith) in
    let head : c.from-in-len3-up.result ≡ slice_index rest 0 = search rules in
    let dependent : c.from-in-len3-up-2.result ≡ slice_index rest 1 = search rules in
    let answered : c.put-answer.result ≡ put_told words (slice_index rest 0) (slice_index rest 1) =
    answered_put words _ _ _ _ (entry_in score_ranges (score_worth c.new-weight.result)) c.put-answer.result _ _ head dependent entry c.put-answer.ensures.answer in (
      puts_more words c.loop-rest.text.items c.extend_from_slice.new.self.items _ rest c.put-answer.result whole answered (search rules) c.loop-rest.invariant.0,
      λ weights sets held. c.loop-rest.invariant.1 weights sets
          (held_more words rest _ _ c.new-weight.result c.put-answer.result before.weights.items after.weights.items weights before.sets.items after.sets.items sets whole head dependent (search rules) answered c.put-answer.ensures.law held),
    )

pub returns : goal.returns
returns c = record {
  told = c.in_ok-extend_from_slice-2.ensures.items ∙ ap (λ l. c.loop-rest.text.items ++ l) (c.rest_text.ensures c.args.sheet.now.words) ∙ c.loop-rest.invariant.0;
  law = c.loop-rest.invariant.1 c.loop-rest.memory.weights.items c.loop-rest.memory.sets.items (none_put c.args.sheet.now.words c.loop-rest.rest.now c.loop-rest.memory.weights.items c.loop-rest.memory.sets.items (search rules));
}
