use Rattle.std.proofs.Common.{◌∙◌, ap, sym, refl, Some, None}
use Rattle.std.specs.Str.Iter.{split_ascii_whitespace_text}
use Rattle.pentrace.proofs.Said.{few, many, text_of}
use Rattle.pentrace.proofs.Words.{word_comes}
use Rattle.pentrace.specs.Words.{words_of}
use Rattle.pentrace.proofs.read_order.Goals as goal

-- src/lib.rt:32:16
pub returns-in_err-name : goal.returns-in_err-name
returns-in_err-name c =
    let text = text_of c.args.line.now c.from_utf8.result _ c.in_ok-text.text c.in_ok-text.ensures.value c.from_utf8.ensures.cases in
    let whole = c.split_ascii_whitespace-words.ensures.text ∙ text.0 in
    let none = word_comes (split_ascii_whitespace_text c.split_ascii_whitespace-words.result) None (split_ascii_whitespace_text c.next.new.self) c.in_err-name.ensures.steps in
    rw (← whole, c.from_residual-in_err-name.ensures) (record { text = λ _. rw none.0 refl; no_text = λ _. refl })

-- src/lib.rt:37:9
pub returns-then-is_some : goal.returns-then-is_some
returns-then-is_some c =
    let text = text_of c.args.line.now c.from_utf8.result _ c.in_ok-text.text c.in_ok-text.ensures.value c.from_utf8.ensures.cases in
    let whole = c.split_ascii_whitespace-words.ensures.text ∙ text.0 in
    let first = word_comes (split_ascii_whitespace_text c.split_ascii_whitespace-words.result) (Some c.in_ok-name.name) (split_ascii_whitespace_text c.next.new.self) c.in_ok-name.ensures.steps in
    let second = word_comes (split_ascii_whitespace_text c.next.new.self) c.next-first.result (split_ascii_whitespace_text c.next-first.new.self) c.next-first.ensures.steps in
    let third = word_comes (split_ascii_whitespace_text c.next-first.new.self) c.next-second.result (split_ascii_whitespace_text c.next-second.new.self) c.next-second.ensures.steps in
    let fourth = word_comes (split_ascii_whitespace_text c.next-second.new.self) c.next-third.result (split_ascii_whitespace_text c.next-third.new.self) c.next-third.ensures.steps in
    let fifth = word_comes (split_ascii_whitespace_text c.next-third.new.self) c.next-2.result (split_ascii_whitespace_text c.next-2.new.self) c.next-2.ensures.steps in
    let says = many (words_of c.args.line.now) c.in_ok-name.name c.next-first.result c.next-second.result c.next-third.result c.next-2.result _ _ _ _ _ (ap words_of (sym whole) ∙ first) second third fourth fifth (sym c.is_some.ensures ∙ c.if-is_some.true) in
    record { text = λ _. says; no_text = λ no. refl }

-- src/lib.rt:27:1
pub returns : goal.returns
returns c =
    let text = text_of c.args.line.now c.from_utf8.result _ c.in_ok-text.text c.in_ok-text.ensures.value c.from_utf8.ensures.cases in
    let whole = c.split_ascii_whitespace-words.ensures.text ∙ text.0 in
    let first = word_comes (split_ascii_whitespace_text c.split_ascii_whitespace-words.result) (Some c.in_ok-name.name) (split_ascii_whitespace_text c.next.new.self) c.in_ok-name.ensures.steps in
    let second = word_comes (split_ascii_whitespace_text c.next.new.self) c.next-first.result (split_ascii_whitespace_text c.next-first.new.self) c.next-first.ensures.steps in
    let third = word_comes (split_ascii_whitespace_text c.next-first.new.self) c.next-second.result (split_ascii_whitespace_text c.next-second.new.self) c.next-second.ensures.steps in
    let fourth = word_comes (split_ascii_whitespace_text c.next-second.new.self) c.next-third.result (split_ascii_whitespace_text c.next-third.new.self) c.next-third.ensures.steps in
    let fifth = word_comes (split_ascii_whitespace_text c.next-third.new.self) c.next-2.result (split_ascii_whitespace_text c.next-2.new.self) c.next-2.ensures.steps in
    let says = few (words_of c.args.line.now) c.in_ok-name.name c.next-first.result c.next-second.result c.next-third.result c.next-2.result _ _ _ _ _ _ (ap words_of (sym whole) ∙ first) second third fourth fifth (sym c.is_some.ensures ∙ c.if-is_some.false) c.order_of.ensures in
    record { text = λ _. says; no_text = λ no. absurd (no text.1) }
