use Rattle.penbracket.proofs.Draws.{drawn_brackets, cut_text}
use Rattle.penbracket.proofs.draw.Goals as goal
use Rattle.std.proofs.Common.{Ok, vec_items, ◌∙◌, subst, rules}
use Rattle.tree.specs.Brackets.{Drawn}
use Rattle.tree.specs.Trees.{LineTree}

pub returns : goal.returns
returns c =
    let heads = vec_items c.in-Some.heads in
    let root = c.in-Ok.root in
    let len = c.in-Ok-write_brackets.len in
    let after = c.write_brackets.new.space in
    let tree : LineTree heads root = subst (λ l. LineTree l root) c.as_slice.ensures.value c.in-Ok.ensures in
    let text = drawn_brackets heads c.as_mut_slice.result.now after root len tree (subst (λ l. Drawn l c.as_mut_slice.result.now (Ok len) after) c.as_slice-2.ensures.value c.in-Ok-write_brackets.ensures.drawn) in
    (search rules, tree, c.truncate.ensures.items ∙ cut_text after _ _ c.in_ok-brackets.brackets.len len (search rules) text, search rules)
