-- A line settles its text.
use Rattle.std.proofs.Common.{◌≡◌, ℕ, ◌≤◌, inl, inr, List, ◌∷◌, ◌++◌, codes, decimal, Option, None, Some, refl, sym, ap, ◌∙◌, subst, arith}
use Rattle.arborescence.specs.Heads.{worth_from}
use Rattle.pentree.proofs.Steps.{line_of}
use Rattle.pentree.specs.Texts.{AnswerText, ChosenTree, OneText, OpenedText, TellsSearch, TreeText, arcs_of_line, head_lines, memory_lengths, puts_text}
use Rattle.ranking.specs.Trees.{stands, arc_worth}
use Rattle.reading.specs.Spaced.{SpelledOnce}
use Rattle.refusal.specs.declared.Refusal.{Refusal}
use Rattle.search.specs.Answer.{TreeTold}
use Rattle.search.specs.Choice.{FoundOnce, SameArcs}
use Rattle.sheet.specs.Arcs.{Arcs}
use Rattle.sheet.specs.Calls.{open_check}
use Rattle.tree.specs.Trees.{Arborescence, LineTree, OnlyRoot, SingleRootTree}
use Rattle.weight.specs.Numbers.{Score, score_worth}
use Rattle.weight.specs.Text.{text}
use Rattle.weight.specs.Worth.{Worth}

line_tree : (n : ℕ) (heads : List ℕ) → n ≤ 40 → (t : SingleRootTree n heads) → LineTree heads t.root
line_tree n heads few t = record {
  few = let e = t.shape.sized in omega (arith, few, e);
  shape = subst (λ k. Arborescence k heads) (sym t.shape.sized) t.shape;
  top = subst (λ k. OnlyRoot k heads t.root) (sym t.shape.sized) t.top;
}

-- the same tree with a weight of the same worth is told alike
one_tree : (v w : Score) (heads told other : List ℕ) (root : ℕ) → LineTree heads root → score_worth v ≡ score_worth w → TreeText v heads told → TreeText w heads other → told ≡ other
one_tree v w heads told other root tree worth a b =
    let shown : a.0 ≡ b.0 = a.1 root tree ∙ sym (b.1 root tree) in
    a.2 ∙ ap (λ (x : Worth). (codes "weight: " ++ (text x ++ codes "\n")) ++ (head_lines 1 heads ++ (codes "brackets: " ++ (a.0 ++ codes "\n")))) worth
    ∙ ap (λ l. (codes "weight: " ++ (text (score_worth w) ++ codes "\n")) ++ (head_lines 1 heads ++ (codes "brackets: " ++ (l ++ codes "\n")))) shown ∙ sym b.2

module _ (found_once : FoundOnce) (n : ℕ) (few : n ≤ 40) (arcs : Arcs Score) where
  alike : SameArcs n (stands arcs) (stands arcs) (arc_worth score_worth arcs) (arc_worth score_worth arcs)
  alike = record { stand = λ h d v le. refl; weigh = λ h d v le up. refl }

  one_answer : (found found' : Option Score) (heads heads' told other : List ℕ) →
      AnswerText found heads told → TreeTold score_worth n (stands arcs) (arc_worth score_worth arcs) heads found → ChosenTree n arcs heads found →
      AnswerText found' heads' other → TreeTold score_worth n (stands arcs) (arc_worth score_worth arcs) heads' found' → ChosenTree n arcs heads' found' → told ≡ other
  one_answer None None heads heads' told other a t c b u d = a ∙ sym b
  one_answer None (Some w) heads heads' told other a t c b u d = absurd (t heads' u.tree)
  one_answer (Some v) None heads heads' told other a t c b u d = absurd (u heads t.tree)
  one_answer (Some v) (Some w) heads heads' told other a t c b u d =
      let same : heads ≡ heads' = found_once n (stands arcs) (stands arcs) (arc_worth score_worth arcs) (arc_worth score_worth arcs) alike heads heads' t.tree.shape.shape.sized u.tree.shape.shape.sized c d in
      let worth : score_worth v ≡ score_worth w = t.weighs ∙ ap (worth_from (arc_worth score_worth arcs) 1) same ∙ sym u.weighs in
      one_tree v w heads told other t.tree.shape.root (line_tree n heads few t.tree.shape) worth a (subst (λ l. TreeText w l other) (sym same) b)

  one_search : (told other : List ℕ) → TellsSearch n arcs told → TellsSearch n arcs other → told ≡ other
  one_search told other a b = one_answer a.0 b.0 a.1 b.1 told other a.2 a.3 a.4 b.2 b.3 b.4

one_opened : FoundOnce → (words : ℕ) (arcs told other : List ℕ) (check : Option Refusal) → open_check words memory_lengths ≡ check → OpenedText words arcs check told → OpenedText words arcs check other → told ≡ other
one_opened found_once words arcs told other (Some why) is a b = a ∙ sym b
one_opened found_once words arcs told other None is a b =
    a.2 ∙ ap (λ l. (codes "words: " ++ (decimal words ++ codes "\n")) ++ (puts_text words arcs ++ l)) (one_search found_once words (line_of words memory_lengths is).1 (arcs_of_line words arcs) a.0 b.0 a.1 b.1) ∙ sym b.2

pub one_text : SpelledOnce → FoundOnce → OneText
one_text spelled_once found_once line told other (inl a) (inl b) = a.1 ∙ sym b.1
one_text spelled_once found_once line told other (inl a) (inr b) = absurd (a.0 (b.0 ∷ b.1) b.2)
one_text spelled_once found_once line told other (inr a) (inl b) = absurd (b.0 (a.0 ∷ a.1) a.2)
one_text spelled_once found_once line told other (inr a) (inr b) =
    let same : a.0 ∷ a.1 ≡ b.0 ∷ b.1 = spelled_once line (a.0 ∷ a.1) (b.0 ∷ b.1) a.2 b.2 in
    let words : b.0 ≡ a.0 = cc in
    let arcs : b.1 ≡ a.1 = cc in
    let moved : OpenedText a.0 a.1 (open_check a.0 memory_lengths) other = subst (λ n. OpenedText n a.1 (open_check n memory_lengths) other) words (subst (λ l. OpenedText b.0 l (open_check b.0 memory_lengths) other) arcs b.3) in
    one_opened found_once a.0 a.1 told other (open_check a.0 memory_lengths) refl a.3 moved
