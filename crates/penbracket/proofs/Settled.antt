-- A line settles what is told of it.
use Rattle.std.proofs.Common.{◌≡◌, ℕ, ◌<◌, ◌≤◌, List, ◌++◌, length, codes, decimal, None, Some, Option, Ok, Err, Result, vec_items, refl, sym, ap, ◌∙◌, subst, arith}
use Rattle.penbracket.specs.Drawing.{DrawingOf}
use Rattle.penbracket.specs.Texts.{heads_text, no_tree_text, too_long_text, drawing_text, OneText}
use Rattle.penbracket.specs.declared.Drawing.{Drawing}
use Rattle.penbracket.specs.declared.Fault.TheVariants.{NoList, NoTree, TooLong}
use Rattle.penbracket.specs.declared.Fault.{Fault}
use Rattle.reading.specs.Spaced.{SpelledOnce}
use Rattle.tree.specs.Brackets.{bracketed}
use Rattle.tree.specs.Trees.{LineTree, OneFirst, ToldCycle}

one_root : (heads : List ℕ) (root root' : ℕ) → LineTree heads root → LineTree heads root' → root ≡ root'
one_root heads root root' t t' = t'.top.only root t.top.word t.top.hangs

one_cycle : OneFirst → (heads : List ℕ) (cycle cycle' : Option ℕ) → ToldCycle heads cycle → ToldCycle heads cycle' → cycle ≡ cycle'
one_cycle first heads None None t t' = refl
one_cycle first heads None (Some w) t t' = absurd (t t'.start t'.word t'.runs)
one_cycle first heads (Some v) None t t' = absurd (t' t.start t.word t.runs)
one_cycle first heads (Some v) (Some w) t t' = ap Some (first heads v w t t')

-- what is told of a tree, by its parts
abbrev tree_told : List ℕ → List ℕ → ℕ → List ℕ → List ℕ
tree_told line heads root brackets = heads_text line (length heads) ++ (codes "root: " ++ (decimal root ++ (codes "\nbrackets: " ++ (brackets ++ codes "\n"))))

module _ (once : SpelledOnce) (first : OneFirst) (line : List ℕ) where
  -- heads with a tree whose brackets are too long are not drawn
  fits_once : (heads heads' brackets : List ℕ) (root root' : ℕ) → heads ≡ heads' → LineTree heads root → LineTree heads' root' → brackets ≡ bracketed heads root → length brackets ≤ 160 → 160 < length (bracketed heads' root') → ⊥
  fits_once heads heads' brackets root root' e tree tree' drawn fits long =
      let same : bracketed heads root ≡ bracketed heads' root' = ap (λ h. bracketed h root) e ∙ ap (bracketed heads') (one_root heads' root root' (subst (λ h. LineTree h root) e tree) tree') in
      let l : length brackets ≡ length (bracketed heads' root') = ap length (drawn ∙ same) in
      omega arith

  one_drawing : (a b : Result Drawing Fault) → DrawingOf line a → DrawingOf line b → drawing_text line a ≡ drawing_text line b
  one_drawing (Ok a) (Ok b) p q =
      let (spells, tree, drawn, fits) = p in
      let (spells', tree', drawn', fits') = q in
      let heads : vec_items a.heads ≡ vec_items b.heads = once line (vec_items a.heads) (vec_items b.heads) spells spells' in
      let root : a.root ≡ b.root = one_root (vec_items b.heads) a.root b.root (subst (λ h. LineTree h a.root) heads tree) tree' in
      let brackets : vec_items a.brackets ≡ vec_items b.brackets = drawn ∙ ap (λ h. bracketed h a.root) heads ∙ ap (bracketed (vec_items b.heads)) root ∙ sym drawn' in
      ap (λ h. tree_told line h a.root (vec_items a.brackets)) heads ∙ ap (λ r. tree_told line (vec_items b.heads) r (vec_items a.brackets)) root ∙ ap (tree_told line (vec_items b.heads) b.root) brackets
  one_drawing (Ok a) (Err NoList) p q = absurd (q (vec_items a.heads) p.0)
  one_drawing (Ok a) (Err (NoTree heads cycle)) p q =
      let (spells, tree, drawn, fits) = p in
      let (spells', none, told) = q in
      absurd (none a.root (subst (λ h. LineTree h a.root) (once line (vec_items a.heads) (vec_items heads) spells spells') tree))
  one_drawing (Ok a) (Err (TooLong heads)) p q =
      let (spells, tree, drawn, fits) = p in
      let (spells', (root, tree', long)) = q in
      absurd (fits_once (vec_items a.heads) (vec_items heads) (vec_items a.brackets) a.root root (once line (vec_items a.heads) (vec_items heads) spells spells') tree tree' drawn fits long)
  one_drawing (Err NoList) (Ok b) p q = absurd (p (vec_items b.heads) q.0)
  one_drawing (Err NoList) (Err NoList) p q = refl
  one_drawing (Err NoList) (Err (NoTree heads cycle)) p q = absurd (p (vec_items heads) q.0)
  one_drawing (Err NoList) (Err (TooLong heads)) p q = absurd (p (vec_items heads) q.0)
  one_drawing (Err (NoTree heads cycle)) (Ok b) p q =
      let (spells, none, told) = p in
      let (spells', tree, drawn, fits) = q in
      absurd (none b.root (subst (λ h. LineTree h b.root) (once line (vec_items b.heads) (vec_items heads) spells' spells) tree))
  one_drawing (Err (NoTree heads cycle)) (Err NoList) p q = absurd (q (vec_items heads) p.0)
  one_drawing (Err (NoTree heads cycle)) (Err (NoTree heads' cycle')) p q =
      let (spells, none, told) = p in
      let (spells', none', told') = q in
      let same : vec_items heads ≡ vec_items heads' = once line (vec_items heads) (vec_items heads') spells spells' in
      let cycles : cycle ≡ cycle' = one_cycle first (vec_items heads') cycle cycle' (subst (λ h. ToldCycle h cycle) same told) told' in
      ap (λ h. heads_text line (length h) ++ no_tree_text cycle) same ∙ ap (λ c. heads_text line (length (vec_items heads')) ++ no_tree_text c) cycles
  one_drawing (Err (NoTree heads cycle)) (Err (TooLong heads')) p q =
      let (spells, none, told) = p in
      let (spells', (root, tree, long)) = q in
      absurd (none root (subst (λ h. LineTree h root) (once line (vec_items heads') (vec_items heads) spells' spells) tree))
  one_drawing (Err (TooLong heads)) (Ok b) p q =
      let (spells, (root, tree, long)) = p in
      let (spells', tree', drawn, fits) = q in
      absurd (fits_once (vec_items b.heads) (vec_items heads) (vec_items b.brackets) b.root root (once line (vec_items b.heads) (vec_items heads) spells' spells) tree' tree drawn fits long)
  one_drawing (Err (TooLong heads)) (Err NoList) p q = absurd (q (vec_items heads) p.0)
  one_drawing (Err (TooLong heads)) (Err (NoTree heads' cycle)) p q =
      let (spells, (root, tree, long)) = p in
      let (spells', none, told) = q in
      absurd (none root (subst (λ h. LineTree h root) (once line (vec_items heads) (vec_items heads') spells spells') tree))
  one_drawing (Err (TooLong heads)) (Err (TooLong heads')) p q =
      ap (λ h. heads_text line (length h) ++ too_long_text) (once line (vec_items heads) (vec_items heads') p.0 q.0)

pub one_text : SpelledOnce → OneFirst → OneText
one_text once first line text text' (drawn, of, is) (drawn', of', is') = is ∙ one_drawing once first line drawn drawn' of of' ∙ sym is'
