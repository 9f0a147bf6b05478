-- A row is right where a test of its trees passes, which is computed.
use Rattle.std.proofs.Common.{◌≡◌, ℕ, suc, Bool, true, false, not, ◌&&◌, ◌||◌, eqb, ltb, ◌⊎◌, List, [], ◌∷◌, length, None, Decides, sym, refl, ap, ◌∙◌, subst, inl, inr}
use Rattle.cells.proofs.Counts.{at_most_test}
use Rattle.cells.specs.Accounts.{Among}
use Rattle.examples.proofs.Trees.{tree_test, every_tree, decides_tree, at_tree}
use Rattle.examples.specs.Lines.{WorkedLine, Told, TrueLine, arcs_of, steps_check, FileOf, Printed, WorkedRow, scores, costs, marks, score_file, no_tree, Right}
use Rattle.file.specs.Formats.{Format, score_format, cost_format, mark_format}
use Rattle.ranking.specs.Takes.{HandedOut, NoneHanded}
use Rattle.ranking.specs.Trees.{stands, TreeOf, tree_worth}
use Rattle.refusal.specs.declared.Refusal.TheVariants.{WordCount, ShortMemory, NoDependent, HeadAbove, SelfLoop, NoEntry, AbsentArc, NoTree, NoMore, Fifty, ShortSpace, NotATree}
use Rattle.refusal.specs.declared.Refusal.{Refusal}
use Rattle.sheet.specs.Arcs.{Arcs, no_arcs}
use Rattle.std.proofs.lemmas.Slice.Eq.{bytes_eq-Decides}
use Rattle.std.proofs.lemmas.Bool.{and_parts, or_cases, not-true, ltb-true, eqb-true, false≢true}
use Rattle.std.proofs.lemmas.Bool.Decides.{Decides-or, not_from_Decides}
use Rattle.std.specs.Str.{bytes_eq}
use Rattle.tree.specs.Trees.{LineTree}
use Rattle.weight.proofs.Worths.{at_most_refl, at_most_antisym, outweighs_not, outweighs_when, outweighs_over}
use Rattle.weight.specs.Layers.{mark_worth}
use Rattle.weight.specs.Numbers.{score_worth, cost_worth}
use Rattle.weight.specs.Worth.{Worth, at_most, AtMost, Outweighs}

abbrev pub among : List ℕ → List (List ℕ) → Bool
among t [] = false
among t (x ∷ xs) = bytes_eq t x || among t xs

decides_among : (t : List ℕ) (ts : List (List ℕ)) → Decides (among t ts) (Among t ts)
decides_among t [] = (λ e. absurd (false≢true e), λ m. absurd m)
decides_among t (x ∷ xs) = Decides-or (bytes_eq t x) (among t xs) (bytes_eq-Decides t x) (decides_among t xs)

abbrev pub same_worth : Worth → Worth → Bool
same_worth a b = eqb (length a) (length b) && (at_most a b && at_most b a)

worth_same : (a b : Worth) → same_worth a b ≡ true → a ≡ b
worth_same a b e =
    let p = and_parts (eqb (length a) (length b)) (at_most a b && at_most b a) e in
    let q = and_parts (at_most a b) (at_most b a) p.1 in
    at_most_antisym a b (eqb-true (length a) (length b) p.0) (at_most_test a b q.0) (at_most_test b a q.1)

module _ {K : Type 0} (worth : K → Worth) (n : ℕ) (arcs : Arcs K) where
  abbrev pub is_tree : List ℕ → Bool
  is_tree t = tree_test n (stands arcs) t

  -- taken, or the tree itself, or lighter
  abbrev pub outdone : List (List ℕ) → List ℕ → Worth → List ℕ → Bool
  outdone ts heads weight t = among t ts || (bytes_eq t heads || not (at_most weight (tree_worth worth arcs t)))

  abbrev pub hands_out : List (List ℕ) → List ℕ → K → Bool
  hands_out ts heads weight =
      ltb (length ts) 50 && (is_tree heads && (not (among heads ts) && (same_worth (worth weight) (tree_worth worth arcs heads) && every_tree n (stands arcs) (outdone ts heads (worth weight)))))

  -- an untaken tree is this one, or lighter
  others : (ts : List (List ℕ)) (heads : List ℕ) (weight : K) → every_tree n (stands arcs) (outdone ts heads (worth weight)) ≡ true → (other : List ℕ) → TreeOf n arcs other → (Among other ts → ⊥) → (other ≡ heads) ⊎ Outweighs (worth weight) (tree_worth worth arcs other)
  others ts heads weight e other is new = by (or_cases (among other ts) _ (at_tree n (stands arcs) (outdone ts heads (worth weight)) e other is))
    where
      itself_or_lighter : (bytes_eq other heads ≡ true) ⊎ (not (at_most (worth weight) (tree_worth worth arcs other)) ≡ true) → (other ≡ heads) ⊎ Outweighs (worth weight) (tree_worth worth arcs other)
      itself_or_lighter (inl q) = inl ((bytes_eq-Decides other heads).0 q)
      itself_or_lighter (inr q) = inr (outweighs_when (worth weight) (tree_worth worth arcs other) (not-true _ q))

      by : (among other ts ≡ true) ⊎ ((bytes_eq other heads || not (at_most (worth weight) (tree_worth worth arcs other))) ≡ true) → (other ≡ heads) ⊎ Outweighs (worth weight) (tree_worth worth arcs other)
      by (inl m) = absurd (new ((decides_among other ts).0 m))
      by (inr q) = itself_or_lighter (or_cases (bytes_eq other heads) _ q)

  handed_out : (ts : List (List ℕ)) (heads : List ℕ) (weight : K) → hands_out ts heads weight ≡ true → HandedOut worth n arcs ts heads weight (suc (length ts))
  handed_out ts heads weight e =
      let a = and_parts (ltb (length ts) 50) _ e in
      let b = and_parts (is_tree heads) _ a.1 in
      let c = and_parts (not (among heads ts)) _ b.1 in
      let d = and_parts (same_worth (worth weight) (tree_worth worth arcs heads)) _ c.1 in
      record {
        few = ltb-true (length ts) 50 a.0;
        tree = (decides_tree n (stands arcs) heads).0 b.0;
        untaken = not_from_Decides (among heads ts) (decides_among heads ts) (not-true (among heads ts) c.0);
        weighs = worth_same (worth weight) (tree_worth worth arcs heads) d.0;
        counts = refl;
        none_heavier = λ other u o. outweighs_not (tree_worth worth arcs other) (worth weight) o (under other (others ts heads weight d.1 other u.0 u.1) (worth_same (worth weight) (tree_worth worth arcs heads) d.0));
      }
    where
      under : (other : List ℕ) → (other ≡ heads) ⊎ Outweighs (worth weight) (tree_worth worth arcs other) → worth weight ≡ tree_worth worth arcs heads → AtMost (tree_worth worth arcs other) (worth weight)
      under other (inl e) q = subst (λ (w : Worth). AtMost (tree_worth worth arcs other) w) (ap (tree_worth worth arcs) e ∙ sym q) (at_most_refl (tree_worth worth arcs other))
      under other (inr o) q = outweighs_over (worth weight) (tree_worth worth arcs other) o

  -- and no other can be
  only_one : (ts : List (List ℕ)) (heads : List ℕ) (weight : K) → hands_out ts heads weight ≡ true → (other : List ℕ) (k : K) (count : ℕ) → HandedOut worth n arcs ts other k count → other ≡ heads
  only_one ts heads weight e other k count h = by (others ts heads weight (parts e) other h.tree h.untaken) (handed_out ts heads weight e)
    where
      parts : hands_out ts heads weight ≡ true → every_tree n (stands arcs) (outdone ts heads (worth weight)) ≡ true
      parts e =
          let a = and_parts (ltb (length ts) 50) _ e in
          let b = and_parts (is_tree heads) _ a.1 in
          let c = and_parts (not (among heads ts)) _ b.1 in
          (and_parts (same_worth (worth weight) (tree_worth worth arcs heads)) _ c.1).1

      by : (other ≡ heads) ⊎ Outweighs (worth weight) (tree_worth worth arcs other) → HandedOut worth n arcs ts heads weight (suc (length ts)) → other ≡ heads
      by (inl q) g = q
      by (inr o) g = absurd (h.none_heavier heads (g.tree, g.untaken) (subst (Outweighs (tree_worth worth arcs heads)) (sym h.weighs) (subst (λ (w : Worth). Outweighs w (tree_worth worth arcs other)) g.weighs o)))

  abbrev pub first_is_tree : List (List ℕ) → Bool
  first_is_tree [] = false
  first_is_tree (t ∷ ts) = is_tree t

  abbrev pub refuses : List (List ℕ) → Refusal → Bool
  refuses ts Fifty = eqb (length ts) 50
  refuses ts NoTree = ltb (length ts) 50 && every_tree n (stands arcs) (λ t. false)
  refuses ts NoMore = ltb (length ts) 50 && (first_is_tree ts && every_tree n (stands arcs) (λ t. among t ts))
  refuses ts WordCount = false
  refuses ts ShortMemory = false
  refuses ts NoDependent = false
  refuses ts HeadAbove = false
  refuses ts SelfLoop = false
  refuses ts NoEntry = false
  refuses ts AbsentArc = false
  refuses ts ShortSpace = false
  refuses ts NotATree = false

  a_tree : (ts : List (List ℕ)) → first_is_tree ts ≡ true → (t : List ℕ) × TreeOf n arcs t
  a_tree [] e = absurd (false≢true e)
  a_tree (t ∷ ts) e = (t, (decides_tree n (stands arcs) t).0 e)

  refused : (ts : List (List ℕ)) (last : Refusal) → refuses ts last ≡ true → NoneHanded worth n arcs ts last
  refused ts Fifty e = eqb-true (length ts) 50 e
  refused ts NoTree e =
      let a = and_parts (ltb (length ts) 50) _ e in
      (ltb-true (length ts) 50 a.0, λ t tree. false≢true (at_tree n (stands arcs) (λ t. false) a.1 t tree))
  refused ts NoMore e =
      let a = and_parts (ltb (length ts) 50) _ e in
      let b = and_parts (first_is_tree ts) _ a.1 in
      (ltb-true (length ts) 50 a.0, a_tree ts b.0, λ t tree. (decides_among t ts).0 (at_tree n (stands arcs) (λ t. among t ts) b.1 t tree))
  refused ts WordCount e = false≢true e
  refused ts ShortMemory e = false≢true e
  refused ts NoDependent e = false≢true e
  refused ts HeadAbove e = false≢true e
  refused ts SelfLoop e = false≢true e
  refused ts NoEntry e = false≢true e
  refused ts AbsentArc e = false≢true e
  refused ts ShortSpace e = false≢true e
  refused ts NotATree e = false≢true e

  abbrev pub tells : List (List ℕ) → List (K × List ℕ) → Refusal → Bool
  tells ts [] last = refuses ts last
  tells ts (t ∷ trees) last = hands_out ts t.1 t.0 && tells (t.1 ∷ ts) trees last

  told : (ts : List (List ℕ)) (trees : List (K × List ℕ)) (last : Refusal) → tells ts trees last ≡ true → Told worth n arcs ts trees last
  told ts [] last e = refused ts last e
  told ts (t ∷ trees) last e =
      let a = and_parts (hands_out ts t.1 t.0) _ e in
      (handed_out ts t.1 t.0 a.0, only_one ts t.1 t.0 a.0, told (t.1 ∷ ts) trees last a.1)

-- what is computed of a line
abbrev pub Passes : {K : Type 0} → Format K → (K → Worth) → WorkedLine K → Type 0
Passes f worth line = (steps_check f line.words no_arcs line.steps ≡ None) × (tells worth line.words (arcs_of line) [] line.trees line.last ≡ true)

ranked : {K : Type 0} (f : Format K) (worth : K → Worth) (line : WorkedLine K) → Passes f worth line → TrueLine f worth line
ranked f worth line p = record { accepted = p.0; told = told worth line.words (arcs_of line) [] line.trees line.last p.1 }

-- and of a row
abbrev pub Computed : WorkedRow → Type 0
Computed (scores line) = Passes score_format score_worth line
Computed (costs line) = Passes cost_format cost_worth line
Computed (marks line) = Passes mark_format (mark_worth score_worth) line
Computed (score_file file line text) = FileOf score_format file line.words (arcs_of line) × Passes score_format score_worth line × Printed score_worth line text
Computed (no_tree heads) = tree_test (length heads) (λ h d. true) heads ≡ false

no_line : (heads : List ℕ) → tree_test (length heads) (λ h d. true) heads ≡ false → (root : ℕ) → LineTree heads root → ⊥
no_line heads e root t =
    not_from_Decides (tree_test (length heads) (λ h d. true) heads) (decides_tree (length heads) (λ h d. true) heads) e
    (record { shape = record { shape = t.shape; root = root; top = t.top }; standing = λ w word. refl })

pub right : (row : WorkedRow) → Computed row → Right row
right (scores line) e = ranked score_format score_worth line e
right (costs line) e = ranked cost_format cost_worth line e
right (marks line) e = ranked mark_format (mark_worth score_worth) line e
right (score_file file line text) e = (e.0, ranked score_format score_worth line e.1, e.2)
right (no_tree heads) e = ((refl, no_line heads e), λ space. inr (no_line heads e, refl, refl))
