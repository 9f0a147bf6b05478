-- A file settles its text.
use Rattle.std.proofs.Common.{◌≡◌, ℕ, suc, ◌<◌, ◌≤◌, ◌⊎◌, inl, inr, List, [], ◌∷◌, ◌++◌, length, Ok, Err, Result, refl, sym, ap, ◌∙◌, subst, arith}
use Rattle.lines.specs.Ends.{end_number}
use Rattle.lines.specs.Lines.{last_text}
use Rattle.lines.specs.declared.Last.TheVariants.{NoTree, NoMore, Fifty}
use Rattle.lines.specs.declared.Last.{Last}
use Rattle.file.specs.declared.fault.FileFault.{FileFault}
use Rattle.file.specs.declared.fault.FileKind.TheVariants.{Score, Cost, Mark}
use Rattle.file.specs.declared.fault.FileKind.{FileKind}
use Rattle.file.specs.Formats.{score_format, cost_format, mark_format}
use Rattle.file.specs.Frame.{kind_of}
use Rattle.filing.specs.Outcomes.{file_says}
use Rattle.penrank.specs.Files.{TextOf, TextByKind, OneText}
use Rattle.penrank.specs.Rankings.{HandedInTurn, RankingText, tree_lines}
use Rattle.ranking.proofs.Settling.{settled}
use Rattle.ranking.specs.Order.{SameWorths}
use Rattle.ranking.specs.Takes.{NoneHanded, Tells}
use Rattle.refusal.specs.Refusals.{number_of}
use Rattle.refusal.specs.declared.Refusal.{Refusal}
use Rattle.sheet.specs.Arcs.{Arcs}
use Rattle.std.proofs.lemmas.Bool.{cases_lt}
use Rattle.weight.specs.Layers.{mark_worth}
use Rattle.weight.specs.Numbers.{score_worth, cost_worth}
use Rattle.weight.specs.Worth.{Worth}

one_last : (a b : Last) → end_number a ≡ end_number b → a ≡ b
one_last NoTree NoTree e = refl
one_last NoMore NoMore e = refl
one_last Fifty Fifty e = refl
one_last NoTree NoMore e = absurd (omega arith)
one_last NoTree Fifty e = absurd (omega arith)
one_last NoMore NoTree e = absurd (omega arith)
one_last NoMore Fifty e = absurd (omega arith)
one_last Fifty NoTree e = absurd (omega arith)
one_last Fifty NoMore e = absurd (omega arith)

module _ {K : Type 0} (worth : K → Worth) (n : ℕ) (arcs : Arcs K) where
  same : SameWorths worth arcs arcs
  same = record { stand = λ h d. refl; weigh = λ h d. refl }

  -- as many trees are the same trees
  one_ranking : (ts us : List (List ℕ)) → HandedInTurn worth n arcs ts → HandedInTurn worth n arcs us → length ts ≡ length us → ts ≡ us
  one_ranking [] [] h k e = refl
  one_ranking [] (u ∷ us) h k e = absurd (omega arith)
  one_ranking (t ∷ ts) [] h k e = absurd (omega arith)
  one_ranking (t ∷ ts) (u ∷ us) h k e =
      let rest : ts ≡ us = one_ranking ts us h.1 k.1 (omega arith) in
      let told : Tells worth n arcs ts u (Ok k.0.0) = subst (λ (l : List (List ℕ)). Tells worth n arcs l u (Ok k.0.0)) (sym rest) k.0.1 in
      let first : t ≡ u = (settled worth n arcs arcs same ts t u (Ok h.0.0) (Ok k.0.0) h.0.1 told).0 in
      ap (λ x. x ∷ ts) first ∙ ap (λ l. u ∷ l) rest

  -- where a take is refused, no more trees were handed out otherwise
  no_longer : (ts us : List (List ℕ)) (why : Refusal) → HandedInTurn worth n arcs ts → NoneHanded worth n arcs ts why → HandedInTurn worth n arcs us → length us ≤ length ts
  no_longer ts [] why h none k = omega arith
  no_longer ts (u ∷ us) why h none k = by (cases_lt (length us) (length ts)) (no_longer ts us why h none k.1)
    where
      by : (length us < length ts) ⊎ (length ts ≤ length us) → length us ≤ length ts → suc (length us) ≤ length ts
      by (inl lt) few = omega arith
      by (inr le) few =
          let rest : us ≡ ts = one_ranking us ts k.1 h (omega arith) in
          let told : Tells worth n arcs ts u (Ok k.0.0) = subst (λ (l : List (List ℕ)). Tells worth n arcs l u (Ok k.0.0)) rest k.0.1 in
          absurd (settled worth n arcs arcs same ts u u (Ok k.0.0) (Err why) told none)

  one_text : (text text' : List ℕ) → RankingText worth n arcs text → RankingText worth n arcs text' → text ≡ text'
  one_text text text' r s =
      let few = no_longer r.trees s.trees r.why r.handed r.none s.handed in
      let many = no_longer s.trees r.trees s.why s.handed s.none r.handed in
      let trees : r.trees ≡ s.trees = one_ranking r.trees s.trees r.handed s.handed (omega arith) in
      let none : NoneHanded worth n arcs r.trees s.why = subst (λ (l : List (List ℕ)). NoneHanded worth n arcs l s.why) (sym trees) s.none in
      let why : r.why ≡ s.why = settled worth n arcs arcs same r.trees [] [] (Err r.why) (Err s.why) r.none none in
      let last : r.end ≡ s.end = one_last r.end s.end (r.told ∙ ap number_of why ∙ sym s.told) in
      r.lines ∙ ap (λ (l : List (List ℕ)). tree_lines worth n arcs l ++ last_text r.end) trees ∙ ap (λ l. tree_lines worth n arcs s.trees ++ last_text l) last ∙ sym s.lines

one_of : {K : Type 0} (worth : K → Worth) (said : Result (ℕ × Arcs K) FileFault) (text text' : List ℕ) → TextOf worth said text → TextOf worth said text' → text ≡ text'
one_of worth (Err e) text text' r s = r ∙ sym s
one_of worth (Ok said) text text' r s = one_text worth said.0 said.1 text text' r s

pub one_file_text : OneText
one_file_text file text text' r s = by (kind_of file) r s
  where
    by : (kind : Result FileKind FileFault) → TextByKind file kind text → TextByKind file kind text' → text ≡ text'
    by (Err e) r s = r ∙ sym s
    by (Ok Score) r s = one_of score_worth (file_says score_format file) text text' r s
    by (Ok Cost) r s = one_of cost_worth (file_says cost_format file) text text' r s
    by (Ok Mark) r s = one_of (mark_worth score_worth) (file_says mark_format file) text text' r s
