-- The lines of a ranking: a line for each tree that a take hands out, and in the end the one that tells why no take hands out another.
use Rattle.std.specs.Prelude.{◌≡◌, ℕ, suc, List, [], ◌∷◌, ◌++◌, length, Ok}
use Rattle.lines.specs.Ends.{ToldEnd}
use Rattle.lines.specs.Lines.{tree_text, last_text}
use Rattle.lines.specs.declared.Last.{Last}
use Rattle.ranking.specs.Takes.{Tells, NoneHanded}
use Rattle.ranking.specs.Trees.{tree_worth}
use Rattle.ranking.specs.declared.state.Taken.{Taken}
use Rattle.refusal.specs.declared.Refusal.{Refusal}
use Rattle.sheet.specs.Arcs.{Arcs}
use Rattle.weight.specs.Worth.{Worth}

module _ {K : Type 0} (worth : K → Worth) (n : ℕ) (arcs : Arcs K) where
  -- the trees of a ranking, the latest first: each is what a take tells after those before it
  abbrev pub HandedInTurn : List (List ℕ) → Type 0
  HandedInTurn [] = Unit {0}
  HandedInTurn (t ∷ ts) = ((taken : Taken K) × Tells worth n arcs ts t (Ok taken)) × HandedInTurn ts

  -- their lines, the latest tree's last: its number, what it weighs, and its heads
  abbrev pub tree_lines : List (List ℕ) → List ℕ
  tree_lines [] = []
  tree_lines (t ∷ ts) = tree_lines ts ++ tree_text (suc (length ts)) (tree_worth worth arcs t) t

  -- the text tells the whole ranking of these arcs
  pub record RankingText (text : List ℕ) : Type 0 where
    pub trees : List (List ℕ)
    pub handed : HandedInTurn trees
    pub why : Refusal
    pub none : NoneHanded worth n arcs trees why
    pub end : Last
    pub told : ToldEnd why (Ok end)
    pub lines : text ≡ tree_lines trees ++ last_text end
