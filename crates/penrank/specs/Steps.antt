-- What the steps of a ranking write.
use Rattle.std.specs.Prelude.{ℕ, suc, true, false, Bool, List, ◌∷◌, length, Ok, Option}
use Rattle.lines.specs.Ends.{ToldEnd}
use Rattle.lines.specs.Lines.{tree_text, last_text}
use Rattle.lines.specs.declared.Last.{Last}
use Rattle.penrank.specs.Rankings.{HandedInTurn, tree_lines}
use Rattle.ranking.specs.Memory.{MemoryParts, StandsFor}
use Rattle.ranking.specs.Takes.{Tells, NoneHanded}
use Rattle.ranking.specs.Trees.{tree_worth}
use Rattle.ranking.specs.declared.state.Ranking.{Ranking}
use Rattle.ranking.specs.declared.state.Taken.{Taken}
use Rattle.refusal.specs.declared.Refusal.{Refusal}
use Rattle.sheet.specs.Arcs.{Arcs}
use Rattle.std.specs.Io.KnownBytes.{Appends}
use Rattle.weight.specs.Range.{Range}
use Rattle.weight.specs.Worth.{Worth}

module _ {K : Type 0} (worth : K → Worth) (ranges : List Range) (n : ℕ) (arcs : Arcs K) (ts : List (List ℕ)) where
  -- the line of the next tree, for which the ranking stands then
  pub record TreeWritten (ranking : Ranking K) (memory : MemoryParts K) (before after : Option (List ℕ)) : Type 0 where
    pub tree : List ℕ
    pub taken : Taken K
    pub told : Tells worth n arcs ts tree (Ok taken)
    pub stands : StandsFor worth ranges ranking memory arcs (tree ∷ ts)
    pub written : Appends before after (tree_text (suc (length ts)) (tree_worth worth arcs tree) tree)

  -- the last line, which tells why there is no next tree
  pub record LastWritten (before after : Option (List ℕ)) : Type 0 where
    pub why : Refusal
    pub none : NoneHanded worth n arcs ts why
    pub end : Last
    pub told : ToldEnd why (Ok end)
    pub written : Appends before after (last_text end)

  -- what one take writes: whether it handed out a tree
  abbrev pub LineWritten : Ranking K → MemoryParts K → Bool → (before after : Option (List ℕ)) → Type 0
  LineWritten ranking memory true before after = TreeWritten ranking memory before after
  LineWritten ranking memory false before after = LastWritten before after

-- the ranking stands for the trees that it handed out, and their lines are written
pub record LinesSoFar {K : Type 0} (worth : K → Worth) (ranges : List Range) (n : ℕ) (arcs : Arcs K) (ranking : Ranking K) (memory : MemoryParts K) (before after : Option (List ℕ)) : Type 0 where
  pub trees : List (List ℕ)
  pub stands : StandsFor worth ranges ranking memory arcs trees
  pub handed : HandedInTurn worth n arcs trees
  pub written : Appends before after (tree_lines worth n arcs trees)
