-- From one line to the next.
use Rattle.std.proofs.Common.{◌≡◌, ◌≢◌, ℕ, ◌-◌, ◌<◌, List, [], ◌∷◌, ◌++◌, Bool, true, false, Ok, Err, Option, Result, IsOk, refl, subst, arith}
use Rattle.console.specs.Answers.{Writes}
use Rattle.lines.specs.Ends.{ToldEnd, end_number}
use Rattle.lines.specs.Lines.{tree_text, last_text}
use Rattle.lines.specs.declared.Last.TheVariants.{NoTree as NoTreeLast, NoMore as NoMoreLast, Fifty as FiftyLast}
use Rattle.lines.specs.declared.Last.{Last}
use Rattle.penrank.specs.Rankings.{RankingText, tree_lines}
use Rattle.penrank.specs.Steps.{TreeWritten, LastWritten, LineWritten, LinesSoFar}
use Rattle.ranking.specs.Calls.{after_take}
use Rattle.ranking.specs.Memory.{MemoryParts, StandsFor}
use Rattle.ranking.specs.Takes.{Tells, NoneHanded}
use Rattle.ranking.specs.Trees.{tree_worth}
use Rattle.ranking.specs.declared.state.Ranking.{Ranking}
use Rattle.ranking.specs.declared.state.Taken.{Taken}
use Rattle.refusal.specs.Refusals.{number_of}
use Rattle.refusal.specs.declared.Refusal.TheVariants.{NoTree, NoMore, Fifty}
use Rattle.refusal.specs.declared.Refusal.{Refusal}
use Rattle.sheet.specs.Arcs.{Arcs}
use Rattle.std.proofs.KnownBytes.{Appends-nil, Appends-trans}
use Rattle.std.specs.Io.KnownBytes.{Appends}
use Rattle.weight.specs.Range.{Range}
use Rattle.weight.specs.Worth.{Worth}

module _ {K : Type 0} (worth : K → Worth) (ranges : List Range) (n : ℕ) (arcs : Arcs K) where
  -- a refusal of a take tells an end
  pub tells_end : (ts : List (List ℕ)) (r : Result (Taken K) Refusal) (heads : List ℕ) (why : Refusal) (told : Result Last Refusal) → r ≡ Err why → Tells worth n arcs ts heads r → ToldEnd why told → IsOk told
  tells_end ts r heads why (Ok last) e tells is = refl
  tells_end ts r heads why (Err back) e tells is = absurd (by why (subst (Tells worth n arcs ts heads) e tells) is.0)
    where
      by : (why : Refusal) → NoneHanded worth n arcs ts why → ((last : Last) → end_number last ≢ number_of why) → ⊥
      by Fifty none other = other FiftyLast refl
      by NoTree none other = other NoTreeLast refl
      by NoMore none other = other NoMoreLast refl
      by _ none other = none

  -- the line of the tree that a take handed out
  pub tree_written : (ts : List (List ℕ)) (ranking : Ranking K) (memory : MemoryParts K) (before after : Option (List ℕ)) (tree : List ℕ) (r : Result (Taken K) Refusal) (taken : Taken K)
      → r ≡ Ok taken → Tells worth n arcs ts tree r → StandsFor worth ranges ranking memory arcs (after_take tree r ts) → Appends before after (tree_text taken.count (worth taken.weight) tree)
      → TreeWritten worth ranges n arcs ts ranking memory before after
  tree_written ts ranking memory before after tree r taken e tells stands put =
      let told : Tells worth n arcs ts tree (Ok taken) = subst (Tells worth n arcs ts tree) e tells in
      record {
        tree = tree;
        taken = taken;
        told = told;
        stands = subst (λ (x : Result (Taken K) Refusal). StandsFor worth ranges ranking memory arcs (after_take tree x ts)) e stands;
        written = subst (λ (c : ℕ). Appends before after (tree_text c (tree_worth worth arcs tree) tree)) told.0.counts (subst (λ (w : Worth). Appends before after (tree_text taken.count w tree)) told.0.weighs put);
      }

  -- the last line
  pub last_written : (ts : List (List ℕ)) (before after : Option (List ℕ)) (heads : List ℕ) (r : Result (Taken K) Refusal) (why : Refusal) (told : Result Last Refusal) (end : Last)
      → r ≡ Err why → Tells worth n arcs ts heads r → told ≡ Ok end → ToldEnd why told → Appends before after (last_text end)
      → LastWritten worth ranges n arcs ts before after
  last_written ts before after heads r why told end e tells is end-told put =
      record { why = why; none = subst (Tells worth n arcs ts heads) e tells; end = end; told = subst (ToldEnd why) is end-told; written = put }

  -- no line yet
  pub begun : (ranking : Ranking K) (memory : MemoryParts K) (before : Option (List ℕ)) → StandsFor worth ranges ranking memory arcs [] → LinesSoFar worth ranges n arcs ranking memory before before
  begun ranking memory before stands = record { trees = []; stands = stands; handed = tt; written = Appends-nil before }

  -- what a take wrote, by the number of words and by whether it handed out a tree
  line_by : (ts : List (List ℕ)) (ranking : Ranking K) (memory : MemoryParts K) (before after : Option (List ℕ)) (words : ℕ) (handed known : Bool) → words ≡ n → handed ≡ known
      → LineWritten worth ranges words arcs ts ranking memory handed before after → LineWritten worth ranges n arcs ts ranking memory known before after
  line_by ts ranking memory before after words handed known is told line =
      subst (λ (b : Bool). LineWritten worth ranges n arcs ts ranking memory b before after) told (subst (λ (k : ℕ). LineWritten worth ranges k arcs ts ranking memory handed before after) is line)

  -- one line more
  more : (ranking ranking' : Ranking K) (memory memory' : MemoryParts K) (before middle after : Option (List ℕ)) (so : LinesSoFar worth ranges n arcs ranking memory before middle) → TreeWritten worth ranges n arcs so.trees ranking' memory' middle after
      → LinesSoFar worth ranges n arcs ranking' memory' before after × (50 - ranking'.taken < 50 - ranking.taken)
  more ranking ranking' memory memory' before middle after so next = (
    record {
      trees = next.tree ∷ so.trees;
      stands = next.stands;
      handed = ((next.taken, next.told), so.handed);
      written = Appends-trans before middle after _ _ so.written next.written;
    },
    omega (arith, next.told.0.few, so.stands.counted, next.stands.counted),
  )

  pub more_by : (ranking ranking' : Ranking K) (memory memory' : MemoryParts K) (before middle after : Option (List ℕ)) (words : ℕ) (handed : Bool) (so : LinesSoFar worth ranges n arcs ranking memory before middle) → words ≡ n → handed ≡ true
      → LineWritten worth ranges words arcs so.trees ranking' memory' handed middle after → LinesSoFar worth ranges n arcs ranking' memory' before after × (50 - ranking'.taken < 50 - ranking.taken)
  more_by ranking ranking' memory memory' before middle after words handed so is told line =
      more ranking ranking' memory memory' before middle after so (line_by so.trees ranking' memory' middle after words handed true is told line)

  -- the whole text
  ended : (ranking : Ranking K) (memory : MemoryParts K) (before middle after : Option (List ℕ)) (so : LinesSoFar worth ranges n arcs ranking memory before middle) → LastWritten worth ranges n arcs so.trees middle after → Writes before after (RankingText worth n arcs)
  ended ranking memory before middle after so last = (
    tree_lines worth n arcs so.trees ++ last_text last.end,
    record { trees = so.trees; handed = so.handed; why = last.why; none = last.none; end = last.end; told = last.told; lines = refl },
    Appends-trans before middle after _ _ so.written last.written,
  )

  pub ended_by : (ranking ranking' : Ranking K) (memory memory' : MemoryParts K) (before middle after : Option (List ℕ)) (words : ℕ) (handed : Bool) (so : LinesSoFar worth ranges n arcs ranking memory before middle) → words ≡ n → handed ≡ false
      → LineWritten worth ranges words arcs so.trees ranking' memory' handed middle after → Writes before after (RankingText worth n arcs)
  ended_by ranking ranking' memory memory' before middle after words handed so is told line =
      ended ranking memory before middle after so (line_by so.trees ranking' memory' middle after words handed false is told line)
