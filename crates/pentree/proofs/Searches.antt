-- A search of the arcs that the memory holds.
use Rattle.std.proofs.Common.{◌≡◌, ℕ, ◌+◌, ◌-◌, ◌*◌, ◌≤◌, true, List, [], length, get_or, Option, None, Some, Ok, sym, ap, ◌∙◌, subst, arith}
use Rattle.arborescence.specs.Heads.{TreeOver}
use Rattle.pentree.specs.Texts.{ChosenTree, score_ranges}
use Rattle.ranking.proofs.Sheets.{in_sets, entries_are, tree_worth_is, worth_is}
use Rattle.ranking.specs.Trees.{stands, arc_worth}
use Rattle.search.proofs.Found.{over_like}
use Rattle.search.specs.Answer.{TreeTold}
use Rattle.search.specs.Arcs.{allowed, weight_at, Entries}
use Rattle.search.specs.Choice.{Finds, Settles}
use Rattle.sheet.specs.Arcs.{Arcs, HoldsArcs}
use Rattle.std.proofs.lemmas.Bool.{lt-ltb}
use Rattle.std.proofs.Math.Bool.{and-true}
use Rattle.tree.specs.Chains.{Word}
use Rattle.weight.specs.Numbers.{Score, score_worth}
use Rattle.weight.specs.Range.{Range}
use Rattle.weight.specs.Worth.{Worth, Outweighs}
use Rattle.word_set.specs.Bits.{in_set}

module _
    {K : Type 0} (worth : K → Worth) (ranges : List Range) (n : ℕ) (weights : List K) (sets : List ℕ) (arcs : Arcs K) (room : n * (n + 1) ≤ length weights)
    (holds : HoldsArcs worth ranges n weights sets arcs)
  where
    -- with no word held
    same : (h d : ℕ) → Word n d → h ≤ n → allowed sets [] h d ≡ stands arcs h d
    same h d v le = rw (lt-ltb 0 d (omega (arith, v.0)), and-true (in_set (get_or sets (d - 1) 0) h)) (in_sets worth ranges n weights sets arcs room holds h d v le)

    back : (t : List ℕ) → TreeOver n (stands arcs) t → TreeOver n (allowed sets []) t
    back = over_like n (stands arcs) (allowed sets []) (λ h d v le. sym (same h d v le))

    there : (t : List ℕ) → TreeOver n (allowed sets []) t → TreeOver n (stands arcs) t
    there = over_like n (allowed sets []) (stands arcs) same

    entries : Entries n (allowed sets []) ranges (weight_at worth n weights)
    entries = entries_are worth ranges n weights sets arcs room holds (allowed sets []) (λ h d v le up. sym (same h d v le) ∙ up)

    told_held : (heads : List ℕ) (found : Option K) → TreeTold worth n (allowed sets []) (weight_at worth n weights) heads found → TreeTold worth n (stands arcs) (arc_worth worth arcs) heads found
    told_held heads None none = λ t is. none t (back t is)
    told_held heads (Some w) best = record {
      tree = there heads best.tree;
      weighs = best.weighs ∙ tree_worth_is worth ranges n weights sets arcs room holds heads (there heads best.tree);
      none_heavier = λ t is more. best.none_heavier t (back t is) (subst (λ (x : Worth). Outweighs x (worth w)) (sym (tree_worth_is worth ranges n weights sets arcs room holds t is)) more);
    }

    -- what a search of the memory tells is true of the arcs
    pub told_of : (heads : List ℕ) (found : Option K) → (Entries n (allowed sets []) ranges (weight_at worth n weights) → TreeTold worth n (allowed sets []) (weight_at worth n weights) heads found) →
        TreeTold worth n (stands arcs) (arc_worth worth arcs) heads found
    told_of heads found told = told_held heads found (told entries)

    -- and its choices are those among the arcs
    pub found_of : (heads : List ℕ) (weight : K) → Settles ranges n (allowed sets []) (weight_at worth n weights) heads (Ok (Some weight)) → Finds n (stands arcs) (arc_worth worth arcs) heads
    found_of heads weight settles =
        let f = settles entries in
        let arc : (h d : ℕ) → Word n d → h ≤ n → allowed sets [] h d ≡ true → weight_at worth n weights h d ≡ arc_worth worth arcs h d =
        λ h d v le up. worth_is worth ranges n weights sets arcs room holds h d v le (sym (same h d v le) ∙ up) in
        record {
          places = f.places;
          sized = λ h d v le up. ap length (sym (arc h d v le (same h d v le ∙ up))) ∙ f.sized h d v le (same h d v le ∙ up);
          searched = f.searched;
          weighed = f.weighed;
          same = record {
            stand = λ h d v le. f.same.stand h d v le ∙ same h d v le;
            weigh = λ h d v le up. f.same.weigh h d v le up ∙ arc h d v le (sym (f.same.stand h d v le) ∙ up);
          };
          chosen = f.chosen;
        }

pub chosen_of : (n : ℕ) (weights : List Score) (sets : List ℕ) (arcs : Arcs Score) → n * (n + 1) ≤ length weights → HoldsArcs score_worth score_ranges n weights sets arcs → (heads : List ℕ) (found : Option Score) →
    Settles score_ranges n (allowed sets []) (weight_at score_worth n weights) heads (Ok found) → ChosenTree n arcs heads found
chosen_of n weights sets arcs room holds heads None settles = tt
chosen_of n weights sets arcs room holds heads (Some weight) settles = found_of score_worth score_ranges n weights sets arcs room holds heads weight settles
