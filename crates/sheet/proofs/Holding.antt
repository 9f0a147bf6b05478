-- The weights of the arcs that a sheet's memory holds stay entries.
use Rattle.std.proofs.Common.{◌≡◌, ℕ, Bool, true, false, cond, List, Some, None, Option, ap, ◌∙◌}
use Rattle.sheet.specs.Arcs.{Arcs, arcs_in, HoldsArcs, named, no_arcs, with_arc}
use Rattle.sheet.specs.Calls.{Holds}
use Rattle.weight.specs.Range.{Range, entry_in}
use Rattle.weight.specs.Worth.{Worth}

-- an arc that the changed one is not is as it was
other_arc : {K : Type 0} (h d : ℕ) (w : Option K) (a b : Arcs K) → ((h d : ℕ) → a h d ≡ b h d) → (h' d' : ℕ) → with_arc h d w a h' d' ≡ with_arc h d w b h' d'
other_arc h d w a b same h' d' = ap (cond (named h d h' d') w) (same h' d')

module _ {K : Type 0} (worth : K → Worth) (ranges : List Range) (n : ℕ) (weights weights' : List K) (sets sets' : List ℕ) where
  -- where no arc stands
  pub none_held : Holds n no_arcs weights weights' sets sets' → HoldsArcs worth ranges n weights' sets' no_arcs
  none_held new = record { standing = new.standing; entries = λ h d k e. cc }

  -- one arc was changed, to an entry if to a weight
  pub one_held :
      (h d : ℕ) (w : Option K) → ((k : K) → w ≡ Some k → entry_in ranges (worth k) ≡ true) → Holds n (with_arc h d w (arcs_in n weights sets)) weights weights' sets sets' →
      (arcs : Arcs K) → HoldsArcs worth ranges n weights sets arcs → HoldsArcs worth ranges n weights' sets' (with_arc h d w arcs)
  one_held h d w entry new arcs old = record {
    standing = λ h' d'. new.standing h' d' ∙ other_arc h d w (arcs_in n weights sets) arcs old.standing h' d';
    entries = λ h' d' k e. by h' d' k (named h d h' d') e;
  }
    where
      by : (h' d' : ℕ) (k : K) (b : Bool) → cond b w (arcs h' d') ≡ Some k → entry_in ranges (worth k) ≡ true
      by h' d' k true e = entry k e
      by h' d' k false e = old.entries h' d' k e

  pub put_held :
      (h d : ℕ) (k : K) → entry_in ranges (worth k) ≡ true → Holds n (with_arc h d (Some k) (arcs_in n weights sets)) weights weights' sets sets' →
      (arcs : Arcs K) → HoldsArcs worth ranges n weights sets arcs → HoldsArcs worth ranges n weights' sets' (with_arc h d (Some k) arcs)
  put_held h d k entry new = one_held h d (Some k) (λ v e. let s : v ≡ k = cc in rw s entry) new

  pub strike_held :
      (h d : ℕ) → Holds n (with_arc h d None (arcs_in n weights sets)) weights weights' sets sets' →
      (arcs : Arcs K) → HoldsArcs worth ranges n weights sets arcs → HoldsArcs worth ranges n weights' sets' (with_arc h d None arcs)
  strike_held h d new = one_held h d None (λ k e. cc) new
