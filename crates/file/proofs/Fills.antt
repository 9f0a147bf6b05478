-- From the opening to the records.
use Rattle.std.proofs.Common.{◌≡◌, ℕ, List, Some, None, Ok, Err, Option, refl, ◌∙◌, subst}
use Rattle.file.proofs.Steps.{same_puts}
use Rattle.file.specs.Formats.{Format}
use Rattle.file.specs.Records.{put_records}
use Rattle.refusal.specs.declared.Refusal.{Refusal}
use Rattle.sheet.specs.Arcs.{arcs_in, no_arcs}
use Rattle.sheet.specs.Calls.{Answered, Holds}

-- an opening that made a sheet passed every check
pub opened : {T : Type 0} (U D : Type 0) (q : Option Refusal) (s : T) → Answered q (Ok s) U D → (q ≡ None) × D
opened U D (Some e) s h = ((cc (h.0)), (cc (h.0)))
opened U D None s h = (refl, h.1)

-- and one that was refused failed that check
pub refused : (T U D : Type 0) (q : Option Refusal) (e : Refusal) → Answered {T = T} q (Err e) U D → (q ≡ Some e) × U
refused T U D (Some e') e h = ((cc (h.0)), h.1)
refused T U D None e h = ((cc (h.0)), (cc (h.0)))

-- the records put on a fresh sheet
pub from_fresh :
    {K : Type 0} (f : Format K) (n m count : ℕ) (file : List ℕ) (weights weights'' : List K) (sets sets' sets'' : List ℕ) → m ≡ n → Holds n no_arcs weights weights sets sets' → Holds m (put_records f file 0 count (arcs_in m weights sets')) weights weights'' sets' sets'' → Holds n (put_records f file 0 count no_arcs) weights weights'' sets sets''
from_fresh f n m count file weights weights'' sets sets' sets'' same fresh at_m =
    let holds = subst (λ (k : ℕ). Holds k (put_records f file 0 count (arcs_in k weights sets')) weights weights'' sets' sets'') same at_m in
    record {
      standing = λ h d. holds.standing h d ∙ same_puts f file 0 count (arcs_in n weights sets') no_arcs fresh.standing h d;
      weights_beyond = holds.weights_beyond;
      sets_beyond = holds.sets_beyond ∙ fresh.sets_beyond;
    }
