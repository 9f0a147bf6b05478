-- The records of a file, put on the sheet one by one.
use Rattle.std.specs.Prelude.{◌≡◌, ℕ, zero, suc, ◌+◌, ◌*◌, ◌<◌, Bool, true, false, not, List, drop, is_ok, Some, None, Err, Option, Result, slice_index}
use Rattle.file.specs.Formats.{Format}
use Rattle.file.specs.declared.fault.RecordFault.{RecordFault}
use Rattle.refusal.specs.declared.Refusal.TheVariants.{NoDependent, SelfLoop, NoEntry}
use Rattle.refusal.specs.declared.Refusal.{Refusal}
use Rattle.sheet.specs.Arcs.{Arcs, named, no_arcs, with_arc}
use Rattle.sheet.specs.Calls.{arc_check, or_else, refuse_if}

-- where record k begins: the head's byte, then the dependent's, then the weight
abbrev pub record_place : ℕ → ℕ → ℕ
record_place width k = 5 + (width + 2) * k

-- the first byte of the field at fault, in a record that begins at a place
abbrev pub field_place : ℕ → Refusal → ℕ
field_place at NoDependent = at + 1
field_place at SelfLoop = at + 1
field_place at NoEntry = at + 2
field_place at _ = at

abbrev pub in_record : ℕ → ℕ → Refusal → RecordFault
in_record k at e = record { «record» = k; place = field_place at e; refusal = e }

abbrev pub fault_in : ℕ → ℕ → Option Refusal → Option RecordFault
fault_in k at None = None
fault_in k at (Some e) = Some (in_record k at e)

-- why the put of the record at a place is refused, if it is, on a sheet of n words
abbrev pub put_refusal : {K : Type 0} → Format K → ℕ → List ℕ → ℕ → Option Refusal
put_refusal f n file at = or_else (arc_check n (slice_index file at) (slice_index file (at + 1))) (refuse_if (not (f.entry (f.weight_at file (at + 2)))) NoEntry)

abbrev pub record_check : {K : Type 0} → Format K → ℕ → List ℕ → ℕ → Option RecordFault
record_check f n file k = fault_in k (record_place f.width k) (put_refusal f n file (record_place f.width k))

-- the arcs after the put of record k
abbrev pub put_record : {K : Type 0} → Format K → List ℕ → ℕ → Arcs K → Arcs K
put_record f file k arcs = with_arc (slice_index file (record_place f.width k)) (slice_index file (record_place f.width k + 1)) (Some (f.weight_at file (record_place f.width k + 2))) arcs

-- this fault, or else the next
abbrev pub first_of : Option RecordFault → Option RecordFault → Option RecordFault
first_of None next = next
first_of (Some e) next = Some e

-- the first fault of the records from k on, of which so many are left
abbrev pub records_check : {K : Type 0} → Format K → ℕ → List ℕ → ℕ → ℕ → Option RecordFault
records_check f n file k zero = None
records_check f n file k (suc left) = first_of (record_check f n file k) (records_check f n file (k + 1) left)

-- the arcs after the puts of the records from k on, in their order: the last put of an arc stands
abbrev pub put_records : {K : Type 0} → Format K → List ℕ → ℕ → ℕ → Arcs K → Arcs K
put_records f file k zero arcs = arcs
put_records f file k (suc left) arcs = put_records f file (k + 1) left (put_record f file k arcs)

-- record k names the arc from h to d
abbrev pub names : {K : Type 0} → Format K → List ℕ → ℕ → ℕ → ℕ → Bool
names f file k h d = named (slice_index file (record_place f.width k)) (slice_index file (record_place f.width k + 1)) h d

-- after all puts an arc stands with the weight of the last record that names it, and is absent where none does
pub record LastStands {K : Type 0} (f : Format K) : Type 0 where
  pub last :
      (file : List ℕ) (count j h d : ℕ) → j < count → names f file j h d ≡ true → ((i : ℕ) → j < i → i < count → names f file i h d ≡ false) → put_records f file 0 count no_arcs h d ≡ Some (f.weight_at file (record_place f.width j + 2))
  pub absent : (file : List ℕ) (count h d : ℕ) → ((i : ℕ) → i < count → names f file i h d ≡ false) → put_records f file 0 count no_arcs h d ≡ None

-- the call is refused with that fault, or it is done
abbrev pub Judged : {T E : Type 0} → Option E → Result T E → (refused done : Type 0) → Type 0
Judged (Some e) r refused done = (r ≡ Err e) × refused
Judged None r refused done = (is_ok r ≡ true) × done

-- beyond the listed length for n words the memory is as it was
pub record KeptBeyond {K : Type 0} (n : ℕ) (weights weights' : List K) (sets sets' : List ℕ) : Type 0 where
  pub weights_beyond : drop (n * (n + 1)) weights' ≡ drop (n * (n + 1)) weights
  pub sets_beyond : drop n sets' ≡ drop n sets
