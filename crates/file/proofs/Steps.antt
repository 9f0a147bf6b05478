-- Steps through the records of a file.
use Rattle.std.proofs.Common.{◌≡◌, ℕ, zero, suc, ◌+◌, ◌-◌, ◌<◌, cond, List, get_or, Some, None, Ok, Err, Option, Result, sym, refl, ap, ◌∙◌, subst, arith}
use Rattle.file.specs.Formats.{Format}
use Rattle.file.specs.Records.{first_of, KeptBeyond, put_record, put_records, record_check, record_place, records_check, Judged}
use Rattle.file.specs.declared.fault.RecordFault.{RecordFault}
use Rattle.sheet.specs.Arcs.{Arcs, arcs_in, named}
use Rattle.sheet.specs.Calls.{Holds}

fewer : (k count : ℕ) → k < count → count - k ≡ suc (count - (k + 1))
fewer k count h = omega arith

-- the same arcs before give the same arcs after
pub same_puts : {K : Type 0} (f : Format K) (file : List ℕ) (k left : ℕ) (a b : Arcs K) → ((h d : ℕ) → a h d ≡ b h d) → (h d : ℕ) → put_records f file k left a h d ≡ put_records f file k left b h d
same_puts f file k zero a b same h d = same h d
same_puts f file k (suc left) a b same h d =
    same_puts f file (k + 1) left (put_record f file k a) (put_record f file k b)
    (λ head dependent. ap (cond (named (get_or file (record_place f.width k) 0) (get_or file (record_place f.width k + 1) 0) head dependent) (Some (f.weight_at file (record_place f.width k + 2)))) (same head dependent))
    h d

-- ---- a call that told whether it was refused

pub made : {E T : Type 0} (U D : Type 0) (q : Option E) (x : T) → Judged q (Ok x) U D → (q ≡ None) × D
made U D (Some e) x h = ((cc (h.0)), (cc (h.0)))
made U D None x h = (refl, h.1)

pub not_made : {E : Type 0} (T U D : Type 0) (q : Option E) (e : E) → Judged {T = T} q (Err e) U D → (q ≡ Some e) × U
not_made T U D (Some e') e h = ((cc (h.0)), h.1)
not_made T U D None e h = ((cc (h.0)), (cc (h.0)))

-- ---- the records that are left

-- what the records from k on give, in the memory as it is now, is what all give in the memory as it was
pub record Left {K : Type 0} (f : Format K) (n : ℕ) (file : List ℕ) (count k : ℕ) (weights weights' : List K) (sets sets' : List ℕ) : Type 0 where
  pub check : records_check f n file k (count - k) ≡ records_check f n file 0 count
  pub puts : (h d : ℕ) → put_records f file k (count - k) (arcs_in n weights' sets') h d ≡ put_records f file 0 count (arcs_in n weights sets) h d
  pub beyond : KeptBeyond n weights weights' sets sets'

module _
    {K : Type 0} (f : Format K) (n : ℕ) (file : List ℕ) (count k : ℕ) (weights weights' : List K) (sets sets' : List ℕ) (left : Left f n file count k weights weights' sets sets')
    (more : k < count) (weights'' : List K) (sets'' : List ℕ)
  where
    abbrev Record : Result (Unit {0}) RecordFault → Type 0
    Record r = Judged (record_check f n file k) r ((weights'' ≡ weights') × (sets'' ≡ sets')) (Holds n (put_record f file k (arcs_in n weights' sets')) weights' weights'' sets' sets'')

    -- the first fault of all records is that of record k, or else that of those behind it
    first : (q : Option RecordFault) → record_check f n file k ≡ q → first_of q (records_check f n file (k + 1) (count - (k + 1))) ≡ records_check f n file 0 count
    first q same = sym (ap (records_check f n file k) (fewer k count more) ∙ ap (λ r. first_of r (records_check f n file (k + 1) (count - (k + 1)))) same) ∙ left.check

    pub left_more : (done : Unit {0}) → Record (Ok done) → Left f n file count (k + 1) weights weights'' sets sets''
    left_more done told =
        let p = made _ _ (record_check f n file k) done told in
        record {
          check = first None p.0;
          puts = λ h d.
              same_puts f file (k + 1) (count - (k + 1)) (arcs_in n weights'' sets'') (put_record f file k (arcs_in n weights' sets')) p.1.standing h d
              ∙ sym (ap (λ left. put_records f file k left (arcs_in n weights' sets') h d) (fewer k count more))
              ∙ left.puts h d;
          beyond = record { weights_beyond = p.1.weights_beyond ∙ left.beyond.weights_beyond; sets_beyond = p.1.sets_beyond ∙ left.beyond.sets_beyond };
        }

    pub left_refused : (D : Type 0) (r : Result (Unit {0}) RecordFault) (e : RecordFault) → Record (Err e) → r ≡ Err e → Judged (records_check f n file 0 count) r (KeptBeyond n weights weights'' sets sets'') D
    left_refused D r e told answer =
        let p = not_made _ _ _ (record_check f n file k) e told in
        let kept : KeptBeyond n weights weights'' sets sets'' = rw (p.1.0, p.1.1) left.beyond in
        subst (λ q. Judged {T = Unit {0}} q r (KeptBeyond n weights weights'' sets sets'') D) (first (Some e) p.0) (answer, kept)
