-- A file's reading and a take, each by what its public contract says.
use Rattle.std.proofs.Common.{◌≡◌, ℕ, false, List, [], length, replicate, OnErr, Some, None, Ok, Err, Option, Result, sym, refl, ap, ◌∙◌, subst, arith, take, drop}
use Rattle.by_contract.proofs.Composed.{no_heads, passed}
use Rattle.by_contract.specs.Law.{arcs_of_file, OfFile}
use Rattle.by_contract.specs.declared.FirstTaken.{FirstTaken}
use Rattle.file.specs.Formats.{Format}
use Rattle.file.specs.Reading.{frame_words, FrameRead, OpeningRead, ReadAs, record_count, RecordsRead}
use Rattle.file.specs.Records.{records_check}
use Rattle.file.specs.declared.fault.FileFault.{FileFault}
use Rattle.file.specs.declared.fault.RecordFault.{RecordFault}
use Rattle.ranking.specs.Calls.{Took}
use Rattle.ranking.specs.Calls.{part_lengths}
use Rattle.ranking.specs.Memory.{MemoryParts, StandsFor}
use Rattle.ranking.specs.Takes.{Tells}
use Rattle.ranking.specs.declared.state.Ranking.{Ranking}
use Rattle.refusal.specs.declared.Refusal.TheVariants.{WordCount, ShortMemory}
use Rattle.refusal.specs.declared.Refusal.{Refusal}
use Rattle.sheet.specs.Arcs.{Arcs, HoldsArcs}
use Rattle.sheet.specs.Calls.{open_check, or_else, refuse_if, too_short}
use Rattle.sheet.specs.declared.Lengths.{Lengths}
use Rattle.sheet.specs.declared.Sheet.{Sheet}
use Rattle.weight.specs.Range.{Range}
use Rattle.weight.specs.Worth.{Worth}

second : (q next : Option Refusal) → or_else q next ≡ None → next ≡ None
second None next h = h
second (Some e) next h = cc

-- a file that was accepted found memory enough
pub enough : {K : Type 0} (f : Format K) (l : Lengths) (file : List ℕ) (s : Sheet K) (weights weights' : List K) (sets sets' : List ℕ) → ReadAs f l file (Ok s) weights weights' sets sets' → too_short s.words l ≡ false
enough {K} f l file s weights weights' sets sets' = of_frame (frame_words f.kind f.width file)
  where
    of_records : (n : ℕ) → too_short n l ≡ false → (q : Option RecordFault) → RecordsRead f n file q (Ok s) weights weights' sets sets' → too_short s.words l ≡ false
    of_records n long (Some e) a = absurd (let z = a.0 in cc)
    of_records n long None a = let w : s.words ≡ n = a.1 in rw w long

    of_opening : (n : ℕ) (q : Option Refusal) → open_check n l ≡ q → OpeningRead f n file q (Ok s) weights weights' sets sets' → too_short s.words l ≡ false
    of_opening n (Some e) is a = absurd (let z = a.0 in cc)
    of_opening n None is a = of_records n (passed (too_short n l) ShortMemory (second (refuse_if _ WordCount) (refuse_if (too_short n l) ShortMemory) is)) (records_check f n file 0 (record_count f.width file)) a

    of_frame : (q : Result ℕ FileFault) → FrameRead f l file q (Ok s) weights weights' sets sets' → too_short s.words l ≡ false
    of_frame (Err e) a = absurd (let z = a.0 in cc)
    of_frame (Ok n) a = of_opening n (open_check n l) refl a

module _
    {K : Type 0} (f : Format K) (worth : K → Worth) (ranges : List Range) (l : Lengths) (file : List ℕ) (sheet : Sheet K) (a : FirstTaken K) (weights : List K) (sets space : List ℕ) (ranking ranking' : Ranking K) (memory memory' : MemoryParts K)
    (words : a.words ≡ sheet.words) (same : part_lengths memory ≡ l) (reads : ReadAs f l file (Ok sheet) weights memory.weights sets memory.sets) (holds : HoldsArcs worth ranges sheet.words memory.weights memory.sets (arcs_of_file f file))
    (ranks : ranking.sheet.words ≡ sheet.words) (begins : (memory : MemoryParts K) (arcs : Arcs K) → HoldsArcs worth ranges sheet.words memory.weights memory.sets arcs → StandsFor worth ranges ranking memory arcs [])
    (fresh : space ≡ replicate 40 0) (takes : Took worth ranges ranking ranking' memory memory' space a.heads a.taken)
  where
    pub kept : OfFile f worth ranges l file (Ok a) weights memory'.weights sets memory'.sets
    kept =
        let few = sheet.line.1 in
        let long = enough f l file sheet weights memory.weights sets memory.sets reads in
        let room : length space ≡ 40 = ap length fresh in
        let answer = takes.law (arcs_of_file f file) [] (begins memory (arcs_of_file f file) holds) in (
          Ok sheet,
          rw (takes.weights, takes.sets) reads,
          record {
            words = words;
            told = subst (λ (k : ℕ). Tells worth k (arcs_of_file f file) [] (take k a.heads) a.taken) ranks (answer.0 (rw ranks (subst (λ (m : Lengths). too_short sheet.words m ≡ false) (sym same) long)) (omega arith));
            beyond = subst (λ (k : ℕ). drop k a.heads ≡ drop k space) ranks takes.space_beyond ∙ ap (drop sheet.words) fresh;
            unwritten = subst (λ (l : List ℕ). OnErr a.taken (a.heads ≡ l)) fresh (no_heads worth ranges ranking ranking' memory memory' space a.heads a.taken takes);
            held = subst (λ (k : ℕ). HoldsArcs worth ranges k memory'.weights memory'.sets (arcs_of_file f file)) (takes.words ∙ ranks) answer.1.sheet;
          },
        )
