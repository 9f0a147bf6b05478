use Rattle.std.proofs.Common.{◌≡◌, ℕ, ◌+◌, ◌-◌, ◌*◌, ◌<◌, ◌≤◌, length, true, false, [], slice_index, Some, sym, ap, ◌∙◌, arith, append-nil}
use Rattle.penfile.proofs.Lists.{grown, stands_here, absent_here}
use Rattle.sheet.specs.Arcs.{arcs_in, place}
use Rattle.std.proofs.lemmas.List.{get_or_read}
use Rattle.std.proofs.lemmas.Nat.{mul-add-lt}
use Rattle.std.proofs.lemmas.Option.{slice_get_read}
use Rattle.std.specs.List.{slice_get}
use Rattle.word_set.specs.Bits.{in_set}
use Rattle.penfile.proofs.push_into.Goals as goal
use Rattle.penfile.proofs.push_into.Goals.{then-holds+in_ok-push, else-holds}

pub loop-head-preserved : goal.loop-head-preserved
loop-head-preserved g c =
    let n = c.args.words in
    let d = c.args.dependent in
    let h = c.loop-head.head in
    let weights = c.args.memory.now.weights.items in
    let sets = c.args.memory.now.sets.items in
    let arcs = arcs_in n weights sets in
    let on : h ≤ n = omega arith in
    let first = c.requires.word.0 in
    let last = c.requires.word.1 in
    let memory = c.args.memory.now in
    let sets_long : 40 ≡ length sets = omega (arith, memory.arcs.1, memory.sets.ok.0) in
    let weights_long : 1640 ≡ length weights = omega (arith, memory.arcs.0, memory.weights.ok.0) in
    let within : d - 1 < 40 = omega (arith, c.requires.few, last) in
    let read : c.index-heads.result.now ≡ slice_index sets (d - 1) = get_or_read sets (d - 1) c.index-heads.result.now (omega arith) c.index-heads.ensures 0 in
    elim c.if-holds.branch [
      | then-holds+in_ok-push w ↦
          let up : in_set (slice_index sets (d - 1)) h ≡ true = ap (λ (s : ℕ). in_set s h) (sym read) ∙ sym w.if-holds.ensures in
          let inside : (d - 1) * (n + 1) + h < (n + 1) * 40 = mul-add-lt (d - 1) (n + 1) h 40 within (omega arith) in
          let is : slice_get weights (place n h d) ≡ Some w.index-weight.result.now = slice_get_read weights 1640 (place n h d) w.index-weight.result.now weights_long (omega arith) w.index-weight.ensures in
          grown c.args.arcs.now.items c.loop-head.arcs.items c.if-holds.arcs.items arcs d h _ c.loop-head.invariant (ap (λ v. v.items) w.arcs-is ∙ w.in_ok-push.ensures.items) (stands_here n h d weights sets w.index-weight.result.now on first last up is)
      | else-holds w ↦
          let down : in_set (slice_index sets (d - 1)) h ≡ false = ap (λ (s : ℕ). in_set s h) (sym read) ∙ sym w.if-holds.ensures in
          grown c.args.arcs.now.items c.loop-head.arcs.items c.if-holds.arcs.items arcs d h [] c.loop-head.invariant (ap (λ v. v.items) w.arcs-is ∙ sym (append-nil c.loop-head.arcs.items)) (absent_here n h d weights sets on first last down)
    ]
