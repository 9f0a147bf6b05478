-- A search over other words for the same arcs
use Rattle.std.proofs.Common.{◌≡◌, ℕ, ◌+◌, ◌-◌, ◌<◌, ◌≤◌, Bool, true, false, not, ◌&&◌, ◌||◌, eqb, ltb, ◌⊎◌, List, length, get_or, take, set, Some, None, Ok, Err, Option, Result, sym, refl, ap, ◌∙◌, inl, inr, arith}
use Rattle.std.proofs.lemmas.List.{get_or-set_same, get_or-set_other}
use Rattle.std.proofs.Math.Bool.{and-true, and_comm}
use Rattle.std.proofs.lemmas.Bool.{cases_eq, eq-eqb, ne_eqb}
use Rattle.refusal.specs.declared.Refusal.{Refusal}
use Rattle.weight.specs.Range.{Range}
use Rattle.weight.specs.Worth.{Worth}
use Rattle.tree.specs.Chains.{Word, head_of}
use Rattle.arborescence.specs.Heads.{TreeOver}
use Rattle.word_set.specs.Bits.{in_set}
use Rattle.search.specs.Arcs.{allowed, Entries}
use Rattle.search.specs.Answer.{TreeTold, Searched, barring}

over_same : (n : ℕ) (a b : ℕ → ℕ → Bool) → ((h d : ℕ) → Word n d → a h d ≡ b h d) → (t : List ℕ) → TreeOver n a t → TreeOver n b t
over_same n a b same t over = record { shape = over.shape; standing = λ w v. sym (same (head_of t w) w v) ∙ over.standing w v }

entries_same : (n : ℕ) (a b : ℕ → ℕ → Bool) → ((h d : ℕ) → Word n d → a h d ≡ b h d) → (ranges : List Range) (worth : ℕ → ℕ → Worth) → Entries n b ranges worth → Entries n a ranges worth
entries_same n a b same ranges worth entries h d v le t = entries h d v le (sym (same h d v) ∙ t)

told_same : {K : Type 0} (f : K → Worth) (n : ℕ) (a b : ℕ → ℕ → Bool) (worth : ℕ → ℕ → Worth) (heads : List ℕ) (o : Option K) → ((h d : ℕ) → Word n d → a h d ≡ b h d) → TreeTold f n a worth heads o → TreeTold f n b worth heads o
told_same f n a b worth heads None same none = λ t over. none t (over_same n b a (λ h d v. sym (same h d v)) t over)
told_same f n a b worth heads (Some w) same found =
    record { tree = over_same n a b same heads found.tree; weighs = found.weighs; none_heavier = λ other over. found.none_heavier other (over_same n b a (λ h d v. sym (same h d v)) other over) }

pub searched_same : {K : Type 0} (f : K → Worth) (ranges : List Range) (n : ℕ) (a b : ℕ → ℕ → Bool) (worth : ℕ → ℕ → Worth) (room : Type 0) (before after : List ℕ) (r : Result (Option K) Refusal) →
    (room → (h d : ℕ) → Word n d → a h d ≡ b h d) → Searched f ranges n a worth room before after r → Searched f ranges n b worth room before after r
searched_same f ranges n a b worth room before after (Err e) same s = s
searched_same f ranges n a b worth room before after (Ok o) same s =
    (s.0, s.1, s.2, s.3, λ entries. told_same f n a b worth (take n after) o (same s.1) (s.4 (entries_same n a b (same s.1) ranges worth entries)))

-- there is no such word
pub barring_none : (n : ℕ) (sets held : List ℕ) (barred h d : ℕ) → n ≤ length held → Word n d → allowed sets held h d ≡ barring (allowed sets held) (length held + 1) barred h d
barring_none n sets held barred h d le v =
    sym (ap (λ (e : Bool). allowed sets held h d && not (e && in_set barred h)) (ne_eqb d (length held + 1) (λ e. omega (arith, v.1))) ∙ and-true (allowed sets held h d))

-- the word's set without the barred heads
pub barring_set : (n : ℕ) (sets held : List ℕ) (barred rest h d : ℕ) → length held < length sets → ((v : ℕ) → in_set rest v ≡ (in_set (get_or sets (length held) 0) v && not (in_set barred v))) → Word n d →
    allowed (set sets (length held) rest) held h d ≡ barring (allowed sets held) (length held + 1) barred h d
barring_set n sets held barred rest h d lt is v = by (cases_eq d (length held + 1))
  where
    swap : (a b c : Bool) → ((a && not b) && c) ≡ ((a && c) && not b)
    swap true b c = and_comm (not b) c
    swap false b c = refl

    by : (d ≡ length held + 1) ⊎ (d ≡ length held + 1 → ⊥) → allowed (set sets (length held) rest) held h d ≡ barring (allowed sets held) (length held + 1) barred h d
    by (inl e) =
        let i : d - 1 ≡ length held = omega arith in
        let here : in_set (get_or (set sets (length held) rest) (d - 1) 0) h ≡ (in_set (get_or sets (d - 1) 0) h && not (in_set barred h)) =
        ap (λ (k : ℕ). in_set (get_or (set sets (length held) rest) k 0) h) i ∙ (ap (λ (x : ℕ). in_set x h) (get_or-set_same sets (length held) rest 0 lt) ∙ (is h ∙ ap (λ (k : ℕ). in_set (get_or sets k 0) h && not (in_set barred h)) (sym i))) in
        ap (λ (b : Bool). b && (ltb (length held) d || eqb h (head_of held d))) here
        ∙ (swap (in_set (get_or sets (d - 1) 0) h) (in_set barred h) (ltb (length held) d || eqb h (head_of held d)) ∙ sym (ap (λ (t : Bool). allowed sets held h d && not (t && in_set barred h)) (eq-eqb d (length held + 1) e)))
    by (inr ne) =
        let there : get_or (set sets (length held) rest) (d - 1) 0 ≡ get_or sets (d - 1) 0 = get_or-set_other sets (length held) (d - 1) rest 0 (λ q. ne (omega (arith, v.0))) in
        ap (λ (x : ℕ). in_set x h && (ltb (length held) d || eqb h (head_of held d))) there
        ∙ sym (ap (λ (t : Bool). allowed sets held h d && not (t && in_set barred h)) (ne_eqb d (length held + 1) ne) ∙ and-true (allowed sets held h d))
