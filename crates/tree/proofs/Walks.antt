-- The walk along chains of heads that marks the words it meets.
use Rattle.std.proofs.Common.{◌≡◌, ℕ, zero, suc, ◌+◌, ◌-◌, ◌<◌, ◌≤◌, Bool, true, false, ◌⊎◌, List, ◌∷◌, length, get_or, set, replicate, sym, refl, ap, ◌∙◌, subst, inl, inr, ⊎_elim, arith}
use Rattle.std.proofs.lemmas.List.{get_or_past, get_or-replicate, get_or-set_other, get_or-set_same}
use Rattle.std.proofs.lemmas.Bool.{cases_lt, cases_eq, both_ways}
use Rattle.tree.proofs.Chains.{arrives, never_again, up_root, up_plus}
use Rattle.tree.specs.Chains.{Word, head_of, up, RunsIntoCycle, OnCycle, FirstAgain}
use Rattle.tree.specs.Trees.{RootedIsCycleFree, OnCycleRuns, FirstLies, OneFirst}

up_head : (head : ℕ → ℕ) (k w : ℕ) → up head k (head w) ≡ head (up head k w)
up_head head zero w = refl
up_head head (suc k) w = up_head head k (head w)

-- the chain from w has come to the word `here`, and the words before it are those that were seen, each once
pub record Walked (heads : List ℕ) (seen : List Bool) (w here : ℕ) : Type 0 where
  pub steps : ℕ
  pub is : up (head_of heads) steps w ≡ here
  pub marks : (x : ℕ) → get_or seen x false ≡ true → (k : ℕ) × (k < steps) × (up (head_of heads) k w ≡ x)
  pub marked : (k : ℕ) → k < steps → up (head_of heads) k w < 256 → get_or seen (up (head_of heads) k w) false ≡ true
  pub apart : (i j : ℕ) → i < j → j < steps → up (head_of heads) i w ≡ up (head_of heads) j w → ⊥

none_seen : (x : ℕ) → get_or (replicate 256 false) x false ≡ false
none_seen x = ⊎_elim (λ l. get_or-replicate 256 x false false l) (λ l. get_or_past (replicate 256 false) x false l) (cases_lt x 256)

-- what is marked, after the place p was marked
seen_more : (seen : List Bool) (x p : ℕ) → get_or (set seen p true) x false ≡ true → (x ≡ p) ⊎ (get_or seen x false ≡ true)
seen_more seen x p h = ⊎_elim (λ e. inl e) (λ ne. inr (sym (get_or-set_other seen p x true false ne) ∙ h)) (cases_eq x p)

still_seen : (seen : List Bool) (x p : ℕ) → length seen ≡ 256 → x < 256 → get_or seen x false ≡ true → get_or (set seen p true) x false ≡ true
still_seen seen x p l h was = ⊎_elim (λ e. ap (λ q. get_or (set seen q true) x false) (sym e) ∙ get_or-set_same seen x true false (omega arith)) (λ ne. get_or-set_other seen p x true false ne ∙ was) (cases_eq x p)

-- the walk begins with the word itself, which is marked where a head can name it
begun : (heads : List ℕ) (seen : List Bool) (w next : ℕ) → next ≡ head_of heads w → ((x : ℕ) → get_or seen x false ≡ true → x ≡ w) → (w < 256 → get_or seen w false ≡ true) → Walked heads seen w next
begun heads seen w next is only own =
    record {
      steps = 1;
      is = sym is;
      marks = λ x h. (0, omega arith, sym (only x h));
      marked = λ k lt small. first k (omega arith) small;
      apart = λ i j lt below. absurd (omega arith);
    }
  where
    first : (k : ℕ) → k ≡ 0 → up (head_of heads) k w < 256 → get_or seen (up (head_of heads) k w) false ≡ true
    first zero z small = own small
    first (suc k) z small = absurd (omega arith)

pub begun_marked : (heads : List ℕ) (w next : ℕ) → next ≡ head_of heads w → w < 256 → Walked heads (set (replicate 256 false) w true) w next
begun_marked heads w next is small =
    begun heads (set (replicate 256 false) w true) w next is
    (λ x h. ⊎_elim (λ e. e) (λ was. absurd (both_ways (get_or (replicate 256 false) x false) (none_seen x) was)) (seen_more (replicate 256 false) x w h))
    (λ lt. get_or-set_same (replicate 256 false) w true false small)

pub begun_past : (heads : List ℕ) (w next : ℕ) → next ≡ head_of heads w → 256 ≤ w → Walked heads (replicate 256 false) w next
begun_past heads w next is past =
    begun heads (replicate 256 false) w next is (λ x h. absurd (both_ways (get_or (replicate 256 false) x false) (none_seen x) h)) (λ lt. absurd (omega arith))

pub head_at : (heads : List ℕ) (w : ℕ) → 1 ≤ w → get_or heads (w - 1) 0 ≡ head_of heads w
head_at heads zero h = absurd (omega arith)
head_at heads (suc k) h = let e : suc k - 1 ≡ k = omega arith in ap (λ i. get_or heads i 0) e

-- the word at hand was not seen: it is marked, and the walk goes on to its head
pub walk_more : (heads : List ℕ) (seen : List Bool) (w here p next : ℕ) → p ≡ here → next ≡ head_of heads here → length seen ≡ 256 → p < 256 → get_or seen p false ≡ false → Walked heads seen w here → Walked heads (set seen p true) w next
walk_more heads seen w here p next e is l small new walk =
    record {
      steps = suc walk.steps;
      is = up_head (head_of heads) walk.steps w ∙ ap (head_of heads) walk.is ∙ sym is;
      marks = λ x h. ⊎_elim (λ at. (walk.steps, omega arith, here_is ∙ sym at)) (λ was. let m = walk.marks x was in (m.0, omega (arith, m.1), m.2)) (seen_more seen x p h);
      marked = λ k lt byte. ⊎_elim (λ old. still_seen seen (up (head_of heads) k w) p l byte (walk.marked k old byte)) (λ last. at k (omega arith)) (cases_lt k walk.steps);
      apart = λ i j lt below same. ⊎_elim (λ old. walk.apart i j lt old same) (λ last. let q : j ≡ walk.steps = omega arith in let r = same ∙ ap (λ m. up (head_of heads) m w) q ∙ here_is in both_ways (get_or seen p false) new (ap (λ x. get_or seen x false) (sym r) ∙ walk.marked i (omega arith) (omega (arith, r)))) (cases_lt j walk.steps);
    }
  where
    here_is : up (head_of heads) walk.steps w ≡ p
    here_is = walk.is ∙ sym e

    at : (k : ℕ) → k ≡ walk.steps → get_or (set seen p true) (up (head_of heads) k w) false ≡ true
    at k q = ap (λ x. get_or (set seen p true) x false) (ap (λ m. up (head_of heads) m w) q ∙ here_is) ∙ get_or-set_same seen p true false (omega arith)

-- a walk that is at the root
pub walk_rooted : (heads : List ℕ) (seen : List Bool) (w : ℕ) → Walked heads seen w 0 → RunsIntoCycle (head_of heads) w → ⊥
walk_rooted heads seen w walk = never_again (head_of heads) refl w (walk.steps, walk.is)

-- a walk that is at a word that was seen
pub walk_again : (heads : List ℕ) (seen : List Bool) (w p : ℕ) → (p ≡ 0 → ⊥) → get_or seen p false ≡ true → Walked heads seen w p → RunsIntoCycle (head_of heads) w × FirstAgain (head_of heads) w p
walk_again heads seen w p some met walk =
    let m = walk.marks p met in (
      (m.0, walk.steps, m.1, omega (arith, m.2), m.2 ∙ sym walk.is),
      record { before = m.0; steps = walk.steps; earlier = m.1; was = m.2; is = walk.is; apart = walk.apart },
    )

-- only a word of the line lies on a cycle
pub cycle_word : (heads : List ℕ) (w : ℕ) → OnCycle (head_of heads) w → Word (length heads) w
cycle_word heads w c =
    ⊎_elim
    (λ past.
    let z : up (head_of heads) (suc c.1.0) w ≡ 0 = ap (up (head_of heads) c.1.0) (get_or_past (0 ∷ heads) w 0 past) ∙ up_root (head_of heads) refl c.1.0 in
    let w0 : w ≡ 0 = sym c.1.1 ∙ z in
    absurd (omega (arith, c.0)))
    (λ le. (c.0, le)) (cases_lt (length heads) w)

-- ---- the first word of a cycle
pub first_lies : FirstLies
first_lies heads w f =
    let b = f.again.before in
    let k = f.again.steps - b - 1 in
    let sum : b + suc k ≡ f.again.steps = omega (arith, f.again.earlier) in
    let around : up (head_of heads) (suc k) w ≡ w =
    ap (up (head_of heads) (suc k)) (sym f.again.was) ∙ sym (up_plus (head_of heads) b (suc k) f.start) ∙ ap (λ n. up (head_of heads) n f.start) sum ∙ f.again.is in
    let some : 1 ≤ w = ⊎_elim (λ z. absurd (never_again (head_of heads) refl f.start (f.again.steps, f.again.is ∙ z) f.runs)) (λ ne. omega arith) (cases_eq w 0) in
    (cycle_word heads w (some, (k, around)), (some, (k, around)))

fewer_not : (head : ℕ → ℕ) (s v w : ℕ) (a : FirstAgain head s v) (b : FirstAgain head s w) → a.steps < b.steps → ⊥
fewer_not head s v w a b lt = b.apart a.before a.steps a.earlier lt (a.was ∙ sym a.is)

one_again : (head : ℕ → ℕ) (s v w : ℕ) (a : FirstAgain head s v) (b : FirstAgain head s w) → v ≡ w
one_again head s v w a b =
    ⊎_elim (λ lt. absurd (fewer_not head s v w a b lt))
    (λ le. ⊎_elim (λ lt. absurd (fewer_not head s w v b a lt)) (λ ge. let e : a.steps ≡ b.steps = omega arith in sym a.is ∙ ap (λ n. up head n s) e ∙ b.is) (cases_lt b.steps a.steps))
    (cases_lt a.steps b.steps)

pub one_first : OneFirst
one_first heads v w f g =
    ⊎_elim (λ lt. absurd (g.least f.start f.word lt f.runs))
    (λ le. ⊎_elim (λ lt. absurd (f.least g.start g.word lt g.runs)) (λ ge. let e : f.start ≡ g.start = omega arith in one_again (head_of heads) g.start v w (subst (λ s. FirstAgain (head_of heads) s v) e f.again) g.again) (cases_lt g.start f.start))
    (cases_lt f.start g.start)

pub on_cycle_runs : OnCycleRuns
on_cycle_runs heads w c = (0, suc c.1.0, omega arith, c.0, sym c.1.1)

pub rooted_is_cycle_free : RootedIsCycleFree
rooted_is_cycle_free heads in_line = (
  λ free w word. let a = arrives (length heads) (head_of heads) refl in_line w word (free w word) in (a.0, a.2),
  λ reaches w word. never_again (head_of heads) refl w (reaches w word),
)
