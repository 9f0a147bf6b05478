-- The arcs settle what a search chooses
use Rattle.std.proofs.Common.{◌≡◌, ℕ, zero, suc, ◌+◌, ◌-◌, ◌<◌, ◌≤◌, Bool, true, false, cond, ◌&&◌, eqb, ◌⊎◌, List, [], ◌∷◌, length, drop, pos, negsuc, sym, refl, ap, ◌∙◌, subst, inl, inr, arith}
use Rattle.std.proofs.lemmas.Bool.{cases_lt, cases_Bool, both_ways}
use Rattle.weight.specs.Worth.{Worth, zeros, plus, minus, AtMost}
use Rattle.arborescence.specs.Heads.{rooted}
use Rattle.tree.specs.Chains.{Word, head_of, up, Reaches}
use Rattle.tree.proofs.Chains.{up_plus}
use Rattle.arborescence.specs.Sum.{sum_if}
use Rattle.arborescence.specs.Search.{Sets, Leader, leads, Into}
use Rattle.arborescence.proofs.Sums.{at_most_eq, sum_same}
use Rattle.weight.proofs.Worths.{at_most_trans}
use Rattle.word_set.specs.Bits.{in_set}
use Rattle.word_set.proofs.Sets.{same_set}
use Rattle.search.specs.Arcs.{NoLater, SetArc, Sound}
use Rattle.search.specs.Family.{Group, rep_of, from_of, best_of, add_of, next_of, OnFirstWay, Begun, Joined, Valid}
use Rattle.search.specs.Ring.{Laid, Ring}
use Rattle.search.specs.Choice.{opened, Chosen, SameArcs, Finds, FoundOnce, SameSets, LimitedSets}
use Rattle.search.proofs.Families.{valid_sets}
use Rattle.search.proofs.Stages.{valid_begun, valid_laid}
use Rattle.search.proofs.Rings.{from_same, joined_ring}
use Rattle.search.proofs.Joining.{to_scan, from_scan}
use Rattle.search.proofs.Heads.{opened_same}

-- ---- of some arcs one that is worth most, and comes first among equals
record Pick (A : ℕ → ℕ → Type 0) (w : ℕ → ℕ → Worth) (from to : ℕ) (v : Worth) : Type 0 where
  is : A from to
  valued : v ≡ w from to
  covers : (h d : ℕ) → A h d → AtMost (w h d) v
  first : (h d : ℕ) → A h d → AtMost v (w h d) → NoLater from to h d

module _ (A B : ℕ → ℕ → Type 0) (w u : ℕ → ℕ → Worth) (to_b : (h d : ℕ) → A h d → B h d) (same : (h d : ℕ) → A h d → w h d ≡ u h d) where
  no_later : (a b c d : ℕ) (v t : Worth) → Pick A w a b v → Pick B u c d t → A c d → NoLater c d a b
  no_later a b c d v t p q at =
      q.first a b (to_b a b p.is) (at_most_trans t v (u a b) (at_most_trans t (w c d) v (at_most_eq t (w c d) (q.valued ∙ sym (same c d at))) (p.covers c d at)) (at_most_eq v (u a b) (p.valued ∙ same a b p.is)))

in_turn : (a b c d : ℕ) → NoLater a b c d → NoLater c d a b → (a ≡ c) × (b ≡ d)
in_turn a b c d (inl l) (inl r) = absurd (omega (arith, l, r))
in_turn a b c d (inl l) (inr r) = absurd (omega (arith, l, r.0))
in_turn a b c d (inr l) (inl r) = absurd (omega (arith, l.0, r))
in_turn a b c d (inr l) (inr r) = (omega (arith, l.1, r.1), l.0)

one_pick : (A B : ℕ → ℕ → Type 0) (w u : ℕ → ℕ → Worth) → ((h d : ℕ) → A h d → B h d) → ((h d : ℕ) → B h d → A h d) → ((h d : ℕ) → A h d → w h d ≡ u h d) →
    (a b c d : ℕ) (v t : Worth) → Pick A w a b v → Pick B u c d t → (a ≡ c) × (b ≡ d) × (v ≡ t)
one_pick A B w u to_b to_a same a b c d v t p q =
    let at : A c d = to_a c d q.is in
    let e = in_turn a b c d (no_later B A u w to_a (λ h d x. sym (same h d (to_a h d x))) c d a b t v q p (to_b a b p.is)) (no_later A B w u to_b same a b c d v t p q at) in
    (e.0, e.1, p.valued ∙ (ap (λ (x : ℕ). w x b) e.0 ∙ (ap (w c) e.1 ∙ (same c d at ∙ sym q.valued))))

group_same : (a b : Group) → a.members ≡ b.members → a.from ≡ b.from → a.to ≡ b.to → a.value ≡ b.value → a ≡ b
group_same a b m f t v = λ i. record { members = m i; from = f i; to = t i; value = v i }

-- ---- chains
chain_same : (n : ℕ) (f g : ℕ → ℕ) → ((v : ℕ) → v ≤ n → f v ≡ g v) → ((v : ℕ) → v ≤ n → f v ≤ n) → (k v : ℕ) → v ≤ n → up f k v ≡ up g k v
chain_same n f g same line zero v le = refl
chain_same n f g same line (suc k) v le = chain_same n f g same line k (f v) (line v le) ∙ ap (up g k) (same v le)

reaches_up : (f : ℕ → ℕ) → f 0 ≡ 0 → (k v : ℕ) → Reaches f v → Reaches f (up f k v)
reaches_up f z zero v r = r
reaches_up f z (suc k) v (zero, e) = reaches_up f z k (f v) (0, ap f e ∙ z)
reaches_up f z (suc k) v (suc j, e) = reaches_up f z k (f v) (j, e)

-- ---- one list of sets over two records of the words' best arcs that agree
module _ (n : ℕ) (base base' : ℕ → Group) (ms : List Group) (laid : Laid n base ms) where
  -- a ring leads nowhere else
  module _ (S : ℕ) (ring : Ring n base ms S) where
    some_word : (v : ℕ) → in_set S v ≡ true → Word n v
    some_word zero t = absurd (both_ways (in_set S 0) ring.root t)
    some_word (suc v) t = (omega arith, ring.in_line (suc v) t)

    lead : (v : ℕ) → Word n v → Leader n (rep_of ms) (rep_of ms v)
    lead v w = record { word = laid.sets.word v w; own = laid.sets.leader v w }

    goes_on : (v : ℕ) → in_set S v ≡ true → in_set S (from_of base ms v) ≡ true
    goes_on v t =
        let w = some_word v t in
        ap (in_set S) (sym (from_same n base ms laid v w.1)) ∙ ring.within (rep_of ms v) (lead v w) (ring.closed v w.1 ∙ t)

    stays_on : (k v : ℕ) → in_set S v ≡ true → in_set S (up (from_of base ms) k v) ≡ true
    stays_on zero v t = t
    stays_on (suc k) v t = stays_on k (from_of base ms v) (goes_on v t)

    no_root : (v : ℕ) → in_set S v ≡ true → Reaches (from_of base ms) v → ⊥
    no_root v t r = both_ways (in_set S 0) ring.root (subst (λ (x : ℕ). in_set S x ≡ true) r.1 (stays_on r.0 v t))

    -- the way that runs into the ring does not lead to the root
    no_way : (w : ℕ) → in_set S w ≡ true → (way : OnFirstWay n (from_of base ms) w) → Reaches (from_of base ms) way.start → ⊥
    no_way w t way r = no_root w t (subst (Reaches (from_of base ms)) way.way.1 (reaches_up (from_of base ms) laid.root way.way.0 way.start r))

    next_on : (k ℓ : ℕ) → in_set S ℓ ≡ true → Leader n (rep_of ms) ℓ → in_set S (up (next_of base ms) k ℓ) ≡ true
    next_on zero ℓ t l = t
    next_on (suc k) ℓ t l =
        let h : ℕ = from_of base ms ℓ in
        let on : in_set S h ≡ true = ring.within ℓ l t in
        let w = some_word h on in
        next_on k (rep_of ms h) (ring.closed h w.1 ∙ on) (lead h w)

  -- two rings that meet are one
  ring_in : (S T x v : ℕ) → Ring n base ms S → Ring n base ms T → in_set S x ≡ true → in_set T x ≡ true → in_set S v ≡ true → in_set T v ≡ true
  ring_in S T x v r q sx tx sv =
      let wx = some_word S r x sx in
      let wv = some_word S r v sv in
      let k = r.round (rep_of ms x) (rep_of ms v) (lead S r x wx) (r.closed x wx.1 ∙ sx) (lead S r v wv) (r.closed v wv.1 ∙ sv) in
      sym (q.closed v wv.1) ∙ subst (λ (y : ℕ). in_set T y ≡ true) k.1 (next_on T q k.0 (rep_of ms x) (q.closed x wx.1 ∙ tx) (lead S r x wx))

  one_ring : (S T w u : ℕ) → Ring n base ms S → Ring n base ms T → in_set S w ≡ true → in_set T u ≡ true → OnFirstWay n (from_of base ms) w → OnFirstWay n (from_of base ms) u → S ≡ T
  one_ring S T w u r q sw tu a b = same_set S T (λ v. both v (cases_Bool (in_set S v)) (cases_Bool (in_set T v)))
    where
      start : a.start ≡ b.start
      start = by (cases_lt a.start b.start) (cases_lt b.start a.start)
        where
          by : (a.start < b.start) ⊎ (b.start ≤ a.start) → (b.start < a.start) ⊎ (a.start ≤ b.start) → a.start ≡ b.start
          by (inl l) o = absurd (no_way S r w sw a (b.earlier a.start a.word.0 l))
          by (inr l) (inl m) = absurd (no_way T q u tu b (a.earlier b.start b.word.0 m))
          by (inr l) (inr m) = omega (arith, l, m)

      in_s : in_set S (up (from_of base ms) (a.way.0 + b.way.0) a.start) ≡ true
      in_s =
          let f = from_of base ms in
          subst (λ (x : ℕ). in_set S x ≡ true) (ap (up f b.way.0) (sym a.way.1) ∙ sym (up_plus f a.way.0 b.way.0 a.start)) (stays_on S r b.way.0 w sw)

      in_t : in_set T (up (from_of base ms) (a.way.0 + b.way.0) a.start) ≡ true
      in_t =
          let f = from_of base ms in
          let e : b.way.0 + a.way.0 ≡ a.way.0 + b.way.0 = omega arith in
          subst (λ (x : ℕ). in_set T x ≡ true)
          (ap (up f a.way.0) (sym b.way.1) ∙ (sym (up_plus f b.way.0 a.way.0 b.start) ∙ (ap (up f (b.way.0 + a.way.0)) (sym start) ∙ ap (λ (k : ℕ). up f k a.start) e))) (stays_on T q a.way.0 u tu)

      both : (v : ℕ) → (in_set S v ≡ true) ⊎ (in_set S v ≡ false) → (in_set T v ≡ true) ⊎ (in_set T v ≡ false) → in_set S v ≡ in_set T v
      both v (inl s) (inl t) = s ∙ sym t
      both v (inr s) (inr t) = s ∙ sym t
      both v (inl s) (inr t) = absurd (both_ways (in_set T v) t (ring_in S T (up (from_of base ms) (a.way.0 + b.way.0) a.start) v r q in_s in_t s))
      both v (inr s) (inl t) = absurd (both_ways (in_set S v) s (ring_in T S (up (from_of base ms) (a.way.0 + b.way.0) a.start) v q r in_t in_s t))

  -- a ring, and a way, of the other record
  module _ (from_is : (v : ℕ) → v ≤ n → from_of base ms v ≡ from_of base' ms v) where
    ring_moved : (S : ℕ) → Ring n base' ms S → Ring n base ms S
    ring_moved S r =
        record {
          root = r.root;
          in_line = r.in_line;
          closed = r.closed;
          some = r.some;
          within = λ ℓ l t. ap (in_set S) (from_is ℓ l.word.1) ∙ r.within ℓ l t;
          round = λ i j li ti lj tj.
              let k = r.round i j li ti lj tj in
              (k.0, chain_same n (next_of base ms) (next_of base' ms) (λ v le. ap (rep_of ms) (from_is v le)) (λ v le. rep_line (from_of base ms v) (laid.in_line v le)) k.0 i li.word.1 ∙ k.1);
        }
      where
        rep_line : (v : ℕ) → v ≤ n → rep_of ms v ≤ n
        rep_line zero le = subst (λ (x : ℕ). x ≤ n) (sym laid.sets.root) le
        rep_line (suc v) le = (laid.sets.word (suc v) (omega arith)).1

    way_moved : (w : ℕ) → OnFirstWay n (from_of base' ms) w → OnFirstWay n (from_of base ms) w
    way_moved w a =
        record {
          start = a.start;
          word = a.word;
          earlier = λ v one lt. let r = a.earlier v one lt in (r.0, moved r.0 v (omega (arith, lt, a.word.1)) ∙ r.1);
          way = (a.way.0, moved a.way.0 a.start a.word.1 ∙ a.way.1);
        }
      where
        moved : (k v : ℕ) → v ≤ n → up (from_of base ms) k v ≡ up (from_of base' ms) k v
        moved = chain_same n (from_of base ms) (from_of base' ms) from_is laid.in_line

-- ---- what a joined set says
module _ (n : ℕ) (stands : ℕ → ℕ → Bool) (worth : ℕ → ℕ → Worth) (z : Worth) (base : ℕ → Group) (m : Group) (ms : List Group) (laid : Laid n base ms) (j : Joined n stands worth z base m ms) where
  joined_pick : Pick (SetArc n (n + 1) stands m.members) (λ h d. plus (worth h d) (add_of n z base (m ∷ ms) d)) m.from m.to m.value
  joined_pick =
      record {
        is = to_scan_of m.from m.to j.arc;
        valued = j.valued;
        covers = λ h d a. j.covers h d (from_scan_of h d a);
        first = λ h d a. j.first h d (from_scan_of h d a);
      }
    where
      to_scan_of : (h d : ℕ) → Into n stands (rep_of (m ∷ ms)) m.to h d → SetArc n (n + 1) stands m.members h d
      to_scan_of = to_scan (λ (x : Worth). x) 0 n stands worth base ms laid m.members (joined_ring n base ms laid stands worth z m j) m.to j.union.word j.union.inside

      from_scan_of : (h d : ℕ) → SetArc n (n + 1) stands m.members h d → Into n stands (rep_of (m ∷ ms)) m.to h d
      from_scan_of = from_scan (λ (x : Worth). x) 0 n stands worth base ms laid m.members (joined_ring n base ms laid stands worth z m j) m.to j.union.word j.union.inside

-- ---- two searches of the same arcs
module _ (p n : ℕ) (stands stands' : ℕ → ℕ → Bool) (worth worth' : ℕ → ℕ → Worth) (same : SameArcs n stands stands' worth worth') (sound : Sound n stands worth (zeros (suc p))) (sound' : Sound n stands' worth' (zeros (suc p)))
    (base base' : ℕ → Group) where
  over : (rep : ℕ → ℕ) (ℓ h d : ℕ) → Into n stands rep ℓ h d → Into n stands' rep ℓ h d
  over rep ℓ h d i = record { word = i.word; in_line = i.in_line; standing = sym (same.stand h d i.word i.in_line) ∙ i.standing; inside = i.inside; outside = i.outside }

  back : (rep : ℕ → ℕ) (ℓ h d : ℕ) → Into n stands' rep ℓ h d → Into n stands rep ℓ h d
  back rep ℓ h d i = record { word = i.word; in_line = i.in_line; standing = same.stand h d i.word i.in_line ∙ i.standing; inside = i.inside; outside = i.outside }

  base_same : Begun n n stands worth (zeros (suc p)) base → Begun n n stands' worth' (zeros (suc p)) base' → (w : ℕ) → Word n w → base w ≡ base' w
  base_same a b w v =
      let g = a.words w v in
      let h = b.words w v in
      let e = one_pick (Into n stands (λ x. x) w) (Into n stands' (λ x. x) w) (λ h d. plus (worth h d) (zeros (suc p))) (λ h d. plus (worth' h d) (zeros (suc p))) (over (λ x. x) w) (back (λ x. x) w)
      (λ h d i. ap (λ (x : Worth). plus x (zeros (suc p))) (same.weigh h d i.word i.in_line i.standing)) (base w).from w (base' w).from w (base w).value (base' w).value
      (record { is = g.arc; valued = g.valued; covers = g.covers; first = g.first }) (record { is = h.arc; valued = h.valued; covers = h.covers; first = h.first }) in
      group_same (base w) (base' w) (same_set (base w).members (base' w).members (λ x. g.single x ∙ sym (h.single x))) e.0 (g.own ∙ sym h.own) e.2

  module _ (a : Begun n n stands worth (zeros (suc p)) base) (b : Begun n n stands' worth' (zeros (suc p)) base') where
    from_is : (ms : List Group) (v : ℕ) → v ≤ n → from_of base ms v ≡ from_of base' ms v
    from_is [] zero le = a.root ∙ sym b.root
    from_is [] (suc v) le = ap (λ (g : Group). g.from) (base_same a b (suc v) (omega arith))
    from_is (m ∷ ms) v le = ap (cond (in_set m.members v) m.from) (from_is ms v le)

    best_is : (ms : List Group) (v : ℕ) → Word n v → best_of base ms v ≡ best_of base' ms v
    best_is [] v w = ap (λ (g : Group). g.value) (base_same a b v w)
    best_is (m ∷ ms) v w = ap (cond (in_set m.members v) m.value) (best_is ms v w)

    -- what a merge of the set S adds
    add_next : (m : Group) (ms : List Group) → Sets n (rep_of ms) → ((d : ℕ) → Word n d → add_of n (zeros (suc p)) base ms d ≡ add_of n (zeros (suc p)) base' ms d) → (d : ℕ) → Word n d → add_of n (zeros (suc p)) base (m ∷ ms) d ≡ add_of n (zeros (suc p)) base' (m ∷ ms) d
    add_next m ms sets old d w =
        let on : ℕ → Bool = in_set m.members in
        let q : ℕ → Bool = λ ℓ. leads (rep_of ms) ℓ && on ℓ in
        let sum : sum_if q (best_of base ms) n ≡ sum_if q (best_of base' ms) n = sum_same q q (best_of base ms) (best_of base' ms) n (λ v u. refl) (λ v u t. best_is ms v u) in
        let one : cond (on d) (minus (plus (add_of n (zeros (suc p)) base ms d) (sum_if q (best_of base ms) n)) (best_of base ms (rep_of ms d))) (add_of n (zeros (suc p)) base ms d)
        ≡ cond (on d) (minus (plus (add_of n (zeros (suc p)) base' ms d) (sum_if q (best_of base' ms) n)) (best_of base' ms (rep_of ms d))) (add_of n (zeros (suc p)) base' ms d) =
        rw (old d w, sum, best_is ms (rep_of ms d) (sets.word d w)) refl in
        one

    add_is : (ms : List Group) → Valid n stands worth (zeros (suc p)) base ms → (d : ℕ) → Word n d → add_of n (zeros (suc p)) base ms d ≡ add_of n (zeros (suc p)) base' ms d
    add_is [] valid d w = refl
    add_is (m ∷ ms) valid d w = add_next m ms (valid_sets n stands worth (zeros (suc p)) sound.whole base ms valid.0) (add_is ms valid.0) d w

    -- the next set is the same
    next_same : (m m' : Group) (ms : List Group) → Valid n stands worth (zeros (suc p)) base (m ∷ ms) → Valid n stands' worth' (zeros (suc p)) base' (m' ∷ ms) → m ≡ m'
    next_same m m' ms valid valid' = group_same m m' members picked.0 picked.1 picked.2
      where
        laid : Laid n base ms
        laid = valid_laid n stands worth (zeros (suc p)) sound.whole base ms valid.0

        laid' : Laid n base' ms
        laid' = valid_laid n stands' worth' (zeros (suc p)) sound'.whole base' ms valid'.0

        ring : Ring n base ms m.members
        ring = joined_ring n base ms laid stands worth (zeros (suc p)) m valid.1

        ring' : Ring n base' ms m'.members
        ring' = joined_ring n base' ms laid' stands' worth' (zeros (suc p)) m' valid'.1

        members : m.members ≡ m'.members
        members =
            let c = valid.1.chosen in
            let d = valid'.1.chosen in
            one_ring n base base' ms laid m.members m'.members c.0 d.0 ring (ring_moved n base base' ms laid (from_is ms) m'.members ring') c.1 d.1 c.2 (way_moved n base base' ms laid (from_is ms) d.0 d.2)

        add_new : (d : ℕ) → Word n d → add_of n (zeros (suc p)) base (m ∷ ms) d ≡ add_of n (zeros (suc p)) base' (m' ∷ ms) d
        add_new d w = add_next m ms laid.sets (add_is ms valid.0) d w ∙ ap (λ (x : ℕ). add_of n (zeros (suc p)) base' (record { members = x; from = m'.from; to = m'.to; value = m'.value } ∷ ms) d) members

        arc : (h d : ℕ) → SetArc n (n + 1) stands m.members h d → SetArc n (n + 1) stands' m'.members h d
        arc h d x = record { word = x.word; before = x.before; in_line = x.in_line; standing = sym (same.stand h d x.word x.in_line) ∙ x.standing; within = ap (λ (s : ℕ). in_set s d) (sym members) ∙ x.within; outside = ap (λ (s : ℕ). in_set s h) (sym members) ∙ x.outside }

        arc' : (h d : ℕ) → SetArc n (n + 1) stands' m'.members h d → SetArc n (n + 1) stands m.members h d
        arc' h d x = record { word = x.word; before = x.before; in_line = x.in_line; standing = same.stand h d x.word x.in_line ∙ x.standing; within = ap (λ (s : ℕ). in_set s d) members ∙ x.within; outside = ap (λ (s : ℕ). in_set s h) members ∙ x.outside }

        picked : (m.from ≡ m'.from) × (m.to ≡ m'.to) × (m.value ≡ m'.value)
        picked =
            one_pick (SetArc n (n + 1) stands m.members) (SetArc n (n + 1) stands' m'.members) (λ h d. plus (worth h d) (add_of n (zeros (suc p)) base (m ∷ ms) d)) (λ h d. plus (worth' h d) (add_of n (zeros (suc p)) base' (m' ∷ ms) d)) arc arc'
            (λ h d x. ap (λ (y : Worth). plus y (add_of n (zeros (suc p)) base (m ∷ ms) d)) (same.weigh h d x.word x.in_line x.standing) ∙ ap (plus (worth' h d)) (add_new d x.word))
            m.from m.to m'.from m'.to m.value m'.value (joined_pick n stands worth (zeros (suc p)) base m ms laid valid.1) (joined_pick n stands' worth' (zeros (suc p)) base' m' ms laid' valid'.1)

    sets_same : (ms ms' : List Group) → length ms ≡ length ms' → Valid n stands worth (zeros (suc p)) base ms → Valid n stands' worth' (zeros (suc p)) base' ms' → ms ≡ ms'
    sets_same [] [] e valid valid' = refl
    sets_same [] (m' ∷ ms') e valid valid' = absurd (omega (arith, e))
    sets_same (m ∷ ms) [] e valid valid' = absurd (omega (arith, e))
    sets_same (m ∷ ms) (m' ∷ ms') e valid valid' =
        let q : ms ≡ ms' = sets_same ms ms' (omega (arith, e)) valid.0 valid'.0 in
        let r : m ≡ m' = next_same m m' ms valid (subst (λ (xs : List Group). Valid n stands' worth' (zeros (suc p)) base' (m' ∷ xs)) (sym q) valid') in
        ap (λ (x : Group). x ∷ ms) r ∙ ap (λ (xs : List Group). m' ∷ xs) q

    -- where every way leads to the root there is no further set
    no_longer : (ms ms' : List Group) → length ms < length ms' → Valid n stands worth (zeros (suc p)) base ms → ((w : ℕ) → Word n w → Reaches (from_of base ms) w) → Valid n stands' worth' (zeros (suc p)) base' ms' → ⊥
    no_longer ms [] l valid reach valid' = absurd (omega (arith, l))
    no_longer ms (m' ∷ ms') l valid reach valid' = by (cases_lt (length ms) (length ms')) (λ k. no_longer ms ms' k valid reach valid'.0)
      where
        by : (length ms < length ms') ⊎ (length ms' ≤ length ms) → (length ms < length ms' → ⊥) → ⊥
        by (inl k) older = older k
        by (inr k) older =
            let q : ms ≡ ms' = sets_same ms ms' (omega (arith, k, l)) valid valid'.0 in
            let v = subst (λ (xs : List Group). Valid n stands' worth' (zeros (suc p)) base' (m' ∷ xs)) (sym q) valid' in
            let laid = valid_laid n stands worth (zeros (suc p)) sound.whole base ms valid in
            let laid' = valid_laid n stands' worth' (zeros (suc p)) sound'.whole base' ms v.0 in
            let ring = ring_moved n base base' ms laid (from_is ms) m'.members (joined_ring n base' ms laid' stands' worth' (zeros (suc p)) m' v.1) in
            let c = v.1.chosen in
            let w = way_moved n base base' ms laid (from_is ms) c.0 c.2 in
            no_way n base base' ms laid m'.members ring c.0 c.1 w (reach w.start w.word)

same_back : (n : ℕ) (stands stands' : ℕ → ℕ → Bool) (worth worth' : ℕ → ℕ → Worth) → SameArcs n stands stands' worth worth' → SameArcs n stands' stands worth' worth
same_back n stands stands' worth worth' s = record { stand = λ h d v le. sym (s.stand h d v le); weigh = λ h d v le t. sym (s.weigh h d v le (s.stand h d v le ∙ t)) }

chosen_once : (p n : ℕ) (stands stands' : ℕ → ℕ → Bool) (worth worth' : ℕ → ℕ → Worth) → SameArcs n stands stands' worth worth' →
    (head head' : ℕ → ℕ) → Chosen p n stands worth head → Chosen p n stands' worth' head' → (w : ℕ) → Word n w → head w ≡ head' w
chosen_once p n stands stands' worth worth' same head head' c d w v =
    by (cases_lt (length c.sets) (length d.sets)) (cases_lt (length d.sets) (length c.sets))
  where
    a : Begun n n stands worth (zeros (suc p)) c.base
    a = valid_begun n stands worth (zeros (suc p)) c.ended.sound.whole c.base c.sets c.ended.valid

    b : Begun n n stands' worth' (zeros (suc p)) d.base
    b = valid_begun n stands' worth' (zeros (suc p)) d.ended.sound.whole d.base d.sets d.ended.valid

    by : (length c.sets < length d.sets) ⊎ (length d.sets ≤ length c.sets) → (length d.sets < length c.sets) ⊎ (length c.sets ≤ length d.sets) → head w ≡ head' w
    by (inl l) o = absurd (no_longer p n stands stands' worth worth' same c.ended.sound d.ended.sound c.base d.base a b c.sets d.sets l c.ended.valid c.ended.reach d.ended.valid)
    by (inr l) (inl k) = absurd (no_longer p n stands' stands worth' worth (same_back n stands stands' worth worth' same) d.ended.sound c.ended.sound d.base c.base b a d.sets c.sets k d.ended.valid d.ended.reach c.ended.valid)
    by (inr l) (inr k) =
        let e : c.sets ≡ d.sets = sets_same p n stands stands' worth worth' same c.ended.sound d.ended.sound c.base d.base a b c.sets d.sets (omega (arith, l, k)) c.ended.valid d.ended.valid in
        c.heads w v ∙ (opened_same n (λ u. (c.base u).from) (λ u. (d.base u).from) (λ u k. ap (λ (g : Group). g.from) (base_same p n stands stands' worth worth' same c.ended.sound d.ended.sound c.base d.base a b u k)) [] c.sets w v
        ∙ (ap (λ (xs : List Group). opened [] (λ u. (d.base u).from) xs w) e ∙ sym (d.heads w v)))

rooted_same : (n : ℕ) (stands stands' : ℕ → ℕ → Bool) (worth worth' : ℕ → ℕ → Worth) → SameArcs n stands stands' worth worth' → SameArcs n stands stands' (rooted worth) (rooted worth')
rooted_same n stands stands' worth worth' s = record { stand = s.stand; weigh = λ h d v le t. ap (λ (x : Worth). cond (eqb h 0) (negsuc 0) (pos 0) ∷ x) (s.weigh h d v le t) }

same_through : (n : ℕ) (a b c : ℕ → ℕ → Bool) (u v w : ℕ → ℕ → Worth) → SameArcs n a b u v → SameArcs n b c v w → SameArcs n a c u w
same_through n a b c u v w s t =
    record { stand = λ h d k le. s.stand h d k le ∙ t.stand h d k le; weigh = λ h d k le x. s.weigh h d k le x ∙ t.weigh h d k le (sym (s.stand h d k le) ∙ x) }

-- lists of the same heads
heads_same : (n : ℕ) (xs ys : List ℕ) → length xs ≡ n → length ys ≡ n → ((w : ℕ) → Word n w → head_of xs w ≡ head_of ys w) → xs ≡ ys
heads_same n [] [] e q same = refl
heads_same n [] (y ∷ ys) e q same = absurd (omega (arith, e, q))
heads_same n (x ∷ xs) [] e q same = absurd (omega (arith, e, q))
heads_same n (x ∷ xs) (y ∷ ys) e q same =
    ap (λ (a : ℕ). a ∷ xs) (same 1 (omega (arith, e))) ∙ ap (λ (rest : List ℕ). y ∷ rest) (heads_same (n - 1) xs ys (omega (arith, e)) (omega (arith, q)) (next n e same))
  where
    next : (n : ℕ) → suc (length xs) ≡ n → ((w : ℕ) → Word n w → head_of (x ∷ xs) w ≡ head_of (y ∷ ys) w) → (w : ℕ) → Word (n - 1) w → head_of xs w ≡ head_of ys w
    next n e same zero v = refl
    next n e same (suc w) v = same (suc (suc w)) (omega (arith, v.0), omega (arith, v.1))

module _ (n : ℕ) (stands stands' : ℕ → ℕ → Bool) (worth worth' : ℕ → ℕ → Worth) (same : SameArcs n stands stands' worth worth') (heads heads' : List ℕ) where
  -- an arc stands, and tells how many places all have
  same_places : 1 ≤ n → (f : Finds n stands worth heads) (g : Finds n stands' worth' heads') → f.places ≡ g.places
  same_places one f g =
      let c = f.chosen in
      let b = valid_begun n f.searched (rooted f.weighed) (zeros (suc f.places)) c.ended.sound.whole c.base c.sets c.ended.valid in
      let a = (b.words 1 (omega arith, one)).arc in
      let t : stands (c.base 1).from 1 ≡ true = sym (f.same.stand (c.base 1).from 1 a.word a.in_line) ∙ a.standing in
      sym (f.sized (c.base 1).from 1 a.word a.in_line t) ∙ (ap length (same.weigh (c.base 1).from 1 a.word a.in_line t) ∙ g.sized (c.base 1).from 1 a.word a.in_line (sym (same.stand (c.base 1).from 1 a.word a.in_line) ∙ t))

  one_find : length heads ≡ n → length heads' ≡ n → (f : Finds n stands worth heads) (g : Finds n stands' worth' heads') → f.places ≡ g.places → heads ≡ heads'
  one_find long long' f g e =
      heads_same n heads heads' long long'
      (chosen_once f.places n f.searched g.searched (rooted f.weighed) (rooted g.weighed)
      (rooted_same n f.searched g.searched f.weighed g.weighed
      (same_through n f.searched stands g.searched f.weighed worth g.weighed f.same (same_through n stands stands' g.searched worth worth' g.weighed same (same_back n g.searched stands' g.weighed worth' g.same))))
      (head_of heads) (head_of heads') f.chosen (subst (λ (p : ℕ). Chosen p n g.searched (rooted g.weighed) (head_of heads')) (sym e) g.chosen))

pub found_once : FoundOnce
found_once n stands stands' worth worth' same heads heads' long long' f g = by (cases_lt 0 n)
  where
    by : (0 < n) ⊎ (n ≤ 0) → heads ≡ heads'
    by (inl l) = one_find n stands stands' worth worth' same heads heads' long long' f g (same_places n stands stands' worth worth' same heads heads' l f g)
    by (inr l) = heads_same n heads heads' long long' (λ w v. absurd (omega (arith, v.0, v.1, l)))

pub same_sets : SameSets
same_sets p n stands stands' worth worth' same sound sound' base base' ms ms' valid valid' le = (by ms' valid' le, base_same p n stands stands' worth worth' same sound sound' base base' a b)
  where
    a : Begun n n stands worth (zeros (suc p)) base
    a = valid_begun n stands worth (zeros (suc p)) sound.whole base ms valid

    b : Begun n n stands' worth' (zeros (suc p)) base'
    b = valid_begun n stands' worth' (zeros (suc p)) sound'.whole base' ms' valid'

    by : (ys : List Group) → Valid n stands' worth' (zeros (suc p)) base' ys → length ms ≤ length ys → ms ≡ drop (length ys - length ms) ys
    by [] v l =
        let e : 0 - length ms ≡ 0 = omega arith in
        sets_same p n stands stands' worth worth' same sound sound' base base' a b ms [] (omega (arith, l)) valid v ∙ ap (λ (k : ℕ). drop k []) (sym e)
    by (y ∷ ys) v l = at (cases_lt (length ms) (length (y ∷ ys))) (by ys v.0)
      where
        at : (length ms < length (y ∷ ys)) ⊎ (length (y ∷ ys) ≤ length ms) → (length ms ≤ length ys → ms ≡ drop (length ys - length ms) ys) → ms ≡ drop (length (y ∷ ys) - length ms) (y ∷ ys)
        at (inl m) older =
            let e : length (y ∷ ys) - length ms ≡ suc (length ys - length ms) = omega (arith, m) in
            older (omega (arith, m)) ∙ ap (λ (k : ℕ). drop k (y ∷ ys)) (sym e)
        at (inr m) older =
            let e : length (y ∷ ys) - length ms ≡ 0 = omega (arith, m) in
            sets_same p n stands stands' worth worth' same sound sound' base base' a b ms (y ∷ ys) (omega (arith, l, m)) valid v ∙ ap (λ (k : ℕ). drop k (y ∷ ys)) (sym e)

pub limited_sets : LimitedSets
limited_sets p n stands stands' worth worth' same less more base base' ms ms' le a b = by (cases_lt (length ms') (length ms))
  where
    begun : Begun n n stands worth (zeros (suc p)) base
    begun = valid_begun n stands worth (zeros (suc p)) a.sound.whole base ms a.valid

    begun' : Begun n n stands' worth' (zeros (suc p)) base'
    begun' = valid_begun n stands' worth' (zeros (suc p)) b.sound.whole base' ms' b.valid

    by : (length ms' < length ms) ⊎ (length ms ≤ length ms') → (length ms ≤ length ms') × (ms ≡ drop (length ms' - length ms) ms') × ((w : ℕ) → Word n w → base w ≡ base' w)
    by (inl l) =
        let f = a.few in
        absurd (no_longer p n stands' stands worth' worth (same_back n stands stands' worth worth' same) b.sound a.sound base' base begun' begun ms' ms l b.valid (b.reach (omega (arith, l, f, le))) a.valid)
    by (inr l) = let s = same_sets p n stands stands' worth worth' same a.sound b.sound base base' ms ms' a.valid b.valid l in (l, s.0, s.1)
