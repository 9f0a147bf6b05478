use Rattle.std.proofs.Common.{◌≡◌, ℕ, zero, suc, ◌^◌, ◌<◌, ◌≤◌, Bool, true, false, cond, ◌&&◌, ◌||◌, eqb, ◌⊎◌, List, [], ◌∷◌, All, sym, refl, ap, ◌∙◌, subst, inl, inr, arith}
use Rattle.std.proofs.lemmas.Bool.{both_ways, and_parts, or_cases, or_left, or_right, cases_eq, cond-true, cond-false, eq-eqb, ne_eqb, eqb-true}
use Rattle.std.specs.List.{list_any}
use Rattle.weight.specs.Worth.{Worth, zeros, plus}
use Rattle.tree.specs.Chains.{Word}
use Rattle.word_set.specs.Bits.{in_set}
use Rattle.word_set.proofs.Sets.{in_set_empty, lowest_in}
use Rattle.search.specs.Family.{Group, Valid}
use Rattle.search.specs.Choice.{opened}
use Rattle.search.specs.Opening.{Opened, Lined, Ended, OpensToBest}
use Rattle.search.proofs.Stages.{valid_begun, valid_laid}
use Rattle.search.proofs.Openings.{goal_of, open_start, open_done, open_own, open_end}

module _ (n : ℕ) (stands : ℕ → ℕ → Bool) (worth : ℕ → ℕ → Worth) (z : Worth) (nought : (h d : ℕ) → Word n d → h ≤ n → plus (worth h d) z ≡ worth h d) (base : ℕ → Group) where
  pub lined : (ms : List Group) → Valid n stands worth z base ms → Lined n base ms
  lined ms valid = record { words = λ w v. ((valid_begun n stands worth z nought base ms valid).words w v).arc.in_line; sets = each ms valid }
    where
      each : (ms : List Group) → Valid n stands worth z base ms → All (λ m. Word n m.to × (m.from ≤ n)) ms
      each [] valid k d lt = absurd (omega arith)
      each (m ∷ ms) valid zero d lt = (valid.1.union.word, valid.1.arc.in_line)
      each (m ∷ ms) valid (suc k) d lt = each ms valid.0 k d (omega arith)

-- ---- the heads are those of the opening in its order
pub opened_same : (n : ℕ) (f g : ℕ → ℕ) → ((v : ℕ) → Word n v → f v ≡ g v) → (done : List ℕ) (ms : List Group) (w : ℕ) → Word n w → opened done f ms w ≡ opened done g ms w
opened_same n f g same done [] w v = same w v
opened_same n f g same done (m ∷ ms) w v =
    ap (λ (x : ℕ). cond (list_any (in_set m.members) done) x (opened (m.to ∷ done) (λ u. cond (eqb u m.to) m.from (f u)) ms w)) (opened_same n f g same done ms w v)
    ∙ ap (cond (list_any (in_set m.members) done) (opened done g ms w)) (opened_same n (λ u. cond (eqb u m.to) m.from (f u)) (λ u. cond (eqb u m.to) m.from (g u)) (λ u k. ap (cond (eqb u m.to) m.from) (same u k)) (m.to ∷ done) ms w v)

-- the words of `done`, the latest first, and what is left to open comes to the same heads as the whole
pub record Followed (n : ℕ) (base : ℕ → Group) (all ms : List Group) (done : ℕ) (head : ℕ → ℕ) : Type 0 where
  pub order : List ℕ
  pub words : (v : ℕ) → in_set done v ≡ list_any (eqb v) order
  pub same : (w : ℕ) → Word n w → opened order head ms w ≡ opened [] (λ v. (base v).from) all w

shares : (S : ℕ) (order : List ℕ) (v : ℕ) → list_any (eqb v) order ≡ true → in_set S v ≡ true → list_any (in_set S) order ≡ true
shares S [] v t s = absurd (both_ways false refl t)
shares S (x ∷ xs) v t s = by (or_cases (eqb v x) (list_any (eqb v) xs) t) (shares S xs v)
  where
    by : (eqb v x ≡ true) ⊎ (list_any (eqb v) xs ≡ true) → (list_any (eqb v) xs ≡ true → in_set S v ≡ true → list_any (in_set S) xs ≡ true) → (in_set S x || list_any (in_set S) xs) ≡ true
    by (inl e) more = or_left (in_set S x) (list_any (in_set S) xs) (subst (λ (y : ℕ). in_set S y ≡ true) (eqb-true v x e) s)
    by (inr u) more = or_right (in_set S x) (list_any (in_set S) xs) (more u s)

shares_none : (S : ℕ) (order : List ℕ) → ((v : ℕ) → list_any (eqb v) order ≡ true → in_set S v ≡ false) → list_any (in_set S) order ≡ false
shares_none S [] none = refl
shares_none S (x ∷ xs) none =
    rw (none x (or_left (eqb x x) (list_any (eqb x) xs) (eq-eqb x x refl))) (shares_none S xs (λ v t. none v (or_right (eqb v x) (list_any (eqb v) xs) t)))

-- the sets that are left to open, the newest first
pub record Left (p n : ℕ) (base : ℕ → Group) (all ms : List Group) (done : ℕ) (head : ℕ → ℕ) : Type 0 where
  pub lined : All (λ m. Word n m.to × (m.from ≤ n)) ms
  pub words : (v : ℕ) → in_set done v ≡ true → Word n v
  pub followed : Followed n base all ms done head
  pub opened : (stands : ℕ → ℕ → Bool) (worth : ℕ → ℕ → Worth) → Ended p n stands worth base all → Valid n stands worth (zeros (suc p)) base ms × Opened n stands worth (zeros (suc p)) base ms (goal_of n base all) done head

-- a word that two sets share, where what they share is not empty
meeting : {n : ℕ} (a b shared : ℕ) → shared < 2 ^ 64 → (shared ≡ 0 → ⊥) → ((v : ℕ) → in_set shared v ≡ (in_set a v && in_set b v)) → ((v : ℕ) → in_set b v ≡ true → Word n v) → (v : ℕ) × Word n v × (in_set a v ≡ true) × (in_set b v ≡ true)
meeting a b shared few some is words =
    let at = lowest_in shared (omega (arith, some)) few in
    let p = and_parts (in_set a _) (in_set b _) (sym (is _) ∙ at.1) in
    (_, words _ p.1, p.0, p.1)

module _ (p n : ℕ) (base : ℕ → Group) (all : List Group) where
  pub left_start : (done : ℕ) (head : ℕ → ℕ) → Lined n base all → ((v : ℕ) → in_set done v ≡ false) → ((w : ℕ) → Word n w → head w ≡ (base w).from) → Left p n base all all done head
  left_start done head lined none fill =
      record {
        lined = lined.sets;
        followed = record { order = []; words = none; same = opened_same n head (λ v. (base v).from) fill [] all };
        words = λ v t. absurd (both_ways (in_set done v) (none v) t);
        opened = λ stands worth ended.
            let z : Worth = zeros (suc p) in
            (ended.valid, open_start n stands worth z ended.sound.whole base all ended.valid (valid_laid n stands worth z ended.sound.whole base all ended.valid) ended.reach done head none fill);
      }

  -- a word of the set has its head already
  pub left_done : (m : Group) (ms : List Group) (done shared : ℕ) (head : ℕ → ℕ) → shared < 2 ^ 64 → (shared ≡ 0 → ⊥) → ((v : ℕ) → in_set shared v ≡ (in_set m.members v && in_set done v)) → Left p n base all (m ∷ ms) done head → Left p n base all ms done head
  left_done m ms done shared head few some is left =
      record {
        lined = λ k d lt. left.lined (suc k) d (omega arith);
        words = left.words;
        followed =
            let v = meeting m.members done shared few some is left.words in
            let f = left.followed in
            record { order = f.order; words = f.words; same = λ w k. sym (cond-true _ _ _ (shares m.members f.order v.0 (sym (f.words v.0) ∙ v.3) v.2)) ∙ f.same w k };
        opened = λ stands worth ended.
            let v = meeting m.members done shared few some is left.words in
            let o = left.opened stands worth ended in
            (o.0.0, open_done n stands worth (zeros (suc p)) ended.sound.whole base m ms o.0 (goal_of n base all) done head o.1 v.0 v.1 v.2 v.3);
      }

  -- none has
  pub left_own : (m : Group) (ms : List Group) (done done' bit shared : ℕ) (head head' : ℕ → ℕ) → shared ≡ 0 → ((v : ℕ) → in_set shared v ≡ (in_set m.members v && in_set done v)) → ((v : ℕ) → in_set done' v ≡ (in_set done v || in_set bit v)) → ((v : ℕ) → in_set bit v ≡ eqb v m.to) →
      head' m.to ≡ m.from → ((w : ℕ) → (w ≡ m.to → ⊥) → head' w ≡ head w) → Left p n base all (m ∷ ms) done head → Left p n base all ms done' head'
  left_own m ms done done' bit shared head head' none both is one here there left =
      record {
        lined = λ k d lt. left.lined (suc k) d (omega arith);
        followed =
            let f = left.followed in
            let none : list_any (in_set m.members) f.order ≡ false =
            shares_none m.members f.order (λ v t. other (in_set m.members v) (in_set done v) (f.words v ∙ t) (sym (both v) ∙ (ap (λ (x : ℕ). in_set x v) none ∙ in_set_empty v))) in
            record {
              order = m.to ∷ f.order;
              words = λ v. is v ∙ now (in_set done v) (in_set bit v) (eqb v m.to) (list_any (eqb v) f.order) (one v) (f.words v);
              same = λ w k.
                  opened_same n head' (λ v. cond (eqb v m.to) m.from (head v)) (λ v u. written v (cases_eq v m.to)) (m.to ∷ f.order) ms w k
                  ∙ (sym (cond-false _ _ _ none) ∙ f.same w k);
            };
        words = λ v t. word v (or_cases (in_set done v) (in_set bit v) (sym (is v) ∙ t));
        opened = λ stands worth ended.
            let o = left.opened stands worth ended in
            (o.0.0, open_own n stands worth (zeros (suc p)) ended.sound.whole base m ms o.0 (goal_of n base all) done done' head head' o.1 (λ v w t. apart (in_set m.members v) (in_set done v) t (sym (both v) ∙ (ap (λ (x : ℕ). in_set x v) none ∙ in_set_empty v))) (λ v. is v ∙ ap (λ (b : Bool). in_set done v || b) (one v)) here (λ w v q. there w q));
      }
    where
      other : (a b : Bool) → b ≡ true → (a && b) ≡ false → a ≡ false
      other true b t e = absurd (both_ways b e t)
      other false b t e = refl

      now : (a b c d : Bool) → b ≡ c → a ≡ d → (a || b) ≡ (c || d)
      now true b true d e f = refl
      now true b false d e f = f
      now false b true d e f = e
      now false b false d e f = e ∙ f

      written : (v : ℕ) → (v ≡ m.to) ⊎ (v ≡ m.to → ⊥) → head' v ≡ cond (eqb v m.to) m.from (head v)
      written v (inl e) = ap head' e ∙ (here ∙ sym (cond-true (eqb v m.to) m.from (head v) (eq-eqb v m.to e)))
      written v (inr e) = there v e ∙ sym (cond-false (eqb v m.to) m.from (head v) (ne_eqb v m.to e))

      apart : (a b : Bool) → a ≡ true → (a && b) ≡ false → b ≡ false
      apart true b t e = e
      apart false b t e = absurd (both_ways false refl t)

      word : (v : ℕ) → (in_set done v ≡ true) ⊎ (in_set bit v ≡ true) → Word n v
      word v (inl t) = left.words v t
      word v (inr t) = subst (Word n) (sym (eqb-true v m.to (sym (one v) ∙ t))) (left.lined 0 m (omega arith)).0

  pub left_end : (done : ℕ) (head : ℕ → ℕ) → Left p n base all [] done head → OpensToBest p n base all head
  left_end done head left stands worth ended = open_end n stands worth (zeros (suc p)) ended.sound.whole base all ended.valid done head (left.opened stands worth ended).1

  pub left_heads : (done : ℕ) (head : ℕ → ℕ) → Left p n base all [] done head → (w : ℕ) → Word n w → head w ≡ opened [] (λ v. (base v).from) all w
  left_heads done head left = left.followed.same
