-- Two runs that have come to the same are answered alike.
use Rattle.std.proofs.Common.{◌≡◌, ℕ, zero, suc, ◌+◌, ◌<◌, ◌≤◌, Bool, true, false, cond, ◌⊎◌, List, [], ◌∷◌, ◌++◌, map, reverse, length, take, drop, is_some, Some, None, Ok, Err, Option, sym, refl, ap, ◌∙◌, subst, inl, inr, arith}
use Rattle.std.proofs.lemmas.Bool.{cases_lt, cases_Bool}
use Rattle.std.proofs.lemmas.List.{append-nil, length-append, length-map, length-reverse, map-append, reverse-append, reverse-reverse, take-append-drop}
use Rattle.file.specs.Formats.{Format}
use Rattle.ranking.proofs.Settling.{one_order, settled}
use Rattle.ranking.specs.Order.{InOrder, SameWorths}
use Rattle.ranking.specs.Trees.{weight_worth}
use Rattle.refusal.specs.declared.Refusal.TheVariants.{ShortSpace}
use Rattle.run.proofs.Truly.{truly}
use Rattle.run.specs.Alike.{TurnByTurn, CallAlike, AnswerAlike, CallsAlike, AnswersAlike, StandAlike, CameAlike, CallsSettle, RunsAlike, FreshAlike, ByHandAlike}
use Rattle.run.specs.Files.{file_turns, file_puts}
use Rattle.run.specs.Law.{Run, standing, arcs_after, taken, taken_after, ranks, ranks_after, put_answer, strike_answer, TakeTells, TakeAnswers, Answers, Keeps}
use Rattle.run.specs.declared.Answer.TheVariants.{Done, Handed, Refused, Misplaced}
use Rattle.run.specs.declared.Answer.{Answer}
use Rattle.run.specs.declared.Call.TheVariants.{Put, Strike, Begin, Take, End}
use Rattle.run.specs.declared.Call.{Call}
use Rattle.run.specs.declared.Turn.{Turn}
use Rattle.sheet.specs.Arcs.{Arcs, with_arc, named}
use Rattle.weight.specs.Range.{Range}
use Rattle.weight.specs.Worth.{Worth}

module _ {K : Type 0} (worth : K → Worth) (ranges : List Range) (n : ℕ) where
  -- ---- one answer
  alike_itself : (a : Answer K) → AnswerAlike worth a a
  alike_itself Done = tt
  alike_itself Misplaced = tt
  alike_itself (Refused e) = refl
  alike_itself (Handed h t) = (refl, refl, refl)

  -- two that are settled by one equation each
  alike : (a b x y : Answer K) → x ≡ y → a ≡ x → b ≡ y → AnswerAlike worth a b
  alike a b x y e p q = subst (AnswerAlike worth a) (p ∙ (e ∙ sym q)) (alike_itself a)

  module _ (arcs arcs' : Arcs K) (same : SameWorths worth arcs arcs') where
    tells_alike : (ts : List (List ℕ)) (a b : Answer K) → TakeTells worth ranges n arcs ts a → TakeTells worth ranges n arcs' ts b → AnswerAlike worth a b
    tells_alike ts (Handed h t) (Handed g s) x y =
        let r = settled worth n arcs arcs' same ts (take n h) (take n g) (Ok t) (Ok s) x.0 y.0 in
        (sym (take-append-drop n h) ∙ (ap (λ (xs : List ℕ). xs ++ drop n h) r.0 ∙ (ap (λ (xs : List ℕ). take n g ++ xs) (x.1 ∙ sym y.1) ∙ take-append-drop n g)), r.1, r.2)
    tells_alike ts (Handed h t) (Refused e) x y = settled worth n arcs arcs' same ts (take n h) [] (Ok t) (Err e) x.0 y
    tells_alike ts (Refused e) (Handed g s) x y = settled worth n arcs arcs' same ts [] (take n g) (Err e) (Ok s) x y.0
    tells_alike ts (Refused d) (Refused e) x y = settled worth n arcs arcs' same ts [] [] (Err d) (Err e) x y
    tells_alike ts (Handed h t) Done x y = absurd y
    tells_alike ts (Handed h t) Misplaced x y = absurd y
    tells_alike ts (Refused e) Done x y = absurd y
    tells_alike ts (Refused e) Misplaced x y = absurd y
    tells_alike ts Done b x y = absurd x
    tells_alike ts Misplaced b x y = absurd x

    takes_alike : (ts : List (List ℕ)) (space : ℕ) (a b : Answer K) → (space < n) ⊎ (n ≤ space) → TakeAnswers worth ranges n arcs ts space a → TakeAnswers worth ranges n arcs' ts space b → AnswerAlike worth a b
    takes_alike ts space a b (inl lt) x y = alike a b (Refused ShortSpace) (Refused ShortSpace) refl (x.0 lt) (y.0 lt)
    takes_alike ts space a b (inr le) x y = tells_alike ts a b (x.1 le) (y.1 le)

  -- what a call answers where two runs have come to the same
  module _ (arcs arcs' : Arcs K) (ts ts' : List (List ℕ)) (ranking ranking' : Bool) (s : StandAlike worth arcs arcs' ts ts' ranking ranking') (order : ranking ≡ true → InOrder worth n arcs ts) (order' : ranking' ≡ true → InOrder worth n arcs' ts') where
    one_list : ranking ≡ true → ts ≡ ts'
    one_list t = one_order worth n arcs arcs' s.worths ts ts' (order t) (order' (sym s.ranked ∙ t)) (s.counts t)

    answers_alike : (call other : Call K) (a b : Answer K) → CallAlike worth call other → Answers worth ranges n arcs ts ranking call a → Answers worth ranges n arcs' ts' ranking' other b → AnswerAlike worth a b
    answers_alike (Put h d k) (Put i e l) a b c x y =
        alike a b (cond ranking Misplaced (put_answer worth ranges n h d k)) (cond ranking' Misplaced (put_answer worth ranges n i e l)) (rw (c.0, c.1, c.2, s.ranked) refl) x y
    answers_alike (Strike h d) (Strike i e) a b c x y =
        alike a b (cond ranking Misplaced (strike_answer worth ranges n arcs h d)) (cond ranking' Misplaced (strike_answer worth ranges n arcs' i e))
        (let t = s.worths.stand h d in rw (← c.0, ← c.1, s.ranked, t) refl) x y
    answers_alike Begin Begin a b c x y = alike a b (cond ranking Misplaced Done) (cond ranking' Misplaced Done) (rw s.ranked refl) x y
    answers_alike End End a b c x y = alike a b (cond ranking Done Misplaced) (cond ranking' Done Misplaced) (rw s.ranked refl) x y
    answers_alike (Take m) (Take r) a b c x y = by (cases_Bool ranking)
      where
        by : (ranking ≡ true) ⊎ (ranking ≡ false) → AnswerAlike worth a b
        by (inl t) =
            takes_alike arcs arcs' s.worths ts m a b (cases_lt m n) (x.1 t)
            (subst (λ (vs : List (List ℕ)). TakeAnswers worth ranges n arcs' vs m b) (sym (one_list t)) (subst (λ (q : ℕ). TakeAnswers worth ranges n arcs' ts' q b) (sym c) (y.1 (sym s.ranked ∙ t))))
        by (inr f) = alike a b Misplaced Misplaced refl (x.0 f) (y.0 (sym s.ranked ∙ f))
    answers_alike _ _ a b c x y = absurd c

  -- ---- what they come to
  -- an arc that both change to weights of one worth
  arc_changed : (h d : ℕ) (w v : Option K) (x y : Arcs K) → is_some w ≡ is_some v → weight_worth worth w ≡ weight_worth worth v → SameWorths worth x y → SameWorths worth (with_arc h d w x) (with_arc h d v y)
  arc_changed h d w v x y e f s = record { stand = λ i j. stand (named h d i j) (x i j) (y i j) (s.stand i j); weigh = λ i j. weigh (named h d i j) (x i j) (y i j) (s.weigh i j) }
    where
      stand : (b : Bool) (a c : Option K) → is_some a ≡ is_some c → is_some (cond b w a) ≡ is_some (cond b v c)
      stand true a c q = e
      stand false a c q = q

      weigh : (b : Bool) (a c : Option K) → weight_worth worth a ≡ weight_worth worth c → weight_worth worth (cond b w a) ≡ weight_worth worth (cond b v c)
      weigh true a c q = f
      weigh false a c q = q

  module _ (x y : Arcs K) (ts ts' : List (List ℕ)) (p q : Bool) (s : StandAlike worth x y ts ts' p q) where
    abbrev After : (call other : Call K) (a b : Answer K) → Type 0
    After call other a b = StandAlike worth (arcs_after call a x) (arcs_after other b y) (taken_after n call a ts) (taken_after n other b ts') (ranks_after call a p) (ranks_after other b q)

    comes_alike : (call other : Call K) (a b : Answer K) → CallAlike worth call other → AnswerAlike worth a b → After call other a b
    comes_alike (Put h d k) (Put i e l) Done Done c r =
        record {
          worths =
              subst (λ (j : ℕ). SameWorths worth (with_arc h d (Some k) x) (with_arc j e (Some l) y)) c.0
              (subst (λ (j : ℕ). SameWorths worth (with_arc h d (Some k) x) (with_arc h j (Some l) y)) c.1 (arc_changed h d (Some k) (Some l) x y refl c.2 s.worths));
          ranked = s.ranked;
          counts = s.counts;
        }
    comes_alike (Put h d k) (Put i e l) (Handed u t) (Handed v m) c r = s
    comes_alike (Put h d k) (Put i e l) (Refused u) (Refused v) c r = s
    comes_alike (Put h d k) (Put i e l) Misplaced Misplaced c r = s
    comes_alike (Put h d k) (Put i e l) _ _ c r = absurd r
    comes_alike (Strike h d) (Strike i e) Done Done c r =
        record {
          worths =
              subst (λ (j : ℕ). SameWorths worth (with_arc h d None x) (with_arc j e None y)) c.0
              (subst (λ (j : ℕ). SameWorths worth (with_arc h d None x) (with_arc h j None y)) c.1 (arc_changed h d None None x y refl refl s.worths));
          ranked = s.ranked;
          counts = s.counts;
        }
    comes_alike (Strike h d) (Strike i e) (Handed u t) (Handed v m) c r = s
    comes_alike (Strike h d) (Strike i e) (Refused u) (Refused v) c r = s
    comes_alike (Strike h d) (Strike i e) Misplaced Misplaced c r = s
    comes_alike (Strike h d) (Strike i e) _ _ c r = absurd r
    comes_alike Begin Begin Done Done c r = record { worths = s.worths; ranked = refl; counts = λ t. refl }
    comes_alike Begin Begin (Handed u t) (Handed v m) c r = s
    comes_alike Begin Begin (Refused u) (Refused v) c r = s
    comes_alike Begin Begin Misplaced Misplaced c r = s
    comes_alike Begin Begin _ _ c r = absurd r
    comes_alike (Take k) (Take l) Done Done c r = s
    comes_alike (Take k) (Take l) (Handed u t) (Handed v m) c r = record { worths = s.worths; ranked = s.ranked; counts = λ t. let e = s.counts t in omega (arith, e) }
    comes_alike (Take k) (Take l) (Refused u) (Refused v) c r = s
    comes_alike (Take k) (Take l) Misplaced Misplaced c r = s
    comes_alike (Take k) (Take l) _ _ c r = absurd r
    comes_alike End End Done Done c r = record { worths = s.worths; ranked = refl; counts = λ t. cc }
    comes_alike End End (Handed u t) (Handed v m) c r = s
    comes_alike End End (Refused u) (Refused v) c r = s
    comes_alike End End Misplaced Misplaced c r = s
    comes_alike End End _ _ c r = absurd r
    comes_alike _ _ a b c r = absurd c

  -- ---- whole runs
  calls_settle_on : (run other later later' : Run K) → Keeps worth ranges n (later ++ run) → Keeps worth ranges n (later' ++ other) → CameAlike worth n run other → CallsAlike worth later later' → AnswersAlike worth later later' × CameAlike worth n (later ++ run) (later' ++ other)
  calls_settle_on run other [] [] k q s c = (tt, s)
  calls_settle_on run other [] (u ∷ later') k q s c = absurd c
  calls_settle_on run other (t ∷ later) [] k q s c = absurd c
  calls_settle_on run other (t ∷ later) (u ∷ later') k q s c = by (calls_settle_on run other later later' k.1 q.1 s c.1)
    where
      by : AnswersAlike worth later later' × CameAlike worth n (later ++ run) (later' ++ other) → AnswersAlike worth (t ∷ later) (u ∷ later') × CameAlike worth n (t ∷ later ++ run) (u ∷ later' ++ other)
      by old =
          let xs = later ++ run in
          let ys = later' ++ other in
          let a : AnswerAlike worth t.answer u.answer =
          answers_alike (standing xs) (standing ys) (taken n xs) (taken n ys) (ranks xs) (ranks ys) old.1 (λ e. (truly worth ranges n xs k.1 e).order) (λ e. (truly worth ranges n ys q.1 e).order) t.call u.call t.answer u.answer c.0 k.0 q.0 in
          ((a, old.0), comes_alike (standing xs) (standing ys) (taken n xs) (taken n ys) (ranks xs) (ranks ys) old.1 t.call u.call t.answer u.answer c.0 a)

pub calls_settle : {K : Type 0} (worth : K → Worth) (ranges : List Range) → CallsSettle worth ranges
calls_settle worth ranges n = calls_settle_on worth ranges n

-- ---- turns in the order of the calls
module _ {K : Type 0} (R : Turn K → Turn K → Type 0) where
  appended : (xs ys us vs : Run K) → TurnByTurn R xs ys → TurnByTurn R us vs → TurnByTurn R (xs ++ us) (ys ++ vs)
  appended [] [] us vs a b = b
  appended [] (y ∷ ys) us vs a b = absurd a
  appended (x ∷ xs) [] us vs a b = absurd a
  appended (x ∷ xs) (y ∷ ys) us vs a b = (a.0, appended xs ys us vs a.1 b)

  turned : (xs ys : Run K) → TurnByTurn R xs ys → TurnByTurn R (reverse xs) (reverse ys)
  turned [] [] a = tt
  turned [] (y ∷ ys) a = absurd a
  turned (x ∷ xs) [] a = absurd a
  turned (x ∷ xs) (y ∷ ys) a =
      subst (λ (us : Run K). TurnByTurn R us (reverse (y ∷ ys))) (sym (reverse-append (x ∷ []) xs))
      (subst (TurnByTurn R (reverse xs ++ x ∷ [])) (sym (reverse-append (y ∷ []) ys)) (appended (reverse xs) (reverse ys) (x ∷ []) (y ∷ []) (turned xs ys a.1) (a.0, tt)))

  turned_back : (xs ys : Run K) → TurnByTurn R (reverse xs) (reverse ys) → TurnByTurn R xs ys
  turned_back xs ys a =
      subst (λ (us : Run K). TurnByTurn R us ys) (reverse-reverse xs) (subst (TurnByTurn R (reverse (reverse xs))) (reverse-reverse ys) (turned (reverse xs) (reverse ys) a))

module _ {K : Type 0} (worth : K → Worth) where
  call_alike_itself : (call : Call K) → CallAlike worth call call
  call_alike_itself (Put h d k) = (refl, refl, refl)
  call_alike_itself (Strike h d) = (refl, refl)
  call_alike_itself Begin = tt
  call_alike_itself (Take s) = refl
  call_alike_itself End = tt

  abbrev first_call : Call K → List (Call K) → Call K
  first_call d [] = d
  first_call d (c ∷ cs) = c

  same_calls : (run other : Run K) → map (λ t. t.call) run ≡ map (λ t. t.call) other → CallsAlike worth run other
  same_calls [] [] e = tt
  same_calls [] (s ∷ other) e = absurd (omega (arith, ap length e))
  same_calls (t ∷ run) [] e = absurd (omega (arith, ap length e))
  same_calls (t ∷ run) (s ∷ other) e = (subst (CallAlike worth t.call) (ap (first_call t.call) e) (call_alike_itself t.call), same_calls run other (ap (drop 1) e))

-- the answers of two runs with the same calls whose beginnings have come to the same
noted_alike : {K : Type 0} (worth : K → Worth) (ranges : List Range) (n : ℕ) (first first' xs ys : Run K) → CameAlike worth n first first' → Keeps worth ranges n (reverse xs ++ first) → Keeps worth ranges n (reverse ys ++ first') → map (λ t. t.call) xs ≡ map (λ t. t.call) ys →
    AnswersAlike worth xs ys
noted_alike worth ranges n first first' xs ys came keeps keeps' same =
    turned_back (λ t s. AnswerAlike worth t.answer s.answer) xs ys
    (calls_settle worth ranges n first first' (reverse xs) (reverse ys) keeps keeps' came (turned (λ t s. CallAlike worth t.call s.call) xs ys (same_calls worth xs ys same))).0

came_fresh : {K : Type 0} (worth : K → Worth) (n : ℕ) → CameAlike worth n [] []
came_fresh worth n = record { worths = record { stand = λ h d. refl; weigh = λ h d. refl }; ranked = refl; counts = λ t. refl }

pub runs_alike : {K : Type 0} (worth : K → Worth) (ranges : List Range) → RunsAlike worth ranges
runs_alike worth ranges n first first' calls memory memory' other other' turns turns' notes notes' came r q =
    noted_alike worth ranges n first first' (take (length calls) turns') (take (length calls) notes') came r.keeps q.keeps (r.noted ∙ sym q.noted)

pub fresh_alike : {K : Type 0} (worth : K → Worth) (ranges : List Range) → FreshAlike worth ranges
fresh_alike worth ranges n calls memory memory' other other' turns turns' notes notes' r q = runs_alike worth ranges n [] [] calls memory memory' other other' turns turns' notes notes' (came_fresh worth n) r q

-- a file has so many puts
puts_long : {K : Type 0} (f : Format K) (file : List ℕ) (count : ℕ) → length (file_turns f file count) ≡ count
puts_long f file zero = refl
puts_long f file (suc count) = ap suc (puts_long f file count)

pub by_hand_alike : {K : Type 0} (worth : K → Worth) (ranges : List Range) → ByHandAlike worth ranges
by_hand_alike {K} worth ranges n f file count calls memory memory' other other' turns turns' notes notes' r q =
    let first = file_turns f file count in
    let made = take (length calls) turns' in
    let long : length (file_puts f file count ++ calls) ≡ count + length calls = length-append (file_puts f file count) calls ∙ ap (λ (m : ℕ). m + length calls) (length-map (reverse first) (λ t. t.call) ∙ (length-reverse first ∙ puts_long f file count)) in
    let all = subst (λ (m : ℕ). (map (λ t. t.call) (take m notes') ≡ file_puts f file count ++ calls) × Keeps worth ranges n (reverse (take m notes') ++ [])) long (q.noted, q.keeps) in
    let whole : reverse (reverse first ++ made) ++ [] ≡ reverse made ++ first = append-nil (reverse (reverse first ++ made)) ∙ (reverse-append (reverse first) made ∙ ap (λ (xs : Run K). reverse made ++ xs) (reverse-reverse first)) in
    noted_alike worth ranges n [] [] (reverse first ++ made) (take (count + length calls) notes') (came_fresh worth n) (subst (Keeps worth ranges n) (sym whole) r.keeps) all.1
    (map-append (λ t. t.call) (reverse first) made ∙ (ap (λ (cs : List (Call K)). file_puts f file count ++ cs) r.noted ∙ sym all.0))
