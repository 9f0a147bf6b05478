-- A ranking that stands has handed out truly whatever it has handed out.
use Rattle.std.proofs.Common.{◌≡◌, ℕ, ◌<◌, ◌≤◌, Bool, true, cond, ◌⊎◌, List, [], ◌∷◌, take, sym, refl, ap, ◌∙◌, subst, inl, inr, arith}
use Rattle.ranking.specs.Order.{InOrder}
use Rattle.ranking.specs.Takes.{HandedOut}
use Rattle.ranking.specs.Trees.{tree_worth}
use Rattle.run.specs.Law.{Run, standing, taken, ranks, TakeAnswers, Answers, Keeps, TrueRanking}
use Rattle.run.specs.declared.Answer.TheVariants.{Done, Handed, Misplaced}
use Rattle.run.specs.declared.Answer.{Answer}
use Rattle.run.specs.declared.Call.TheVariants.{Put, Strike, Begin, Take, End}
use Rattle.run.specs.declared.Call.{Call}
use Rattle.sheet.specs.Arcs.{Arcs}
use Rattle.std.proofs.lemmas.Bool.{cases_lt}
use Rattle.weight.specs.Range.{Range}
use Rattle.weight.specs.Worth.{Worth, Outweighs}

module _ {K : Type 0} (worth : K → Worth) (ranges : List Range) (n : ℕ) where
  -- a ranking begun with no tree taken
  begun : (arcs : Arcs K) → TrueRanking worth n arcs []
  begun arcs = record { once = tt; few = omega arith; trees = tt; falling = tt; none_skipped = λ t is m. tt; order = ([], refl, tt) }

  -- one tree more
  handed : (arcs : Arcs K) (ts : List (List ℕ)) (heads : List ℕ) (k : K) (c : ℕ) → HandedOut worth n arcs ts heads k c → InOrder worth n arcs (heads ∷ ts) → TrueRanking worth n arcs ts → TrueRanking worth n arcs (heads ∷ ts)
  handed arcs ts heads k c h order r = record {
    once = (h.untaken, r.once);
    few = let f = h.few in omega arith;
    trees = (h.tree, r.trees);
    falling = (r.none_skipped heads h.tree h.untaken, r.falling);
    none_skipped = λ t is m. (λ o. h.none_heavier t (is, λ a. m (inr a)) (subst (Outweighs (tree_worth worth arcs t)) (sym h.weighs) o), r.none_skipped t is (λ a. m (inr a)));
    order = order;
  }

  -- what has no place in a ranking is answered so
  no_place : (b : Bool) (a x : Answer K) → b ≡ true → a ≡ cond b Misplaced x → a ≡ Misplaced
  no_place b a x e q = q ∙ ap (λ (c : Bool). cond c Misplaced x) e

  turn : (run : Run K) (call : Call K) (answer : Answer K) → (ranks run ≡ true → TrueRanking worth n (standing run) (taken n run)) → Answers worth ranges n (standing run) (taken n run) (ranks run) call answer →
      ranks (record { call = call; answer = answer } ∷ run) ≡ true → TrueRanking worth n (standing (record { call = call; answer = answer } ∷ run)) (taken n (record { call = call; answer = answer } ∷ run))
  turn run (Put h d k) a old q e = rw (no_place (ranks run) a _ e q) (old e)
  turn run (Strike h d) a old q e = rw (no_place (ranks run) a _ e q) (old e)
  turn run Begin Done old q e = begun (standing run)
  turn run Begin _ old q e = old e
  turn run (Take s) (Handed hs t) old q e = by (cases_lt s n) (q.1 e)
    where
      by : (s < n) ⊎ (n ≤ s) → TakeAnswers worth ranges n (standing run) (taken n run) s (Handed hs t) → TrueRanking worth n (standing run) (take n hs ∷ taken n run)
      by (inl lt) a = absurd (let z = a.0 lt in cc)
      by (inr le) a = handed (standing run) (taken n run) (take n hs) t.weight t.count (a.1 le).0.0 (a.1 le).0.1 (old e)
  turn run (Take s) _ old q e = old e
  turn run End Done old q e = absurd cc
  turn run End _ old q e = old e

  pub truly : (run : Run K) → Keeps worth ranges n run → ranks run ≡ true → TrueRanking worth n (standing run) (taken n run)
  truly [] k e = absurd cc
  truly (t ∷ run) k e = turn run t.call t.answer (truly run k.1) k.0 e
