use Rattle.std.proofs.Common.{◌≡◌, ℕ, Bool, true, leb, sym, ◌∙◌, subst, inl, inr, arith}
use Rattle.std.proofs.lemmas.Bool.{cases_lt, and_from, le-leb}
use Rattle.weight.specs.Range.{entry_in}
use Rattle.search.specs.Arcs.{stands_in, weight_in_graph}
use Rattle.search.proofs.graph.Graph.all_entries.Goals as goal

pub loop-to-preserved : goal.loop-to-preserved
loop-to-preserved g c h d v lt le t =
    elim (cases_lt d c.loop-to.to) [
      | inl l ↦ c.loop-to.invariant h d v l le t
      | inr l ↦
          let n : ℕ = c.args.self.now.words in
          let e : d ≡ c.loop-to.to = omega arith in
          let stands : ℕ → ℕ → Bool = stands_in c.args.self.now in
          let t' : stands h c.loop-to.to ≡ true = subst (λ (x : ℕ). stands h x ≡ true) e t in
          subst (λ (x : ℕ). entry_in g.K.Kind.ranges (weight_in_graph g.K.Kind.worth c.args.self.now h x) ≡ true) (sym e)
          (c.if-not-entries_into.ensures h (c.open_heads.ensures h ∙ and_from (leb h n) (stands h c.loop-to.to) (le-leb h n le) t'))
    ]
