use Rattle.std.proofs.Common.{refl}
use Rattle.weight.specs.Worth.{Worth, plus}
use Rattle.arborescence.specs.Sum.{sum_if}
use Rattle.arborescence.specs.Search.{leads, Built, GoodStart, GoodMerge, BestTree}
use Rattle.weight.proofs.Worths.{at_most_trans}
use Rattle.arborescence.proofs.Sums.{sum_le}
use Rattle.arborescence.proofs.Merged.{leader_from, merged_sets}
use Rattle.arborescence.proofs.Above.{start, merge, end}
use Rattle.arborescence.proofs.Below.{unmerge, bottom_from}

pub good_start : GoodStart
good_start n stands worth =
    record { sets = record { root = refl; word = λ w k. k; leader = λ w k. refl }; above = start n stands worth; below = λ goal b. b }

pub good_merge : GoodMerge
good_merge n stands worth rep add best S s from to union covers circle good =
    record { sets = merged_sets n rep S s good.sets union; above = λ head tree c choice. merge n stands worth rep add best S s good.sets union covers head tree c choice good.above; below = λ goal b. good.below goal (unmerge n stands worth rep add best S s from to goal good.sets union circle b) }

pub best_tree : BestTree
best_tree n stands worth rep add best from to good covers into is_best arrives =
    let goal : Worth = sum_if (leads rep) best n in
    let built : Built n stands worth rep add goal = record { from = from; to = to; arc = into; arrives = arrives; enough = sum_le (leads rep) best (λ ℓ. plus (worth (from ℓ) (to ℓ)) (add (to ℓ))) n (λ ℓ v t. is_best ℓ (leader_from n rep ℓ v t)) } in
    let words = good.below goal built in
    let t = bottom_from n stands worth goal words in
    (words.from, t.0, λ other tree. at_most_trans _ _ _ (end n stands worth rep add best good.sets covers good.above other tree) t.1)
