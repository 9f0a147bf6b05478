use Rattle.arborescence.proofs.laws.Goals as goal
use Rattle.arborescence.proofs.Above as above
use Rattle.arborescence.proofs.Bounded.{sized_merge}
use Rattle.arborescence.proofs.Carried as carried
use Rattle.arborescence.proofs.Rooted as rooted
use Rattle.arborescence.proofs.Whole as whole

pub returns : goal.returns
returns c =
    record { none = above.none; start = whole.good_start; merge = whole.good_merge; kept = carried.kept; best = whole.best_tree; bounds = sized_merge; single = rooted.single; heaviest = rooted.best_single }
