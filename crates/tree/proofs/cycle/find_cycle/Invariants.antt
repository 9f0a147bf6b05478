use Rattle.std.proofs.Common.{◌≡◌, ℕ, ◌+◌, ◌<◌, ◌≤◌, cond, length, sum_by}
use Rattle.tree.proofs.Walks.{Walked}
use Rattle.tree.proofs.cycle.find_cycle.Given as goal
use Rattle.tree.specs.Chains.{RunsIntoCycle, Word, head_of}

-- the walk has come to the word at hand
abbrev pub invariant-loop-word : goal.invariant-loop-word
invariant-loop-word l =
    (length l.seen ≡ 256)
    × (l.word < 256)
    × Walked l.heads l.seen l.first l.word

abbrev pub decreases-loop-word : goal.decreases-loop-word
decreases-loop-word l = sum_by (λ b. cond b 0 1) l.seen

-- no word before those still to come runs into a cycle
abbrev pub invariant-words : goal.invariant-words
invariant-words l =
    (1 ≤ l.words.start) × (l.words.end ≡ length l.heads + 1)
    × ((w : ℕ) → Word (length l.heads) w → w < l.words.start → RunsIntoCycle (head_of l.heads) w → ⊥)
