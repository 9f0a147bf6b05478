-- Candidates in order of their weights.
use Rattle.std.specs.Prelude.{ℕ, ◌<◌, ◌≤◌, List, length, slice_index_or}
use Rattle.queue_test.specs.declared.Candidate.{Candidate}

-- no candidate is heavier than one before it
abbrev pub HeaviestFirst : List Candidate → Type 0
HeaviestFirst cs = (i j : ℕ) (d : Candidate) → i ≤ j → j < length cs → (slice_index_or cs j d).weight ≤ (slice_index_or cs i d).weight
