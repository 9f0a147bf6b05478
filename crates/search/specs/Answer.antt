-- What a search for the heaviest tree answers
use Rattle.std.specs.Prelude.{◌≡◌, ℕ, ◌<◌, ◌≤◌, Bool, not, ◌&&◌, ◌⊎◌, List, length, take, drop, Some, None, Ok, Err, Option, Result, ◌==◌}
use Rattle.refusal.specs.declared.Refusal.{Refusal}
use Rattle.refusal.specs.declared.Refusal.TheVariants.{WordCount, ShortMemory, ShortSpace}
use Rattle.weight.specs.Range.{Range}
use Rattle.weight.specs.Worth.{Worth, Outweighs}
use Rattle.arborescence.specs.Heads.{TreeOver, worth_from}
use Rattle.word_set.specs.Bits.{in_set}
use Rattle.search.specs.Arcs.{Entries}

-- the heads are a single-root tree over the arcs that stand, the weight is the sum of its arcs, and no such tree outweighs it
pub record HeaviestTree {K : Type 0} (f : K → Worth) (n : ℕ) (stands : ℕ → ℕ → Bool) (worth : ℕ → ℕ → Worth) (heads : List ℕ) (weight : K) : Type 0 where
  pub tree : TreeOver n stands heads
  pub weighs : f weight ≡ worth_from worth 1 heads
  pub none_heavier : (other : List ℕ) → TreeOver n stands other → Outweighs (worth_from worth 1 other) (f weight) → ⊥

-- none where there is no single-root tree, or else the heaviest
abbrev pub TreeTold : {K : Type 0} (f : K → Worth) (n : ℕ) (stands : ℕ → ℕ → Bool) (worth : ℕ → ℕ → Worth) (heads : List ℕ) → Option K → Type 0
TreeTold f n stands worth heads None = (t : List ℕ) → TreeOver n stands t → ⊥
TreeTold f n stands worth heads (Some weight) = HeaviestTree f n stands worth heads weight

-- the space for the heads: as before, or with n heads at its front and the rest as before
abbrev pub Handed : {K : Type 0} (n : ℕ) (before after : List ℕ) → Option K → Type 0
Handed n before after None = after ≡ before
Handed n before after (Some weight) = drop n after ≡ drop n before

abbrev pub LineOfWords : ℕ → Type 0
LineOfWords n = (1 ≤ n) × (n ≤ 40)

-- which check fails first: the number of words, the memory, the space for the heads
abbrev pub FirstRefusal : (n : ℕ) (room : Type 0) (space : ℕ) → Refusal → Type 0
FirstRefusal n room space e = ((e ≡ WordCount) × (LineOfWords n → ⊥)) ⊎ (((e ≡ ShortMemory) × (LineOfWords n × (room → ⊥))) ⊎ ((e ≡ ShortSpace) × (LineOfWords n × (room × (space < n)))))

-- refused by the first check that fails, with the space as it was; or answered, truly wherever the weights looked at are entries
abbrev pub Searched : {K : Type 0} (f : K → Worth) (ranges : List Range) (n : ℕ) (stands : ℕ → ℕ → Bool) (worth : ℕ → ℕ → Worth) (room : Type 0) (before after : List ℕ) → Result (Option K) Refusal → Type 0
Searched f ranges n stands worth room before after (Err e) = FirstRefusal n room (length before) e × (after ≡ before)
Searched f ranges n stands worth room before after (Ok told) =
    LineOfWords n × room × (n ≤ length before) × Handed n before after told × (Entries n stands ranges worth → TreeTold f n stands worth (take n after) told)

-- the arcs without those from the barred heads into one word
abbrev pub barring : (ℕ → ℕ → Bool) → (word barred : ℕ) → ℕ → ℕ → Bool
barring stands word barred h d = stands h d && not (d == word && in_set barred h)
