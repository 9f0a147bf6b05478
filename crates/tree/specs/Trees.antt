-- What a dependency tree is, over lists of heads.
use Rattle.std.specs.Prelude.{◌≡◌, ℕ, ◌<◌, ◌≤◌, List, length, Some, None, Ok, Err, Option, Result}
use Rattle.refusal.specs.declared.Refusal.TheVariants.{NotATree}
use Rattle.refusal.specs.declared.Refusal.{Refusal}
use Rattle.tree.specs.Chains.{Word, head_of, up, Reaches, RunsIntoCycle, OnCycle, FirstAgain}

-- no word's chain of heads meets a word again
abbrev pub CycleFree : List ℕ → Type 0
CycleFree heads = (w : ℕ) → Word (length heads) w → RunsIntoCycle (head_of heads) w → ⊥

-- each of the n words has one head, on the line or the root, and no chain of heads runs into a cycle
pub record Arborescence (n : ℕ) (heads : List ℕ) : Type 0 where
  pub sized : length heads ≡ n
  pub in_line : (w : ℕ) → Word n w → head_of heads w ≤ n
  pub no_cycle : (w : ℕ) → Word n w → RunsIntoCycle (head_of heads) w → ⊥

-- the word hangs on the root, and no other does
pub record OnlyRoot (n : ℕ) (heads : List ℕ) (root : ℕ) : Type 0 where
  pub word : Word n root
  pub hangs : head_of heads root ≡ 0
  pub only : (w : ℕ) → Word n w → head_of heads w ≡ 0 → w ≡ root

-- a dependency tree of n words: an arborescence with just one word on the root
pub record SingleRootTree (n : ℕ) (heads : List ℕ) : Type 0 where
  pub shape : Arborescence n heads
  pub root : ℕ
  pub top : OnlyRoot n heads root

-- the heads are a single-root tree of 1 to 40 words, and `root` is the word that hangs on the root
pub record LineTree (heads : List ℕ) (root : ℕ) : Type 0 where
  pub few : length heads ≤ 40
  pub shape : Arborescence (length heads) heads
  pub top : OnlyRoot (length heads) heads root

-- every chain of heads is at the root after as many steps as there are words
abbrev pub Rooted : List ℕ → Type 0
Rooted heads = (w : ℕ) → w ≤ length heads → up (head_of heads) (length heads) w ≡ 0

-- the first word of a cycle: the first that the chain of the least word running into a cycle meets again
pub record FirstOnCycle (heads : List ℕ) (first : ℕ) : Type 0 where
  pub start : ℕ
  pub word : Word (length heads) start
  pub runs : RunsIntoCycle (head_of heads) start
  pub least : (w : ℕ) → Word (length heads) w → w < start → RunsIntoCycle (head_of heads) w → ⊥
  pub again : FirstAgain (head_of heads) start first

-- ---- what the calls tell

-- none, where no word runs into a cycle, or else a cycle's first word
abbrev pub ToldCycle : List ℕ → Option ℕ → Type 0
ToldCycle heads None = CycleFree heads
ToldCycle heads (Some w) = FirstOnCycle heads w

-- the only word on the root, or none where no word or more than one hangs there
abbrev pub ToldRoot : List ℕ → Option ℕ → Type 0
ToldRoot heads None = (w : ℕ) → OnlyRoot (length heads) heads w → ⊥
ToldRoot heads (Some w) = OnlyRoot (length heads) heads w

-- the root's word of a single-root tree of 1 to 40 words, or that the heads form none
abbrev pub Checked : List ℕ → Result ℕ Refusal → Type 0
Checked heads (Ok w) = LineTree heads w
Checked heads (Err e) = (e ≡ NotATree) × ((w : ℕ) → LineTree heads w → ⊥)

-- ---- laws

-- that no chain runs into a cycle is the same as that every chain comes to the root
abbrev pub RootedIsCycleFree : Type 0
RootedIsCycleFree =
    (heads : List ℕ) → ((w : ℕ) → Word (length heads) w → head_of heads w ≤ length heads) →
    (CycleFree heads → (w : ℕ) → Word (length heads) w → Reaches (head_of heads) w)
    × (((w : ℕ) → Word (length heads) w → Reaches (head_of heads) w) → CycleFree heads)

-- a word that lies on a cycle runs into one
abbrev pub OnCycleRuns : Type 0
OnCycleRuns = (heads : List ℕ) (w : ℕ) → OnCycle (head_of heads) w → RunsIntoCycle (head_of heads) w

-- a cycle's first word is a word of the line that lies on a cycle, and there is one such word only
abbrev pub FirstLies : Type 0
FirstLies = (heads : List ℕ) (w : ℕ) → FirstOnCycle heads w → Word (length heads) w × OnCycle (head_of heads) w

abbrev pub OneFirst : Type 0
OneFirst = (heads : List ℕ) (v w : ℕ) → FirstOnCycle heads v → FirstOnCycle heads w → v ≡ w
