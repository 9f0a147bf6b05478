-- The numbers by which refusals are told.
use Rattle.std.specs.Prelude.{ℕ, ◌≡◌, List, ◌++◌, decimal, codes}
use Rattle.refusal.specs.declared.Refusal.TheVariants.{WordCount, ShortMemory, NoDependent, HeadAbove, SelfLoop, NoEntry, AbsentArc, NoTree, NoMore, Fifty, ShortSpace, NotATree}
use Rattle.refusal.specs.declared.Refusal.{Refusal}

abbrev pub number_of : Refusal → ℕ
number_of WordCount = 1
number_of ShortMemory = 2
number_of NoDependent = 3
number_of HeadAbove = 4
number_of SelfLoop = 5
number_of NoEntry = 6
number_of AbsentArc = 7
number_of NoTree = 8
number_of NoMore = 9
number_of Fifty = 10
number_of ShortSpace = 14
number_of NotATree = 15

-- a refusal as it is printed: `refused `, and its number
abbrev pub refused_text : Refusal → List ℕ
refused_text refusal = codes "refused " ++ decimal (number_of refusal)

-- no two refusals have the same number
abbrev pub ToldApart : Type 0
ToldApart = (a b : Refusal) → number_of a ≡ number_of b → a ≡ b
