-- What is told of a line of numbers.
use Rattle.std.specs.Prelude.{◌≡◌, ℕ, ◌+◌, ◌⊎◌, true, cond, nat_le, ⊤, List, [], ◌∷◌, ◌++◌, length, codes, decimal, pos, neg_ℤ, Some, None, Option, Ok, Err, Result}
use Rattle.ranking.specs.Trees.{stands, arc_worth}
use Rattle.reading.specs.Spaced.{Spells, SpellsNone}
use Rattle.refusal.specs.Refusals.{refused_text}
use Rattle.refusal.specs.declared.Refusal.{Refusal}
use Rattle.search.specs.Answer.{TreeTold}
use Rattle.search.specs.Choice.{Finds}
use Rattle.sheet.specs.Arcs.{Arcs, HoldsArcs, changed_if_done, no_arcs}
use Rattle.sheet.specs.Calls.{checked, open_check, put_check}
use Rattle.sheet.specs.declared.Lengths.{Lengths}
use Rattle.tree.specs.Brackets.{bracketed}
use Rattle.tree.specs.Trees.{LineTree}
use Rattle.weight.specs.Numbers.{Score, score_worth, single}
use Rattle.weight.specs.Range.{Range}
use Rattle.weight.specs.Text.{text}

-- ---- the arcs

-- an arc, and what is told behind it
abbrev pub put_line : ℕ → ℕ → ℕ → List ℕ → List ℕ
put_line head dependent score rest = codes "arc " ++ (decimal head ++ (codes " to " ++ (decimal dependent ++ (codes ": " ++ (decimal score ++ (codes "\n" ++ rest))))))

-- an arc, and why it is refused, if it is
abbrev pub arc_text : ℕ → ℕ → ℕ → Result (Unit {0}) Refusal → List ℕ
arc_text head dependent score (Ok done) = put_line head dependent score []
arc_text head dependent score (Err why) = put_line head dependent score (refused_text why ++ codes "\n")

-- what the put of an arc answers: a score of a byte is an entry
abbrev pub put_told : ℕ → ℕ → ℕ → Result (Unit {0}) Refusal
put_told words head dependent = checked (put_check words 1640 40 head dependent true)

-- the arcs, each of three numbers
abbrev pub puts_text : ℕ → List ℕ → List ℕ
puts_text words [] = []
puts_text words (head ∷ []) = codes "no whole arc at the end\n"
puts_text words (head ∷ dependent ∷ []) = codes "no whole arc at the end\n"
puts_text words (head ∷ dependent ∷ score ∷ more) = arc_text head dependent score (put_told words head dependent) ++ puts_text words more

-- the arcs after the put of one
abbrev pub put_arc : ℕ → ℕ → ℕ → ℕ → Arcs Score → Arcs Score
put_arc words head dependent score arcs = changed_if_done head dependent (Some (single (pos score))) (put_told words head dependent) arcs

-- the arcs after all the puts, in their order
abbrev pub arcs_told : ℕ → List ℕ → Arcs Score → Arcs Score
arcs_told words [] arcs = arcs
arcs_told words (head ∷ []) arcs = arcs
arcs_told words (head ∷ dependent ∷ []) arcs = arcs
arcs_told words (head ∷ dependent ∷ score ∷ more) arcs = arcs_told words more (put_arc words head dependent score arcs)

-- the arcs that the puts of a line leave
abbrev pub arcs_of_line : ℕ → List ℕ → Arcs Score
arcs_of_line words numbers = arcs_told words numbers no_arcs

abbrev pub score_ranges : List Range
score_ranges = record { least = neg_ℤ (pos 1000000); greatest = pos 1000000 } ∷ []

-- whatever arcs the memory held before the puts, it holds them afterwards with those that were put
abbrev pub PutsHeld : ℕ → List ℕ → (weights weights' : List Score) → (sets sets' : List ℕ) → Type 0
PutsHeld words numbers weights weights' sets sets' =
    (arcs : Arcs Score) → HoldsArcs score_worth score_ranges words weights sets arcs → HoldsArcs score_worth score_ranges words weights' sets' (arcs_told words numbers arcs)

-- ---- the tree

-- a line for each head, the first of them that of the word w
abbrev pub head_lines : ℕ → List ℕ → List ℕ
head_lines w [] = []
head_lines w (head ∷ heads) = codes "head of " ++ (decimal w ++ (codes ": " ++ (decimal head ++ (codes "\n" ++ head_lines (w + 1) heads))))

-- a text that has at most 160 bytes, or nothing
abbrev pub fitting : List ℕ → List ℕ
fitting shown = cond (nat_le (length shown) 160) shown []

-- the brackets of a tree, where they fit 160 bytes
abbrev pub BracketsOf : List ℕ → List ℕ → Type 0
BracketsOf heads shown = (root : ℕ) → LineTree heads root → shown ≡ fitting (bracketed heads root)

abbrev pub TreeText : Score → List ℕ → List ℕ → Type 0
TreeText weight heads told = (shown : List ℕ) × BracketsOf heads shown
    × (told ≡ (codes "weight: " ++ (text (score_worth weight) ++ codes "\n")) ++ (head_lines 1 heads ++ (codes "brackets: " ++ (shown ++ codes "\n"))))

-- what a search found: no tree, or one
abbrev pub AnswerText : Option Score → List ℕ → List ℕ → Type 0
AnswerText None heads told = told ≡ codes "no tree\n"
AnswerText (Some weight) heads told = TreeText weight heads told

-- no tree; or the one that a search's choices among equals lead to
abbrev pub ChosenTree : ℕ → Arcs Score → List ℕ → Option Score → Type 0
ChosenTree n arcs heads None = ⊤
ChosenTree n arcs heads (Some weight) = Finds n (stands arcs) (arc_worth score_worth arcs) heads

-- the text tells what a search of these arcs finds: no tree where there is none, or a heaviest one, which the arcs settle
abbrev pub TellsSearch : ℕ → Arcs Score → List ℕ → Type 0
TellsSearch n arcs told = (found : Option Score) × (heads : List ℕ)
    × AnswerText found heads told × TreeTold score_worth n (stands arcs) (arc_worth score_worth arcs) heads found × ChosenTree n arcs heads found

-- the text tells what a search of the arcs that the memory holds finds
abbrev pub TellsHeld : ℕ → List Score → List ℕ → List ℕ → Type 0
TellsHeld n weights sets told = (arcs : Arcs Score) → HoldsArcs score_worth score_ranges n weights sets arcs → TellsSearch n arcs told

-- ---- a line

-- how long the parts of the memory are
abbrev pub memory_lengths : Lengths
memory_lengths = record { weights = 1640; sets = 40; candidates = 51; nodes = 41; merges = 39; potentials = 41 }

-- the words, and then the arcs and what a search of those that were put finds; or why the words are refused
abbrev pub OpenedText : ℕ → List ℕ → Option Refusal → List ℕ → Type 0
OpenedText words arcs None told = (found : List ℕ) × TellsSearch words (arcs_of_line words arcs) found
    × (told ≡ (codes "words: " ++ (decimal words ++ codes "\n")) ++ (puts_text words arcs ++ found))
OpenedText words arcs (Some why) told = told ≡ (codes "words: " ++ (decimal words ++ codes "\n")) ++ (refused_text why ++ codes "\n")

-- the text tells what becomes of the line
abbrev pub TellsLine : List ℕ → List ℕ → Type 0
TellsLine line told = (SpellsNone line × (told ≡ codes "no list of numbers\n"))
    ⊎ ((words : ℕ) × (arcs : List ℕ) × Spells line (words ∷ arcs) × OpenedText words arcs (open_check words memory_lengths) told)

-- ---- what is to show
-- a line settles its text, to the byte
abbrev pub OneText : Type 0
OneText = (line told other : List ℕ) → TellsLine line told → TellsLine line other → told ≡ other
