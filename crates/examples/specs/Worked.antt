-- The worked lines.
use Rattle.std.specs.Prelude.{ℕ, codes, List, [], ◌∷◌, ◌++◌, ℤ, pos, neg_ℤ}
use Rattle.examples.specs.Lines.{Step, put, strike, WorkedLine, WorkedRow, scores, costs, marks, score_file, no_tree}
use Rattle.refusal.specs.declared.Refusal.TheVariants.{NoTree, NoMore}
use Rattle.weight.specs.Layers.{Mark, layer}
use Rattle.weight.specs.Numbers.{Score, Cost, single}

abbrev pub score : ℕ → Score
score x = single (pos x)

-- what costs x is worth −x
abbrev pub cost : ℕ → Cost
cost x = single (neg_ℤ (pos x))

abbrev pub mark : ℕ → ℤ → Mark Score
mark x y = layer (pos x) (single y)

-- weights on all arcs of two words: 0→1, 0→2, 1→2, 2→1
abbrev pub two_words : {K : Type 0} → K → K → K → K → List (Step K)
two_words a b c d = put 0 1 a ∷ put 0 2 b ∷ put 1 2 c ∷ put 2 1 d ∷ []

abbrev pub one_arc : WorkedLine Score
one_arc = record { words = 1; steps = put 0 1 (score 7) ∷ []; trees = (score 7, 0 ∷ []) ∷ []; last = NoMore }

abbrev pub no_arc : WorkedLine Score
no_arc = record { words = 1; steps = []; trees = []; last = NoTree }

-- both words could only hang on the root
abbrev pub two_roots : WorkedLine Score
two_roots = record { words = 2; steps = put 0 1 (score 5) ∷ put 0 2 (score 6) ∷ []; trees = []; last = NoTree }

abbrev pub four_arcs : WorkedLine Score
four_arcs =
    record { words = 2; steps = two_words (score 10) (score 8) (score 3) (score 4); trees = (score 13, 0 ∷ 1 ∷ []) ∷ (score 12, 2 ∷ 0 ∷ []) ∷ []; last = NoMore }

-- a file of these four: version, length, kind, words, and a record for each arc
abbrev pub four_records : List ℕ
four_records =
    (0x01 ∷ 0x00 ∷ 0x1A ∷ 0x01 ∷ 0x02 ∷ [])
    ++ (0x00 ∷ 0x01 ∷ 0x00 ∷ 0x00 ∷ 0x00 ∷ 0x0A ∷ [])
    ++ (0x00 ∷ 0x02 ∷ 0x00 ∷ 0x00 ∷ 0x00 ∷ 0x08 ∷ [])
    ++ (0x01 ∷ 0x02 ∷ 0x00 ∷ 0x00 ∷ 0x00 ∷ 0x03 ∷ [])
    ++ (0x02 ∷ 0x01 ∷ 0x00 ∷ 0x00 ∷ 0x00 ∷ 0x04 ∷ [])

-- the three lines that are printed of it: number, TAB, weight, TAB, heads
abbrev pub three_lines : List ℕ
three_lines = codes "1\t13\t0 1\n2\t12\t2 0\nno more\n"

-- the four arcs with 1→2 struck
abbrev pub one_struck : WorkedLine Score
one_struck = record { words = 2; steps = four_arcs.steps ++ (strike 1 2 ∷ []); trees = (score 12, 2 ∷ 0 ∷ []) ∷ []; last = NoMore }

-- the heavier arc from the root is in the lighter tree
abbrev pub lighter_root : WorkedLine Score
lighter_root =
    record { words = 2; steps = two_words (score 10) (score 8) (score 1) (score 9); trees = (score 17, 2 ∷ 0 ∷ []) ∷ (score 11, 0 ∷ 1 ∷ []) ∷ []; last = NoMore }

-- 1→2, 2→3 and 3→1 are a cycle
abbrev pub cycle : WorkedLine Score
cycle =
    record { words = 3; steps = put 0 1 (score 1) ∷ put 0 2 (score 2) ∷ put 1 2 (score 10) ∷ put 2 3 (score 10) ∷ put 3 1 (score 10) ∷ []; trees = (score 22, 3 ∷ 0 ∷ 2 ∷ []) ∷ (score 21, 0 ∷ 1 ∷ 2 ∷ []) ∷ []; last = NoMore }

-- the four scores as costs
abbrev pub four_costs : WorkedLine Cost
four_costs =
    record { words = 2; steps = two_words (cost 10) (cost 8) (cost 3) (cost 4); trees = (cost 12, 2 ∷ 0 ∷ []) ∷ (cost 13, 0 ∷ 1 ∷ []) ∷ []; last = NoMore }

-- marks come before scores
abbrev pub four_marks : WorkedLine (Mark Score)
four_marks =
    record { words = 2; steps = two_words (mark 0 (pos 100)) (mark 1 (neg_ℤ (pos 50))) (mark 0 (pos 7)) (mark 0 (neg_ℤ (pos 3))); trees = (mark 1 (neg_ℤ (pos 53)), 2 ∷ 0 ∷ []) ∷ (mark 0 (pos 107), 0 ∷ 1 ∷ []) ∷ []; last = NoMore }

abbrev pub worked_lines : List WorkedRow
worked_lines =
    scores one_arc
    ∷ scores no_arc
    ∷ scores two_roots
    ∷ score_file four_records four_arcs three_lines
    ∷ scores one_struck
    ∷ scores lighter_root
    ∷ scores cycle
    ∷ costs four_costs
    ∷ marks four_marks
    ∷ no_tree (0 ∷ 0 ∷ [])
    ∷ []
