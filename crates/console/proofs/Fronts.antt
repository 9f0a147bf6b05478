-- The first of the lines of an input.
use Rattle.std.proofs.Common.{◌≡◌, ◌≢◌, ℕ, ◌+◌, ◌-◌, ◌<◌, ◌≤◌, cond, List, [], ◌∷◌, ◌++◌, length, take, All, Option, None, Some, OnSome, MatchOption, Ok, Err, refl, sym, ap, subst, ◌∙◌, arith, ne_eqb, append_assoc, append-nil, length-append, take_all}
use Rattle.std.proofs.lemmas.Grind.{common_steps}
use Rattle.std.proofs.lemmas.List.{take_more}
use Rattle.std.proofs.lemmas.List.Elements.{All-head, All-tail, All-append}
use Rattle.std.specs.Io.{StopsAt, IsEmptyOrEndsWith}
use Rattle.std.specs.Io.BufRead.{strip_last}
use Rattle.std.specs.Io.KnownBytes.{Consumes, IsAtEnd}
use Rattle.std.specs.Global.{Vec}
use Rattle.console.specs.Lines.{lines_in, onto_first, line_item, GivesLine, IsLine}
use Rattle.console.specs.declared.LineError.TheVariants.{TooLong}

-- bytes in front of the first of the lines
abbrev onto : List ℕ → List (List ℕ) → List (List ℕ)
onto [] lines = lines
onto (x ∷ xs) lines = onto_first x (onto xs lines)

onto_line : (xs : List ℕ) (lines : List (List ℕ)) → onto xs ([] ∷ lines) ≡ xs ∷ lines
onto_line [] lines = refl
onto_line (x ∷ xs) lines = ap (onto_first x) (onto_line xs lines)

onto_none : (x : ℕ) (xs : List ℕ) → onto (x ∷ xs) [] ≡ (x ∷ xs) ∷ []
onto_none x [] = refl
onto_none x (y ∷ xs) = ap (onto_first x) (onto_none y xs)

onto_more : (xs line : List ℕ) (lines : List (List ℕ)) → onto xs (line ∷ lines) ≡ (xs ++ line) ∷ lines
onto_more [] line lines = refl
onto_more (x ∷ xs) line lines = ap (onto_first x) (onto_more xs line lines)

-- a front without LF
front_lines : (xs ys : List ℕ) → All (λ b. b ≢ 10) xs → lines_in (xs ++ ys) ≡ onto xs (lines_in ys)
front_lines [] ys none = refl
front_lines (x ∷ xs) ys none =
    ap (λ b. cond b ([] ∷ lines_in (xs ++ ys)) (onto_first x (lines_in (xs ++ ys)))) (ne_eqb x 10 (All-head (λ b. b ≢ 10) x xs none))
    ∙ ap (onto_first x) (front_lines xs ys (All-tail (λ b. b ≢ 10) x xs none))

-- a line with its LF
pub ended_line : (line rest : List ℕ) → All (λ b. b ≢ 10) line → lines_in (line ++ 10 ∷ rest) ≡ line ∷ lines_in rest
ended_line line rest none = front_lines line (10 ∷ rest) none ∙ onto_line line (lines_in rest)

-- the last line, without one
pub last_line : (line : List ℕ) → 0 < length line → All (λ b. b ≢ 10) line → lines_in line ≡ line ∷ []
last_line [] some none = absurd (omega arith)
last_line (x ∷ xs) some none = ap lines_in (sym (append-nil (x ∷ xs))) ∙ front_lines (x ∷ xs) [] none ∙ onto_none x xs

-- a front without LF is the front of the first line
pub long_line : (front rest : List ℕ) → 0 < length front → All (λ b. b ≢ 10) front → (line : List ℕ) × (lines : List (List ℕ)) × (lines_in (front ++ rest) ≡ line ∷ lines) × (length front ≤ length line)
long_line [] rest some none = absurd (omega arith)
long_line (x ∷ xs) rest some none = at (lines_in rest) (front_lines (x ∷ xs) rest none)
  where
    at : (ls : List (List ℕ)) → lines_in ((x ∷ xs) ++ rest) ≡ onto (x ∷ xs) ls → (line : List ℕ) × (lines : List (List ℕ)) × (lines_in ((x ∷ xs) ++ rest) ≡ line ∷ lines) × (length (x ∷ xs) ≤ length line)
    at [] e = (x ∷ xs, [], e ∙ onto_none x xs, omega arith)
    at (l ∷ ls) e = ((x ∷ xs) ++ l, ls, e ∙ onto_more (x ∷ xs) l ls, omega (arith, length-append (x ∷ xs) l))

strip_end : (xs : List ℕ) → strip_last 10 (xs ++ 10 ∷ []) ≡ xs
strip_end xs = grind (arith, common_steps)

strip_none : (xs : List ℕ) → All (λ b. b ≢ 10) xs → strip_last 10 xs ≡ xs
strip_none xs none = grind (arith, common_steps)

-- what was read up to an end of the line: it has an LF last and nowhere before, or none and nothing is left
read_line : (read part rest : List ℕ) → All (λ b. b ≢ 10) read → StopsAt part 10 → IsEmptyOrEndsWith part 10 → (length part ≡ 0 → rest ≡ []) → 0 < length (read ++ part)
    → length read < 65536 → length (read ++ part) ≤ 65536 → let line = strip_last 10 (read ++ part) in
    All (λ b. b ≢ 10) line × (length line < 65536) × (lines_in (read ++ (part ++ rest)) ≡ line ∷ lines_in rest)
read_line read [] rest none stops ends over some short few =
    let all : read ++ [] ≡ read = append-nil read in
    let whole : strip_last 10 (read ++ []) ≡ read = ap (strip_last 10) all ∙ strip_none read none in
    let left : rest ≡ [] = over refl in (
      subst (All (λ b. b ≢ 10)) (sym whole) none,
      subst (λ l. length l < 65536) (sym whole) short,
      ap (λ l. lines_in (read ++ l)) left ∙ ap lines_in all ∙ last_line read (subst (λ l. 0 < length l) all some) none ∙ ap (λ l. l ∷ lines_in []) (sym whole) ∙ ap (λ l. strip_last 10 (read ++ []) ∷ lines_in l) (sym left),
    )
read_line read (p ∷ ps) rest none stops ends over some short few =
    let part = p ∷ ps in
    let front = take (length part - 1) part in
    let split : part ≡ front ++ 10 ∷ [] =
    sym (take_all (length part - 1 + 1) part (omega arith)) ∙ take_more part (length part - 1) 0 (omega arith) ∙ ap (λ y. front ++ y ∷ []) (ends (omega arith)) in
    let line = read ++ front in
    let joined : read ++ part ≡ line ++ 10 ∷ [] = ap (λ l. read ++ l) split ∙ sym (append_assoc read front (10 ∷ [])) in
    let whole : strip_last 10 (read ++ part) ≡ line = ap (strip_last 10) joined ∙ strip_end line in
    let clean : All (λ b. b ≢ 10) line = All-append (λ b. b ≢ 10) read front none stops in
    let bytes : read ++ (part ++ rest) ≡ line ++ 10 ∷ rest = sym (append_assoc read part rest) ∙ ap (λ l. l ++ rest) joined ∙ append_assoc line (10 ∷ []) rest in (
      subst (All (λ b. b ≢ 10)) (sym whole) clean,
      subst (λ l. length l < 65536) (sym whole) (omega (arith, length-append line (10 ∷ []), ap length joined)),
      ap lines_in bytes ∙ ended_line line rest clean ∙ ap (λ l. l ∷ lines_in rest) (sym whole),
    )

empty_is : (xs : List ℕ) → length xs ≡ 0 → xs ≡ []
empty_is [] none = refl
empty_is (x ∷ xs) none = absurd (omega arith)

-- where 65,536 bytes came without LF, the line is too long
pub given_long : (before after : Option (List ℕ)) (read : List ℕ) → Consumes before after read → All (λ b. b ≢ 10) read → 65536 ≤ length read → GivesLine before (Some (Err TooLong)) after
given_long None after read taken none long = tt
given_long (Some bytes) None read taken none long = absurd taken
given_long (Some bytes) (Some rest) read taken none long =
    let (line, lines, is, longer) = long_line read rest (omega arith) none in
    (line, lines, ap lines_in taken ∙ is, omega arith)

-- where the line ended, it is given
pub given_line : (before middle after : Option (List ℕ)) (read part whole : List ℕ) (item : Option (Vec ℕ)) → Consumes before middle read → All (λ b. b ≢ 10) read
    → Consumes middle after part → StopsAt part 10 → IsEmptyOrEndsWith part 10 → (length part ≡ 0 → OnSome middle (IsAtEnd after)) → whole ≡ read ++ part
    → length read < 65536 → length whole ≤ 65536
    → MatchOption item (whole ≡ []) (λ line. (0 < length whole) × (line.items ≡ strip_last 10 whole)) → GivesLine before (line_item (Ok item)) after
given_line None middle after read part whole item taken none more stops ends over is short few without = tt
given_line (Some bytes) None after read part whole item taken none more stops ends over is short few without = absurd taken
given_line (Some bytes) (Some mid) None read part whole item taken none more stops ends over is short few without = absurd more
given_line (Some bytes) (Some mid) (Some rest) read part whole None taken none more stops ends over is short few without =
    let empty : length (read ++ part) ≡ 0 = ap length (sym is ∙ without) in
    let no_part : length part ≡ 0 = omega (arith, length-append read part) in
    let left : rest ≡ [] = over no_part in
    let all : bytes ≡ read ++ (part ++ rest) = taken ∙ ap (λ l. read ++ l) more in
    ap lines_in (empty_is bytes (omega (arith, ap length all, length-append read (part ++ rest), length-append read part, length-append part rest, ap length left)))
given_line (Some bytes) (Some mid) (Some rest) read part whole (Some line) taken none more stops ends over is short few without =
    ap lines_in (taken ∙ ap (λ l. read ++ l) more)
    ∙ (read_line read part rest none stops ends over (subst (λ l. 0 < length l) is without.0) short (subst (λ l. length l ≤ 65536) is few)).2
    ∙ ap (λ l. l ∷ lines_in rest) (ap (strip_last 10) (sym is) ∙ sym without.1)

-- and it is a line
pub given_clean : (read part whole : List ℕ) (item : Option (Vec ℕ)) → All (λ b. b ≢ 10) read → StopsAt part 10 → IsEmptyOrEndsWith part 10 → whole ≡ read ++ part
    → length read < 65536 → length whole ≤ 65536
    → MatchOption item (whole ≡ []) (λ line. (0 < length whole) × (line.items ≡ strip_last 10 whole)) → IsLine (line_item (Ok item))
given_clean read part whole None none stops ends is short few without = tt
given_clean read part whole (Some line) none stops ends is short few without =
    let e : line.items ≡ strip_last 10 (read ++ part) = without.1 ∙ ap (strip_last 10) is in
    let facts = read_line read part [] none stops ends (λ _. refl) (subst (λ l. 0 < length l) is without.0) short (subst (λ l. length l ≤ 65536) is few) in
    (subst (All (λ b. b ≢ 10)) (sym e) facts.0, subst (λ l. length l < 65536) (sym e) facts.1)
