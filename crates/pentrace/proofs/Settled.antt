-- A script settles how it ends, and its text
use Rattle.pentrace.proofs.Asked.{one_order}
use Rattle.pentrace.specs.Orders.{Reads}
use Rattle.pentrace.specs.Script.{OneText, PartText, PartsText, Piece, RunOf, SheetText, calls_in, front, opened_parts, opens, parts, score_ranges}
use Rattle.pentrace.specs.Texts.{Line, answer_text, call_text, handed_text, lines_text, no_call_text, open_text, too_many_text, turn_text, weight_text, handed_heads_text}
use Rattle.pentrace.specs.declared.Order.TheVariants.{Open, Call as Asks}
use Rattle.pentrace.specs.declared.Order.{Order}
use Rattle.pentrace.specs.declared.ScriptEnd.TheVariants.{Whole, TooMany}
use Rattle.pentrace.specs.declared.ScriptEnd.{ScriptEnd}
use Rattle.run.specs.Alike.{AnswerAlike, AnswersAlike, CallAlike, CallsAlike, CallsSettle, CameAlike, TurnByTurn}
use Rattle.run.specs.Law.{Keeps, Run}
use Rattle.run.specs.declared.Answer.TheVariants.{Done, Handed, Refused, Misplaced}
use Rattle.run.specs.declared.Answer.{Answer}
use Rattle.run.specs.declared.Call.TheVariants.{Put, Strike, Begin, Take, End}
use Rattle.run.specs.declared.Call.{Call}
use Rattle.run.specs.declared.Turn.{Turn}
use Rattle.std.proofs.Common.{◌≡◌, ◌∷◌, ◌++◌, ◌∙◌, ◌⊎◌, inl, inr, refl, ℕ, ◌+◌, ◌<◌, ◌≤◌, Bool, true, false, List, [], length, map, reverse, take, Option, Some, None, Ok, Err, ap, sym, subst, append_assoc, append-nil, arith, length-append, codes, decimal}
use Rattle.std.proofs.lemmas.Bool.{cases_lt}
use Rattle.std.proofs.lemmas.List.{reverse-append, reverse-reverse, take-append-le}
use Rattle.std.specs.List.{AllZip}
use Rattle.weight.specs.Numbers.{Score, score_worth}
use Rattle.weight.specs.Text.{text}
use Rattle.weight.specs.Worth.{Worth}

-- ---- a part

call_alike : (call : Call Score) → CallAlike score_worth call call
call_alike (Put head dependent weight) = (refl, refl, refl)
call_alike (Strike head dependent) = (refl, refl)
call_alike Begin = tt
call_alike (Take room) = refl
call_alike End = tt

calls_alike : (run other : Run Score) → map (λ t. t.call) run ≡ map (λ t. t.call) other → CallsAlike score_worth run other
calls_alike [] [] e = tt
calls_alike [] (s ∷ other) e = absurd cc
calls_alike (t ∷ run) [] e = absurd cc
calls_alike (t ∷ run) (s ∷ other) e =
    let same : t.call ≡ s.call = cc in
    (subst (λ (c : Call Score). CallAlike score_worth t.call c) same (call_alike t.call), calls_alike run other cc)

module _ {K : Type 0} (R : Turn K → Turn K → Type 0) where
  joined : (run other later later' : Run K) → TurnByTurn R run other → TurnByTurn R later later' → TurnByTurn R (run ++ later) (other ++ later')
  joined [] [] later later' h k = k
  joined [] (s ∷ other) later later' h k = absurd h
  joined (t ∷ run) [] later later' h k = absurd h
  joined (t ∷ run) (s ∷ other) later later' h k = (h.0, joined run other later later' h.1 k)

  turned : (run other : Run K) → TurnByTurn R run other → TurnByTurn R (reverse run) (reverse other)
  turned [] [] h = tt
  turned [] (s ∷ other) h = absurd h
  turned (t ∷ run) [] h = absurd h
  turned (t ∷ run) (s ∷ other) h =
      subst (λ (l : Run K). TurnByTurn R l (reverse (s ∷ other))) (sym (reverse-append (t ∷ []) run))
      (subst (TurnByTurn R (reverse run ++ t ∷ [])) (sym (reverse-append (s ∷ []) other)) (joined (reverse run) (reverse other) (t ∷ []) (s ∷ []) (turned run other h.1) (h.0, tt)))

  turned_back : (run other : Run K) → TurnByTurn R (reverse run) (reverse other) → TurnByTurn R run other
  turned_back run other h =
      subst (λ (l : Run K). TurnByTurn R l other) (reverse-reverse run) (subst (TurnByTurn R (reverse (reverse run))) (reverse-reverse other) (turned (reverse run) (reverse other) h))

one_answer : (words : ℕ) (call : Call Score) (a b : Answer Score) → AnswerAlike score_worth a b → answer_text words call a ≡ answer_text words call b
one_answer words call Done Done h = refl
one_answer words call Done (Handed heads taken) h = absurd h
one_answer words call Done (Refused why) h = absurd h
one_answer words call Done Misplaced h = absurd h
one_answer words call (Handed heads taken) Done h = absurd h
one_answer words call (Handed heads taken) (Handed heads' taken') h =
    ap (λ l. handed_text words l taken) h.0
    ∙ ap (λ n. codes "tree " ++ (decimal n ++ (codes ", weight " ++ (weight_text taken.weight ++ (codes ", heads" ++ handed_heads_text (take words heads')))))) h.2
    ∙ ap (λ (w : Worth). codes "tree " ++ (decimal taken'.count ++ (codes ", weight " ++ (text w ++ (codes ", heads" ++ handed_heads_text (take words heads')))))) h.1
one_answer words call (Handed heads taken) (Refused why) h = absurd h
one_answer words call (Handed heads taken) Misplaced h = absurd h
one_answer words call (Refused why) Done h = absurd h
one_answer words call (Refused why) (Handed heads taken) h = absurd h
one_answer words call (Refused why) (Refused why') h = ap (λ e. answer_text words call (Refused e)) h
one_answer words call (Refused why) Misplaced h = absurd h
one_answer words call Misplaced Done h = absurd h
one_answer words call Misplaced (Handed heads taken) h = absurd h
one_answer words call Misplaced (Refused why) h = absurd h
one_answer words call Misplaced Misplaced h = refl

-- turns of the same calls, with the same answers, are told alike
one_told : (words : ℕ) (lines : List Line) (turns turns' : List (Turn Score)) → map (λ t. t.call) turns ≡ map (λ t. t.call) turns' → AnswersAlike score_worth turns turns' → lines_text words lines turns ≡ lines_text words lines turns'
one_told words [] turns turns' e h = refl
one_told words (Err number ∷ lines) turns turns' e h = ap (λ l. no_call_text number ++ l) (one_told words lines turns turns' e h)
one_told words (Ok call ∷ lines) [] [] e h = refl
one_told words (Ok call ∷ lines) [] (s ∷ turns') e h = absurd h
one_told words (Ok call ∷ lines) (t ∷ turns) [] e h = absurd h
one_told words (Ok call ∷ lines) (t ∷ turns) (s ∷ turns') e h =
    let same : t.call ≡ s.call = cc in
    let rest : map (λ t. t.call) turns ≡ map (λ t. t.call) turns' = cc in
    let answered : answer_text words t.call t.answer ≡ answer_text words s.call s.answer = ap (λ c. answer_text words c t.answer) same ∙ one_answer words s.call t.answer s.answer h.0 in
    ap (λ l. (call_text call ++ (codes ": " ++ (l ++ codes "\n"))) ++ lines_text words lines turns) answered
    ∙ ap (λ l. turn_text words call (Some s) ++ l) (one_told words lines turns turns' rest h.1)

-- ---- parts of more orders

-- the last part may go on, and others may stand behind it
abbrev Longer : List Piece → List Piece → Type 0
Longer [] qs = Unit {0}
Longer (p ∷ ps) [] = ⊥
Longer (p ∷ []) (q ∷ qs) = (q.words ≡ p.words) × (q.first ≡ p.first) × ((more : List Line) × (q.lines ≡ p.lines ++ more))
Longer (p ∷ p' ∷ ps) (q ∷ qs) = (q ≡ p) × Longer (p' ∷ ps) qs

-- the part that is read, with what the orders from line n on still bring to it, and the parts behind it
abbrev from : Option ℕ → ℕ → ℕ → List Line → List (Option Order) → List Piece
from words first n kept orders = record { words = words; first = first; lines = kept ++ front n orders } ∷ opened_parts n orders

-- a line comes to the part, whatever comes behind it
moved : (words : Option ℕ) (first n : ℕ) (kept : List Line) (line : Line) (orders more : List (Option Order))
    → Longer (from words first n (kept ++ line ∷ []) orders) (from words first n (kept ++ line ∷ []) more)
    → Longer (record { words = words; first = first; lines = kept ++ line ∷ front n orders } ∷ opened_parts n orders) (record { words = words; first = first; lines = kept ++ line ∷ front n more } ∷ opened_parts n more)
moved words first n kept line orders more h =
    subst (λ (ls : List Line). Longer (record { words = words; first = first; lines = ls } ∷ opened_parts n orders) (record { words = words; first = first; lines = kept ++ line ∷ front n more } ∷ opened_parts n more))
    (append_assoc kept (line ∷ []) (front n orders))
    (subst (λ (ls : List Line). Longer (from words first n (kept ++ line ∷ []) orders) (record { words = words; first = first; lines = ls } ∷ opened_parts n more))
    (append_assoc kept (line ∷ []) (front n more)) h)

longer : (words : Option ℕ) (first n : ℕ) (kept : List Line) (orders more : List (Option Order)) → Longer (from words first n kept orders) (from words first n kept (orders ++ more))
longer words first n kept [] more = (refl, refl, (front n more, ap (λ (ls : List Line). ls ++ front n more) (sym (append-nil kept))))
longer words first n kept (Some (Open next) ∷ orders) more = (refl, longer (Some next) (n + 1) (n + 1) [] orders more)
longer words first n kept (Some (Asks call) ∷ orders) more = moved words first (n + 1) kept (Ok call) orders (orders ++ more) (longer words first (n + 1) (kept ++ Ok call ∷ []) orders more)
longer words first n kept (None ∷ orders) more = moved words first (n + 1) kept (Err n) orders (orders ++ more) (longer words first (n + 1) (kept ++ Err n ∷ []) orders more)

parts_longer : (orders more : List (Option Order)) → Longer (parts orders) (parts (orders ++ more))
parts_longer orders more = longer None 1 1 [] orders more

-- ---- lines that are read

-- of two fronts of one list, one goes on where the other ends
one_front : {A : Type 0} (xs ys xs' ys' : List A) → xs ++ ys ≡ xs' ++ ys' → ((more : List A) × (xs' ≡ xs ++ more) × (ys ≡ more ++ ys')) ⊎ ((more : List A) × (xs ≡ xs' ++ more) × (ys' ≡ more ++ ys))
one_front [] ys xs' ys' e = inl (xs', refl, e)
one_front (x ∷ xs) ys [] ys' e = inr (x ∷ xs, refl, sym e)
one_front {A} (x ∷ xs) ys (x' ∷ xs') ys' e = by (one_front xs ys xs' ys' cc)
  where
    by : ((more : List A) × (xs' ≡ xs ++ more) × (ys ≡ more ++ ys')) ⊎ ((more : List A) × (xs ≡ xs' ++ more) × (ys' ≡ more ++ ys))
        → ((more : List A) × (x' ∷ xs' ≡ x ∷ xs ++ more) × (ys ≡ more ++ ys')) ⊎ ((more : List A) × (x ∷ xs ≡ x' ∷ xs' ++ more) × (ys' ≡ more ++ ys))
    by (inl (more, is, rest)) = inl (more, cc, rest)
    by (inr (more, is, rest)) = inr (more, cc, rest)

front_empty : {A : Type 0} (xs ys : List A) → xs ++ ys ≡ [] → xs ≡ []
front_empty [] ys e = refl
front_empty (x ∷ xs) ys e = absurd cc

-- the lines settle what they ask for
one_orders : (read more : List (List ℕ)) (orders orders' : List (Option Order)) → AllZip Reads read orders → AllZip Reads (read ++ more) orders'
    → (rest : List (Option Order)) × (orders' ≡ orders ++ rest) × AllZip Reads more rest
one_orders [] more [] orders' h k = (orders', refl, k)
one_orders [] more (o ∷ orders) orders' h k = absurd h
one_orders (line ∷ read) more [] orders' h k = absurd h
one_orders (line ∷ read) more (o ∷ orders) [] h k = absurd k
one_orders (line ∷ read) more (o ∷ orders) (o' ∷ orders') h k =
    let (rest, is, reads) = one_orders read more orders orders' h.1 k.1 in
    let same : o ≡ o' = one_order line o o' h.0 k.0 in
    (rest, cc, reads)

no_orders : (orders : List (Option Order)) → AllZip Reads [] orders → orders ≡ []
no_orders [] h = refl
no_orders (o ∷ orders) h = absurd h

-- ---- the text

module _ (settle : CallsSettle score_worth score_ranges) where
  fresh : (n : ℕ) → CameAlike score_worth n [] []
  fresh n = record { worths = record { stand = λ h d. refl; weigh = λ h d. refl }; ranked = refl; counts = λ e. refl }

  -- two runs of the same calls are answered alike
  answered : (words : ℕ) (calls : List (Call Score)) (turns turns' : List (Turn Score)) → RunOf words calls turns → RunOf words calls turns' → AnswersAlike score_worth turns turns'
  answered words calls turns turns' r s =
      let kept : (run : Run Score) → Keeps score_worth score_ranges words run → Keeps score_worth score_ranges words (run ++ []) = λ run k. subst (Keeps score_worth score_ranges words) (sym (append-nil run)) k in
      let asked = turned (λ t s. CallAlike score_worth t.call s.call) turns turns' (calls_alike turns turns' (r.noted ∙ sym s.noted)) in
      turned_back (λ t s. AnswerAlike score_worth t.answer s.answer) turns turns'
      (settle words [] [] (reverse turns) (reverse turns') (kept (reverse turns) r.keeps) (kept (reverse turns') s.keeps) (fresh words) asked).0

  one_sheet : (test : Bool) (words : ℕ) (lines : List Line) (told other : List ℕ) → SheetText test words lines told → SheetText test words lines other → told ≡ other
  one_sheet true words lines told other (turns, run, is) (turns', run', is') =
      is ∙ ap (λ l. open_text words (codes "done") ++ l) (one_told words lines turns turns' (run.noted ∙ sym run'.noted) (answered words (calls_in lines) turns turns' run run')) ∙ sym is'
  one_sheet false words lines told other a b = a ∙ sym b

  one_part : (words : Option ℕ) (lines : List Line) (told other : List ℕ) → PartText words lines told → PartText words lines other → told ≡ other
  one_part None lines told other a b = a ∙ sym b
  one_part (Some words) lines told other a b = one_sheet (opens words) words lines told other a b

  -- the same part, with parts behind it that settle the rest
  one_and : (p : Piece) (ps qs : List Piece) (end end' : ScriptEnd) (told other : List ℕ)
      → ((rest rest' : List ℕ) → PartsText ps end rest → PartsText qs end' rest' → (end ≡ end') × (rest ≡ rest'))
      → PartsText (p ∷ ps) end told → PartsText (p ∷ qs) end' other → (end ≡ end') × (told ≡ other)
  one_and p ps qs end end' told other behind a b = by (cases_lt 65536 (length p.lines))
    where
      by : (65536 < length p.lines) ⊎ (length p.lines ≤ 65536) → (end ≡ end') × (told ≡ other)
      by (inl many) =
          let (own, of, is, ends) = a.1 many in
          let (own', of', is', ends') = b.1 many in
          (ends ∙ sym ends', is ∙ ap (λ l. l ++ too_many_text (p.first + 65536)) (one_part p.words (take 65536 p.lines) own own' of of') ∙ sym is')
      by (inr few) =
          let (own, rest, of, more, is) = a.0 few in
          let (own', rest', of', more', is') = b.0 few in
          let same = behind rest rest' more more' in
          (same.0, is ∙ ap (λ l. l ++ rest) (one_part p.words p.lines own own' of of') ∙ ap (λ l. own' ++ l) same.1 ∙ sym is')

  one_parts : (ps : List Piece) (end end' : ScriptEnd) (told other : List ℕ) → PartsText ps end told → PartsText ps end' other → (end ≡ end') × (told ≡ other)
  one_parts [] end end' told other a b = (a.0 ∙ sym b.0, a.1 ∙ sym b.1)
  one_parts (p ∷ ps) end end' told other a b = one_and p ps ps end end' told other (one_parts ps end end') a b

  -- a script that is cut off is cut off there, whatever comes behind
  cut_off : (ps qs : List Piece) (end : ScriptEnd) (told other : List ℕ) → Longer ps qs → PartsText ps TooMany told → PartsText qs end other → (TooMany ≡ end) × (told ≡ other)
  cut_off [] qs end told other l a b = let wrong : TooMany ≡ Whole = a.0 in absurd cc
  cut_off (p ∷ ps) [] end told other l a b = absurd l
  cut_off (p ∷ []) (q ∷ qs) end told other l a b = by (cases_lt 65536 (length p.lines))
    where
      by : (65536 < length p.lines) ⊎ (length p.lines ≤ 65536) → (TooMany ≡ end) × (told ≡ other)
      by (inl many) =
          let (words, first, (more, goes_on)) = l in
          let (own, of, is, ends) = a.1 many in
          let long : 65536 < length q.lines = omega (arith, many, ap length goes_on, length-append p.lines more) in
          let (own', of', is', ends') = b.1 long in
          let lines : take 65536 q.lines ≡ take 65536 p.lines = ap (λ ls. take 65536 ls) goes_on ∙ take-append-le 65536 p.lines more (omega (arith, many)) in
          let of'' : PartText p.words (take 65536 p.lines) own' = subst (λ ls. PartText p.words ls own') lines (subst (λ w. PartText w (take 65536 q.lines) own') words of') in
          (sym ends', is ∙ ap (λ l. l ++ too_many_text (p.first + 65536)) (one_part p.words (take 65536 p.lines) own own' of of'') ∙ ap (λ n. own' ++ too_many_text (n + 65536)) (sym first) ∙ sym is')
      by (inr few) =
          let (own, rest, of, more, is) = a.0 few in
          let wrong : TooMany ≡ Whole = more.0 in
          absurd cc
  cut_off (p ∷ p' ∷ ps) (q ∷ qs) end told other l a b =
      one_and p (p' ∷ ps) qs TooMany end told other (λ rest rest' more more'. cut_off (p' ∷ ps) qs end rest rest' l.1 more more') a (subst (λ (x : Piece). PartsText (x ∷ qs) end other) l.0 b)

  -- a script of which no more was read, against one of which as much was read or more
  further : (end end' : ScriptEnd) (told other : List ℕ) (read more : List (List ℕ)) (orders orders' : List (Option Order)) → (end ≡ Whole → more ≡ []) → AllZip Reads read orders → AllZip Reads (read ++ more) orders'
      → PartsText (parts orders) end told → PartsText (parts orders') end' other → (end ≡ end') × (told ≡ other)
  further Whole end' told other read more orders orders' whole reads reads' a b =
      let (rest, is, asked) = one_orders read more orders orders' reads reads' in
      let none : rest ≡ [] = no_orders rest (subst (λ ls. AllZip Reads ls rest) (whole refl) asked) in
      let same : orders' ≡ orders = is ∙ ap (λ os. orders ++ os) none ∙ append-nil orders in
      one_parts (parts orders) Whole end' told other a (subst (λ os. PartsText (parts os) end' other) same b)
  further TooMany end' told other read more orders orders' whole reads reads' a b =
      let (rest, is, asked) = one_orders read more orders orders' reads reads' in
      cut_off (parts orders) (parts orders') end' told other (subst (λ os. Longer (parts orders) (parts os)) (sym is) (parts_longer orders rest)) a b

  pub one_text : OneText
  one_text lines end end' told other (read, unread, is, whole, short, (orders, reads, a)) (read', unread', is', whole', short', (orders', reads', b)) = by (one_front read unread read' unread' (sym is ∙ is'))
    where
      by : ((more : List (List ℕ)) × (read' ≡ read ++ more) × (unread ≡ more ++ unread')) ⊎ ((more : List (List ℕ)) × (read ≡ read' ++ more) × (unread' ≡ more ++ unread)) → (end ≡ end') × (told ≡ other)
      by (inl (more, on, left)) = further end end' told other read more orders orders' (λ e. front_empty more unread' (sym left ∙ whole e)) reads (subst (λ ls. AllZip Reads ls orders') on reads') a b
      by (inr (more, on, left)) =
          let back = further end' end other told read' more orders' orders (λ e. front_empty more unread (sym left ∙ whole' e)) reads' (subst (λ ls. AllZip Reads ls orders) on reads) b a in
          (sym back.0, sym back.1)
