-- The parts that the lines of a script make so far, with what the lines to come bring to them
use Rattle.pentrace.specs.Script.{PartText, Piece, PartsText, front, opened_parts, parts}
use Rattle.pentrace.specs.Texts.{Line, too_many_text}
use Rattle.pentrace.specs.declared.ScriptEnd.TheVariants.{Whole, TooMany}
use Rattle.pentrace.specs.declared.ScriptEnd.{ScriptEnd}
use Rattle.pentrace.specs.declared.Order.TheVariants.{Open}
use Rattle.pentrace.specs.declared.Order.{Order}
use Rattle.std.proofs.Common.{◌≡◌, ◌∷◌, ◌++◌, ◌∙◌, refl, ℕ, ◌+◌, ◌≤◌, List, [], length, take, Option, Some, None, ap, sym, append_assoc, append-nil, arith, length-append, add-zero}
use Rattle.std.proofs.Math.Seq.{take-append_seam}
use Rattle.std.specs.List.{AllZip}

-- ---- parts

-- the part that is read, with what the orders still bring to it, and the parts behind it
abbrev pub pieces : Option ℕ → ℕ → List Line → List (Option Order) → List Piece
pieces words first kept orders =
    record { words = words; first = first; lines = kept ++ front (first + length kept) orders } ∷ opened_parts (first + length kept) orders

-- what these orders make: the parts that ended, and the one that is read
abbrev pub Parted : List (Option Order) → List Piece → Option ℕ → ℕ → List Line → Type 0
Parted orders ended words first kept = (more : List (Option Order)) → parts (orders ++ more) ≡ ended ++ pieces words first kept more

-- nothing is read yet
pub begins : Parted [] [] None 1 []
begins more = refl

-- an `open` ends the part
pub opens_next : (orders : List (Option Order)) (ended : List Piece) (words : Option ℕ) (first : ℕ) (kept : List Line) (next : ℕ) → Parted orders ended words first kept
    → Parted (orders ++ Some (Open next) ∷ []) (ended ++ record { words = words; first = first; lines = kept } ∷ []) (Some next) (first + length kept + 1) []
opens_next orders ended words first kept next h more =
    let n = first + length kept + 1 in
    let last : Piece = record { words = words; first = first; lines = kept } in
    ap parts (append_assoc orders (Some (Open next) ∷ []) more)
    ∙ h (Some (Open next) ∷ more)
    ∙ ap (λ (ls : List Line). ended ++ record { words = words; first = first; lines = ls } ∷ record { words = Some next; first = n; lines = front n more } ∷ opened_parts n more) (append-nil kept)
    ∙ ap (λ (m : ℕ). ended ++ last ∷ record { words = Some next; first = n; lines = front m more } ∷ opened_parts m more) (sym (add-zero n))
    ∙ sym (append_assoc ended (last ∷ []) (pieces (Some next) n [] more))

-- a line comes to the part: what is asked for is no `open`, and gives this line
pub comes : (orders : List (Option Order)) (ended : List Piece) (words : Option ℕ) (first : ℕ) (kept : List Line) (order : Option Order) (own : Line)
    → ((more : List (Option Order)) → front (first + length kept) (order ∷ more) ≡ own ∷ front (first + length kept + 1) more)
    → ((more : List (Option Order)) → opened_parts (first + length kept) (order ∷ more) ≡ opened_parts (first + length kept + 1) more)
    → Parted orders ended words first kept → Parted (orders ++ order ∷ []) ended words first (kept ++ own ∷ [])
comes orders ended words first kept order own front_is opened_is h more =
    let n = first + length kept in
    let next : n + 1 ≡ first + length (kept ++ own ∷ []) = omega (arith, length-append kept (own ∷ [])) in
    ap parts (append_assoc orders (order ∷ []) more)
    ∙ h (order ∷ more)
    ∙ ap (λ (ps : List Piece). ended ++ record { words = words; first = first; lines = kept ++ front n (order ∷ more) } ∷ ps) (opened_is more)
    ∙ ap (λ (ls : List Line). ended ++ record { words = words; first = first; lines = kept ++ ls } ∷ opened_parts (n + 1) more) (front_is more)
    ∙ ap (λ (ls : List Line). ended ++ record { words = words; first = first; lines = ls } ∷ opened_parts (n + 1) more) (sym (append_assoc kept (own ∷ []) (front (n + 1) more)))
    ∙ ap (λ (m : ℕ). ended ++ record { words = words; first = first; lines = (kept ++ own ∷ []) ++ front m more } ∷ opened_parts m more) next

-- no line comes any more
pub parted_all : (orders : List (Option Order)) (ended : List Piece) (words : Option ℕ) (first : ℕ) (kept : List Line) → Parted orders ended words first kept
    → parts orders ≡ ended ++ record { words = words; first = first; lines = kept } ∷ []
parted_all orders ended words first kept h =
    ap parts (sym (append-nil orders)) ∙ h [] ∙ ap (λ (ls : List Line). ended ++ record { words = words; first = first; lines = ls } ∷ []) (append-nil kept)

-- a line is read, and what it asks for
pub zipped : (Reads : List ℕ → Option Order → Type 0) (lines : List (List ℕ)) (orders : List (Option Order)) (line : List ℕ) (order : Option Order) → AllZip Reads lines orders
    → Reads line order → AllZip Reads (lines ++ line ∷ []) (orders ++ order ∷ [])
zipped Reads [] [] line order h r = (r, tt)
zipped Reads [] (o ∷ orders) line order h r = absurd h
zipped Reads (l ∷ lines) [] line order h r = absurd h
zipped Reads (l ∷ lines) (o ∷ orders) line order h r = (h.0, zipped Reads lines orders line order h.1 r)

-- ---- their text

-- parts behind parts that ended
pub behind : (ended more : List Piece) (end : ScriptEnd) (text longer : List ℕ) → PartsText ended Whole text → PartsText more end longer → PartsText (ended ++ more) end (text ++ longer)
behind [] more end text longer h k = rw h.1 k
behind (part ∷ ended) more end text longer h k = (
  (λ few. let (own, rest, is, told, whole) = h.0 few in (own, rest ++ longer, is, behind ended more end rest longer told k, ap (λ bs. bs ++ longer) whole ∙ append_assoc own rest longer)),
  λ many. let wrong : Whole ≡ TooMany = (h.1 many).3 in absurd cc,
)

-- a part that has its lines
pub one : (part : Piece) (own : List ℕ) → length part.lines ≤ 65536 → PartText part.words part.lines own → PartsText (part ∷ []) Whole own
one part own few own_is = ((λ _. (own, [], own_is, (refl, refl), sym (append-nil own))), λ many. absurd (omega arith))

fore : (kept more : List Line) (n : ℕ) → length kept ≡ n → take n (kept ++ more) ≡ kept
fore kept more n e = rw (← e) (take-append_seam kept more)

-- a part that there is no room in for its last line
pub full : (words : Option ℕ) (first : ℕ) (kept : List Line) (over : Line) (own : List ℕ) → length kept ≡ 65536 → PartText words kept own
    → PartsText (record { words = words; first = first; lines = kept ++ over ∷ [] } ∷ []) TooMany (own ++ too_many_text (first + length kept))
full words first kept over own most own_is =
    let long : length (kept ++ over ∷ []) ≡ 65537 = omega (arith, length-append kept (over ∷ [])) in (
      (λ few. absurd (omega arith)),
      λ many. (own, rw (fore kept (over ∷ []) 65536 most) own_is, ap (λ n. own ++ too_many_text (first + n)) most, refl),
    )
