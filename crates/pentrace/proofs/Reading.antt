-- A script that is read line by line
use Rattle.console.specs.Answers.{Writes}
use Rattle.console.specs.Lines.{GivesLine, Short, lines_in}
use Rattle.console.specs.declared.LineError.{LineError}
use Rattle.console.specs.declared.LineError.TheVariants.{TooLong, Io}
use Rattle.pentrace.proofs.Following.{Parted, begins, opens_next, comes, parted_all, zipped, behind, one, full}
use Rattle.pentrace.specs.Orders.{Reads}
use Rattle.pentrace.specs.Reading.{LineKept, LineDone, LineRead}
use Rattle.pentrace.specs.Script.{PartText, PartsText, Piece, ScriptAnswered, ScriptText, front, opened_parts, parts}
use Rattle.pentrace.specs.Texts.{Line, too_many_text}
use Rattle.pentrace.specs.declared.Order.TheVariants.{Open, Call as Asks}
use Rattle.pentrace.specs.declared.Order.{Order}
use Rattle.pentrace.specs.declared.script.Script.{Script}
use Rattle.pentrace.specs.declared.ScriptEnd.TheVariants.{Whole, TooMany}
use Rattle.std.proofs.Common.{◌≡◌, ◌∷◌, ◌++◌, refl, ℕ, ◌+◌, ◌<◌, ◌≤◌, ◌^◌, true, false, List, [], length, All, Option, Some, None, Ok, Err, IfSome, ap, sym, ◌∙◌, append_assoc, arith, length-append, subst}
use Rattle.std.proofs.lemmas.Bool.{false≢true}
use Rattle.std.proofs.lemmas.List.Elements.{All-nil, All-push}
use Rattle.std.proofs.KnownBytes.{Appends-nil, Appends-trans}
use Rattle.std.specs.Global.{Vec}
use Rattle.std.specs.Io.KnownBytes.{Appends}
use Rattle.std.specs.List.{AllZip}
use Rattle.std.specs.Prelude.{⊤}

-- what was read of these bytes, and the text that was written: that of the parts that ended
pub record Told (bytes left : List ℕ) (script : Script) (held holds : Option (List ℕ)) : Type 0 where
  pub seen : List (List ℕ)
  pub whole : lines_in bytes ≡ seen ++ lines_in left
  pub short : All Short seen
  pub orders : List (Option Order)
  pub reads : AllZip Reads seen orders
  pub ended : List Piece
  pub first : ℕ
  pub from : first + length script.lines.items ≡ script.read + 1
  pub parted : Parted orders ended script.words first script.lines.items
  pub text : List ℕ
  pub told : PartsText ended Whole text
  pub written : Appends held holds text

abbrev pub SoFar : Option (List ℕ) → Option (List ℕ) → Script → Option (List ℕ) → Option (List ℕ) → Type 0
SoFar None left script held holds = ⊤
SoFar (Some bytes) None script held holds = ⊥
SoFar (Some bytes) (Some left) script held holds = Told bytes left script held holds

pub so_far_none : (bytes held : Option (List ℕ)) (script : Script) → script.read ≡ 0 → script.words ≡ None → script.lines.items ≡ [] → SoFar bytes bytes script held held
so_far_none None held script r w l = tt
so_far_none (Some bytes) held script r w l = record {
  seen = [];
  whole = refl;
  short = All-nil Short;
  orders = [];
  reads = tt;
  ended = [];
  first = 1;
  from = rw (r, l) refl;
  parted = subst (λ (ls : List Line). Parted [] [] script.words 1 ls) (sym l) (subst (λ (o : Option ℕ). Parted [] [] o 1 []) (sym w) begins);
  text = [];
  told = (refl, refl);
  written = Appends-nil held;
}

module _ (bytes left rest : List ℕ) (before after : Script) (line : List ℕ) (held holds longer : Option (List ℕ)) (few : length before.lines.items ≤ 65536) (given : lines_in left ≡ line ∷ lines_in rest) (short : Short line) (told : Told bytes left before held holds) where
  whole : lines_in bytes ≡ (told.seen ++ line ∷ []) ++ lines_in rest
  whole = told.whole ∙ ap (λ ls. told.seen ++ ls) given ∙ sym (append_assoc told.seen (line ∷ []) (lines_in rest))

  -- a line that comes to the part
  grown : (order : Option Order) (own : Line)
      → ((more : List (Option Order)) → front (told.first + length before.lines.items) (order ∷ more) ≡ own ∷ front (told.first + length before.lines.items + 1) more)
      → ((more : List (Option Order)) → opened_parts (told.first + length before.lines.items) (order ∷ more) ≡ opened_parts (told.first + length before.lines.items + 1) more)
      → Parted (told.orders ++ order ∷ []) told.ended before.words told.first (before.lines.items ++ own ∷ [])
  grown order own front_is opened_is = comes told.orders told.ended before.words told.first before.lines.items order own front_is opened_is told.parted

  -- where the part has room for it
  kept : (order : Option Order) (own : Line) → after.read ≡ before.read + 1 → Parted (told.orders ++ order ∷ []) told.ended before.words told.first (before.lines.items ++ own ∷ [])
      → Reads line order → LineKept before after own holds longer true → Told bytes rest after held longer
  kept order own counted parted reads k = record {
    seen = told.seen ++ line ∷ [];
    whole = whole;
    short = All-push Short told.seen line told.short short;
    orders = told.orders ++ order ∷ [];
    reads = zipped Reads told.seen told.orders line order told.reads reads;
    ended = told.ended;
    first = told.first;
    from = omega (arith, told.from, ap length k.1, length-append before.lines.items (own ∷ []));
    parted = subst (λ (ls : List Line). Parted (told.orders ++ order ∷ []) told.ended after.words told.first ls) (sym k.1)
        (subst (λ (o : Option ℕ). Parted (told.orders ++ order ∷ []) told.ended o told.first (before.lines.items ++ own ∷ [])) (sym k.0) parted);
    text = told.text;
    told = told.told;
    written = subst (λ (o : Option (List ℕ)). Appends held o told.text) (sym k.2) told.written;
  }

  -- an `open`
  began : (words : ℕ) → after.read ≡ before.read + 1 → Reads line (Some (Open words)) → LineDone (Some (Open words)) before after holds longer true → Told bytes rest after held longer
  began words counted reads t =
      let own = t.3.0 in
      let last : Piece = record { words = before.words; first = told.first; lines = before.lines.items } in
      let n = told.first + length before.lines.items + 1 in
      let orders = told.orders ++ Some (Open words) ∷ [] in
      record {
        seen = told.seen ++ line ∷ [];
        whole = whole;
        short = All-push Short told.seen line told.short short;
        orders = orders;
        reads = zipped Reads told.seen told.orders line (Some (Open words)) told.reads reads;
        ended = told.ended ++ last ∷ [];
        first = n;
        from = rw t.2 (omega (arith, told.from));
        parted = subst (λ (ls : List Line). Parted orders (told.ended ++ last ∷ []) after.words n ls) (sym t.2)
            (subst (λ (o : Option ℕ). Parted orders (told.ended ++ last ∷ []) o n []) (sym t.1) (opens_next told.orders told.ended before.words told.first before.lines.items words told.parted));
        text = told.text ++ own;
        told = behind told.ended (last ∷ []) Whole told.text own told.told (one last own few t.3.1);
        written = Appends-trans held holds longer told.text own told.written t.3.2;
      }

  by_order : (order : Option Order) → after.read ≡ before.read + 1 → Reads line order → LineDone order before after holds longer true → Told bytes rest after held longer
  by_order (Some (Open words)) counted reads t = began words counted reads t
  by_order (Some (Asks call)) counted reads t = kept (Some (Asks call)) (Ok call) counted (grown (Some (Asks call)) (Ok call) (λ _. refl) (λ _. refl)) reads t
  by_order None counted reads t =
      let is : told.first + length before.lines.items ≡ after.read = omega (arith, told.from) in
      kept None (Err after.read) counted (grown None (Err after.read) (λ more. ap (λ n. Err n ∷ front (told.first + length before.lines.items + 1) more) is) (λ _. refl)) reads t

  -- where the part has no room for it
  over_line : (order : Option Order) (own : Line) → after.read ≡ before.read + 1 → Parted (told.orders ++ order ∷ []) told.ended before.words told.first (before.lines.items ++ own ∷ [])
      → Reads line order → LineKept before after own holds longer false → Writes held longer (ScriptText (lines_in bytes) TooMany)
  over_line order own counted parted reads k =
      let part = k.1.1.0 in
      let n : told.first + length before.lines.items ≡ after.read = omega (arith, told.from) in
      let long : Piece = record { words = before.words; first = told.first; lines = before.lines.items ++ own ∷ [] } in
      let here = subst (λ (bs : List ℕ). PartsText (long ∷ []) TooMany bs) (ap (λ m. part ++ too_many_text m) n ∙ sym k.1.1.2) (full before.words told.first before.lines.items own part k.0 k.1.1.1) in
      let all = behind told.ended (long ∷ []) TooMany told.text k.1.0 told.told here in (
        told.text ++ k.1.0,
        (
          told.seen ++ line ∷ [],
          lines_in rest,
          whole,
          (λ e. absurd cc),
          All-push Short told.seen line told.short short,
          (
            told.orders ++ order ∷ [],
            zipped Reads told.seen told.orders line order told.reads reads,
            subst (λ (ps : List Piece). PartsText ps TooMany (told.text ++ k.1.0)) (sym (parted_all (told.orders ++ order ∷ []) told.ended before.words told.first (before.lines.items ++ own ∷ []) parted)) all,
          ),
        ),
        Appends-trans held holds longer told.text k.1.0 told.written k.1.2,
      )

  over : (order : Option Order) → after.read ≡ before.read + 1 → Reads line order → LineDone order before after holds longer false → Writes held longer (ScriptText (lines_in bytes) TooMany)
  over (Some (Open words)) counted reads t = absurd (false≢true t.0)
  over (Some (Asks call)) counted reads t = over_line (Some (Asks call)) (Ok call) counted (grown (Some (Asks call)) (Ok call) (λ _. refl) (λ _. refl)) reads t
  over None counted reads t =
      let is : told.first + length before.lines.items ≡ after.read = omega (arith, told.from) in
      over_line None (Err after.read) counted (grown None (Err after.read) (λ more. ap (λ n. Err n ∷ front (told.first + length before.lines.items + 1) more) is) (λ _. refl)) reads t

module _ (bytes left : List ℕ) (script : Script) (held holds : Option (List ℕ)) (few : length script.lines.items ≤ 65536) (told : Told bytes left script held holds) where
  -- the part that is read
  abbrev last : Piece
  last = record { words = script.words; first = told.first; lines = script.lines.items }

  all : parts told.orders ≡ told.ended ++ last ∷ []
  all = parted_all told.orders told.ended script.words told.first script.lines.items told.parted

  -- the script ends
  finished : (longer : Option (List ℕ)) → lines_in left ≡ [] → Writes holds longer (PartText script.words script.lines.items) → Writes held longer (ScriptText (lines_in bytes) Whole)
  finished longer given w = (
    told.text ++ w.0,
    (
      told.seen,
      [],
      told.whole ∙ ap (λ ls. told.seen ++ ls) given,
      (λ _. refl),
      told.short,
      (
        told.orders,
        told.reads,
        subst (λ (ps : List Piece). PartsText ps Whole (told.text ++ w.0)) (sym all) (behind told.ended (last ∷ []) Whole told.text w.0 told.told (one last w.0 few w.1)),
      ),
    ),
    Appends-trans held holds longer told.text w.0 told.written w.2,
  )

  -- a line is too long
  cut : (line : List ℕ) (lines : List (List ℕ)) → lines_in left ≡ line ∷ lines → 65535 < length line → ScriptAnswered (lines_in bytes) (Err TooLong) held holds
  cut line lines given long = (
    told.seen,
    line,
    lines,
    told.whole ∙ ap (λ ls. told.seen ++ ls) given,
    long,
    (told.text, (told.short, (told.orders, told.reads, (told.ended, last, all, few, told.told))), told.written),
  )

-- a line more
pub so_far_more : (bytes left rest held holds longer : Option (List ℕ)) (before after : Script) (line : Vec ℕ) → length before.lines.items ≤ 65536 → before.read + 1 < 2 ^ 64
    → SoFar bytes left before held holds → GivesLine left (Some (Ok line)) rest → Short line.items → LineRead before after line.items holds longer true → SoFar bytes rest after held longer
so_far_more None left rest held holds longer before after line few number so given short step = tt
so_far_more (Some bytes) None rest held holds longer before after line few number so given short step = absurd so
so_far_more (Some bytes) (Some left) None held holds longer before after line few number so given short step = absurd given
so_far_more (Some bytes) (Some left) (Some rest) held holds longer before after line few number so given short step =
    by_order bytes left rest before after line.items held holds longer few given short so step.order (step.counted number) step.reads step.taken

-- a line too many
pub so_far_full : (bytes left rest held holds longer : Option (List ℕ)) (before after : Script) (line : Vec ℕ) → length before.lines.items ≤ 65536 → before.read + 1 < 2 ^ 64
    → SoFar bytes left before held holds → GivesLine left (Some (Ok line)) rest → Short line.items → LineRead before after line.items holds longer false
    → IfSome bytes (λ known. ScriptAnswered (lines_in known) (Ok TooMany) held longer)
so_far_full None left rest held holds longer before after line few number so given short step = tt
so_far_full (Some bytes) None rest held holds longer before after line few number so given short step = absurd so
so_far_full (Some bytes) (Some left) None held holds longer before after line few number so given short step = absurd given
so_far_full (Some bytes) (Some left) (Some rest) held holds longer before after line few number so given short step =
    over bytes left rest before after line.items held holds longer few given short so step.order (step.counted number) step.reads step.taken

-- no line more
pub so_far_all : (bytes left rest held holds longer : Option (List ℕ)) (script : Script) → length script.lines.items ≤ 65536 → SoFar bytes left script held holds
    → GivesLine left None rest → Writes holds longer (PartText script.words script.lines.items) → IfSome bytes (λ known. ScriptAnswered (lines_in known) (Ok Whole) held longer)
so_far_all None left rest held holds longer script few so given w = tt
so_far_all (Some bytes) None rest held holds longer script few so given w = absurd so
so_far_all (Some bytes) (Some left) rest held holds longer script few so given w = finished bytes left script held holds few so longer given w

-- a line that is too long, or that can not be read
pub so_far_long : (bytes left rest held holds : Option (List ℕ)) (script : Script) (error : LineError) → length script.lines.items ≤ 65536 → SoFar bytes left script held holds
    → GivesLine left (Some (Err error)) rest → IfSome bytes (λ known. ScriptAnswered (lines_in known) (Err error) held holds)
so_far_long None left rest held holds script error few so given = tt
so_far_long (Some bytes) None rest held holds script error few so given = absurd so
so_far_long (Some bytes) (Some left) rest held holds script (Io error) few so given = tt
so_far_long (Some bytes) (Some left) rest held holds script TooLong few so given = cut bytes left script held holds few so given.0 given.1 given.2 given.3
