-- What is told of a line of heads.
use Rattle.std.specs.Prelude.{◌≡◌, ℕ, cond, List, [], ◌++◌, length, codes, decimal, Some, None, Option, Ok, Err, Result, vec_items}
use Rattle.std.specs.Str.{is_utf8}
use Rattle.penbracket.specs.Drawing.{DrawingOf}
use Rattle.penbracket.specs.declared.Drawing.{Drawing}
use Rattle.penbracket.specs.declared.Fault.TheVariants.{NoList, NoTree, TooLong}
use Rattle.penbracket.specs.declared.Fault.{Fault}
use Rattle.refusal.specs.Refusals.{refused_text}
use Rattle.refusal.specs.declared.Refusal.TheVariants.{NotATree, ShortSpace}

-- the line, and how many words it has
abbrev pub heads_text : List ℕ → ℕ → List ℕ
heads_text line words = codes "heads: " ++ (line ++ (codes "\nwords: " ++ (decimal words ++ codes "\n")))

-- a tree that was drawn
abbrev pub drawn_text : List ℕ → Drawing → List ℕ
drawn_text line drawing = heads_text line (length (vec_items drawing.heads)) ++ (codes "root: " ++ (decimal drawing.root ++ (codes "\nbrackets: " ++ (vec_items drawing.brackets ++ codes "\n"))))

-- a line as it is shown: nothing of one that is no UTF-8
abbrev pub shown_text : List ℕ → List ℕ
shown_text line = cond (is_utf8 line) line []

-- a line that is no list of heads
abbrev pub no_list_text : List ℕ → List ℕ
no_list_text line = codes "line: " ++ (shown_text line ++ (codes "\n" ++ (refused_text NotATree ++ codes ": no list of heads\n")))

-- why heads form no tree: a word on a cycle is told, if there is one
abbrev pub no_tree_text : Option ℕ → List ℕ
no_tree_text (Some word) = refused_text NotATree ++ (codes ": word " ++ (decimal word ++ codes " lies on a cycle\n"))
no_tree_text None = refused_text NotATree ++ codes ": no single-root tree of 1 to 40 words\n"

abbrev pub too_long_text : List ℕ
too_long_text = refused_text ShortSpace ++ codes ": the brackets are too long\n"

abbrev pub drawing_text : List ℕ → Result Drawing Fault → List ℕ
drawing_text line (Ok drawing) = drawn_text line drawing
drawing_text line (Err NoList) = no_list_text line
drawing_text line (Err (NoTree heads cycle)) = heads_text line (length (vec_items heads)) ++ no_tree_text cycle
drawing_text line (Err (TooLong heads)) = heads_text line (length (vec_items heads)) ++ too_long_text

-- the text tells what becomes of the line
abbrev pub TellsDrawing : List ℕ → List ℕ → Type 0
TellsDrawing line text = (drawn : Result Drawing Fault) × DrawingOf line drawn × (text ≡ drawing_text line drawn)

-- ---- what is to show
-- a line settles its text, to the byte
abbrev pub OneText : Type 0
OneText = (line text text' : List ℕ) → TellsDrawing line text → TellsDrawing line text' → text ≡ text'
