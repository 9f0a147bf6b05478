-- The text of lines, a line at a time
use Rattle.pentrace.specs.Texts.{Line, lines_text}
use Rattle.run.specs.declared.Turn.{Turn}
use Rattle.std.proofs.Common.{◌≡◌, ◌∷◌, ◌++◌, ℕ, ◌+◌, ◌<◌, ◌≤◌, ◌∙◌, List, length, get_or, drop, ap, sym, append_assoc, append-nil}
use Rattle.std.proofs.lemmas.List.{at_drop_all, at_drop_more}
use Rattle.weight.specs.Numbers.{Score}

pub next : (words : ℕ) (done text : List ℕ) (lines : List Line) (i : ℕ) (d : Line) (before after : List (Turn Score)) → i < length lines
    → ((more : List Line) → lines_text words (get_or lines i d ∷ more) before ≡ text ++ lines_text words more after)
    → (done ++ text) ++ lines_text words (drop (i + 1) lines) after ≡ done ++ lines_text words (drop i lines) before
next words done text lines i d before after l h =
    let behind = drop (i + 1) lines in
    append_assoc done text (lines_text words behind after)
    ∙ ap (λ bs. done ++ bs) (sym (h behind) ∙ sym (at_drop_more (λ ls. lines_text words ls before) lines i d l))

pub none : (words : ℕ) (done : List ℕ) (lines : List Line) (i : ℕ) (turns : List (Turn Score)) → length lines ≤ i → done ≡ done ++ lines_text words (drop i lines) turns
none words done lines i turns l = sym (ap (λ bs. done ++ bs) (at_drop_all (λ ls. lines_text words ls turns) lines i l) ∙ append-nil done)
