-- The numbers of the kinds.
use Rattle.std.proofs.Common.{◌≡◌, ℕ, cond, List, [], ◌∷◌, Ok, Result, sym, refl, ap, ◌∙◌, ⊎_elim, eq-eqb, ne_eqb}
use Rattle.std.proofs.lemmas.Bool.{cases_eq}
use Rattle.file.specs.Frame.{kind_among, KindsTold}
use Rattle.file.specs.Kinds.{kind_number, kinds}
use Rattle.file.specs.declared.fault.FileFault.{FileFault}
use Rattle.file.specs.declared.fault.FileKind.TheVariants.{Score, Cost, Mark}
use Rattle.file.specs.declared.fault.FileKind.{FileKind}

same_kind : (r : Result FileKind FileFault) (a b : FileKind) → r ≡ Ok a → r ≡ Ok b → a ≡ b
same_kind r a b p q = cc

no_other : (ks : List FileKind) (number : ℕ) (kind : FileKind) → kind_among ks number ≡ Ok kind → number ≡ kind_number kind
no_other [] number kind told = cc told
no_other (k ∷ ks) number kind told =
    ⊎_elim (λ e. e ∙ ap kind_number (same_kind (kind_among (k ∷ ks) number) k kind (ap (λ t. cond t (Ok k) (kind_among ks number)) (eq-eqb number (kind_number k) e)) told))
    (λ ne. no_other ks number kind (ap (λ t. cond t (Ok k) (kind_among ks number)) (sym (ne_eqb number (kind_number k) ne)) ∙ told))
    (cases_eq number (kind_number k))

pub kinds_told : KindsTold
kinds_told = record { its_own = own; no_other = no_other kinds }
  where
    own : (kind : FileKind) → kind_among kinds (kind_number kind) ≡ Ok kind
    own Score = refl
    own Cost = refl
    own Mark = refl
