-- The front of a space.
use Rattle.std.proofs.Common.{◌≡◌, ℕ, List, ◌++◌, length, take, ◌∙◌, ap}
use Rattle.std.proofs.Math.Seq.{take-append_seam}

-- the text that was written to the front
pub front_text : (text rest space : List ℕ) (n : ℕ) → n ≡ length text → space ≡ text ++ rest → take n space ≡ text
front_text text rest space n e f = ap (λ k. take k space) e ∙ ap (take (length text)) f ∙ take-append_seam text rest
