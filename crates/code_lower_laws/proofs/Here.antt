use Rattle.std.proofs.Common.{◌≡◌, ℕ, zero, suc, ◌<◌, List, [], ◌∷◌, length, get_or, refl, arith}
use Rattle.ir_model.specs.Resolved.{NumberedInst, NumberedTerm, Does, Ends, here_in}

pub does_at : (is : List NumberedInst) (t : NumberedTerm) (k : ℕ) (d : NumberedInst) → k < length is → here_in is t k ≡ Does (get_or is k d)
does_at [] t k d l = absurd (omega arith)
does_at (i ∷ is) t zero d l = refl
does_at (i ∷ is) t (suc k) d l = does_at is t k d (omega arith)

pub ends_at : (is : List NumberedInst) (t : NumberedTerm) → here_in is t (length is) ≡ Ends t
ends_at [] t = refl
ends_at (i ∷ is) t = ends_at is t
