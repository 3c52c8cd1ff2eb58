-- What stands at a place of a block.
use Rattle.std.proofs.Common.{◌≡◌, ℕ, zero, suc, ◌<◌, ◌≤◌, List, [], ◌∷◌, map, length, get_or, refl, arith}
use Rattle.ir_model.specs.Layout.{Known}
use Rattle.ir_model.specs.Resolved as plain
use Rattle.ir_program.specs.declared.program.Operation.{Operation}
use Rattle.ir_program.specs.Parts.{operation_of}

-- before the end: an instruction
pub here_before : (ks : List Known) (is : List Operation) (t : plain.NumberedTerm) (k : ℕ) (d : Operation) → k < length is
    → plain.here_in (map (operation_of ks) is) t k ≡ plain.Does (operation_of ks (get_or is k d))
here_before ks [] t k d l = absurd (omega arith)
here_before ks (i ∷ is) t zero d l = refl
here_before ks (i ∷ is) t (suc k) d l = here_before ks is t k d (omega arith)

-- behind the instructions: the end
pub here_behind : (ks : List Known) (is : List Operation) (t : plain.NumberedTerm) (k : ℕ) → length is ≤ k
    → plain.here_in (map (operation_of ks) is) t k ≡ plain.Ends t
here_behind ks [] t k l = refl
here_behind ks (i ∷ is) t zero l = absurd (omega arith)
here_behind ks (i ∷ is) t (suc k) l = here_behind ks is t k (omega arith)
