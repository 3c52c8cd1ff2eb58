-- Sizes of pieces one behind the other.
use Rattle.std.proofs.Common.{◌≡◌, ◌+◌, List, [], ◌∷◌, ◌++◌, arith}
use Rattle.machine_thumb.specs.declared.table.Instr.{Instr}
use Rattle.machine_thumb_asm.specs.Assembly.{total}
use Rattle.code_model.specs.Words.{plain}

pub total-plain-append : (xs ys : List Instr) → total (plain (xs ++ ys)) ≡ total (plain xs) + total (plain ys)
total-plain-append [] ys = omega arith
total-plain-append (x ∷ xs) ys = let h = total-plain-append xs ys in omega arith
