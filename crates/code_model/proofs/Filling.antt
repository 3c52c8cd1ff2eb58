use Rattle.std.proofs.Common.{◌≡◌, ℕ, ◌+◌, ◌%◌, ◌≢◌, List, [], ◌∷◌, length, Bool, true, false, nat_eq, refl, arith, suc, ◌*◌}
use Rattle.std.proofs.lemmas.Bool.{eqb-true, eqb-false}
use Rattle.machine_thumb.specs.Table.{encode}
use Rattle.machine_thumb_asm.specs.Assembly.{total}
use Rattle.code_model.specs.CompartmentCode.{filled_size, filling}
use Rattle.code_model.specs.Words.{plain}
use Rattle.code_model.specs.Calls.{args_code}

pub filling_by : (n : ℕ) (b : Bool) → nat_eq (n % 4) 0 ≡ b → n % 2 ≡ 0 → n + total (filling n) ≡ filled_size n
unfolding encode
filling_by n true h e = let z : n % 4 ≡ 0 = eqb-true (n % 4) 0 h in rw h (omega arith)
filling_by n false h e = let z : n % 4 ≢ 0 = eqb-false (n % 4) 0 h in rw h (omega arith)

pub args_total : (r : ℕ) (as_ : List ℕ) → total (plain (args_code r as_)) ≡ 2 * length as_
unfolding encode
args_total r [] = refl
args_total r (a ∷ more) = let h = args_total (suc r) more in omega arith
