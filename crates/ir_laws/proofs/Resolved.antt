use Rattle.std.proofs.Common.{◌≡◌, ℕ, List, length, refl, ap, length-append, suc, [], ◌∷◌, replicate, arith}
use Rattle.std.proofs.lemmas.List.{length-map, length-replicate}
use Rattle.ir_model.specs.Plain.{PlainBinding, PlainFirmware, funcs_of, PlainFile}
use Rattle.ir_model.specs.Resolve as definition
use Rattle.ir_model.specs.Resolve.{row_from, resolve, files_from}
use Rattle.ir_model.specs.Signatures.{row_length}
use Rattle.std.specs.Prelude.{flat_map}

-- as many in the program as in the firmware
pub as_many : (w : PlainFirmware) → length (resolve w).funcs ≡ length (funcs_of w)
unfolding resolve
as_many w = length-map (funcs_of w) (definition.resolved_func _)

pub files_count : (k : ℕ) (fs : List PlainFile) → length (files_from k fs) ≡ length (flat_map (λ (f : PlainFile). f.funcs) fs)
files_count k [] = refl
files_count k (f ∷ fs) =
    let a = length-append (replicate (length f.funcs) k) (files_from (suc k) fs) in
    let b = length-replicate (length f.funcs) k in
    let c = length-append f.funcs (flat_map (λ (f : PlainFile). f.funcs) fs) in
    let r = files_count (suc k) fs in
    omega arith

-- a row of parameters is as long as their list
pub rows_length : (ps : List PlainBinding) → row_length (row_from ps) ≡ length ps
rows_length [] = refl
rows_length (p ∷ ps) = ap suc (rows_length ps)
