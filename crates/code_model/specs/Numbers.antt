-- The code of numbers, of copies, and of operations on two numbers.
use Rattle.std.specs.Prelude.{ℕ, List, [], ◌∷◌, ◌++◌}
use Rattle.machine_thumb.specs.declared.table.Instr.{Instr}
use Rattle.machine_thumb.specs.declared.table.Instr.TheVariants.{AddSubRegister, DataRegister, Divide}
use Rattle.ir_model.specs.declared.firmware.BinOp.{BinOp}
use Rattle.ir_model.specs.declared.firmware.BinOp.TheVariants.{Add, Sub, Mul, Udiv, Sdiv, Urem, Srem, And, Or, Xor, Bic, Shl, Shr, Sar}
use Rattle.code_model.specs.Words.{load_home, save, word_into}

abbrev pub const_code : (to value : ℕ) → List Instr
const_code to v = word_into 0 v ++ save to ∷ []

abbrev pub move_code : (to from : ℕ) → List Instr
move_code to from = load_home 0 from ∷ save to ∷ []

-- ADDS, SUBS r0, r0, r1; MULS r0, r1; UDIV, SDIV r0, r0, r1; ANDS, ORRS, EORS, BICS, LSLS, LSRS, ASRS r0, r1. A remainder is
-- UDIV or SDIV r2, r0, r1; MULS r2, r1; SUBS r0, r0, r2
abbrev pub operation : BinOp → List Instr
operation Add = AddSubRegister 0 1 0 0 ∷ []
operation Sub = AddSubRegister 1 1 0 0 ∷ []
operation Mul = DataRegister 13 1 0 ∷ []
operation Udiv = Divide 0 0 0 1 ∷ []
operation Sdiv = Divide 1 0 0 1 ∷ []
operation Urem = Divide 0 0 2 1 ∷ DataRegister 13 1 2 ∷ AddSubRegister 1 2 0 0 ∷ []
operation Srem = Divide 1 0 2 1 ∷ DataRegister 13 1 2 ∷ AddSubRegister 1 2 0 0 ∷ []
operation And = DataRegister 0 1 0 ∷ []
operation Or = DataRegister 12 1 0 ∷ []
operation Xor = DataRegister 1 1 0 ∷ []
operation Bic = DataRegister 14 1 0 ∷ []
operation Shl = DataRegister 2 1 0 ∷ []
operation Shr = DataRegister 3 1 0 ∷ []
operation Sar = DataRegister 4 1 0 ∷ []

abbrev pub bin_code : BinOp → (to a b : ℕ) → List Instr
bin_code op to a b = load_home 0 a ∷ load_home 1 b ∷ operation op ++ save to ∷ []
