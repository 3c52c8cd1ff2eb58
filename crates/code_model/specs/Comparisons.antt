-- The code of comparisons: 1 where the condition holds, else 0.
use Rattle.std.specs.Prelude.{ℕ, pos, List, [], ◌∷◌}
use Rattle.machine_thumb.specs.declared.table.Instr.{Instr}
use Rattle.machine_thumb.specs.declared.table.Instr.TheVariants.{DataRegister, BranchConditional, CallBranch}
use Rattle.ir_model.specs.declared.firmware.CmpOp.{CmpOp}
use Rattle.ir_model.specs.declared.firmware.CmpOp.TheVariants.{Eq, Ne, Ult, Ule, Slt, Sle}
use Rattle.code_model.specs.Words.{load_home, save, byte_into}

-- A7.3: EQ, NE, CC, LS, LT, LE
abbrev pub condition : CmpOp → ℕ
condition Eq = 0
condition Ne = 1
condition Ult = 3
condition Ule = 9
condition Slt = 11
condition Sle = 13

-- CMP r0, r1; B on the condition over the next two instructions; MOVS r0, #0; B over the next; MOVS r0, #1
abbrev pub cmp_code : CmpOp → (to a b : ℕ) → List Instr
cmp_code op to a b =
    load_home 0 a ∷ load_home 1 b ∷ DataRegister 10 1 0
    ∷ BranchConditional (condition op) (pos 2) ∷ byte_into 0 0 ∷ CallBranch 1 0 (pos 0) ∷ byte_into 0 1
    ∷ save to ∷ []
