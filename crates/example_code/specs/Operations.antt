-- Beyond the program's claim: only laws, proofs and functions inside the tool cite this file.
-- Numbers, copies, each operation and each comparison.
use Rattle.std.specs.Prelude.{◌≡◌, ℕ, List, [], ◌∷◌, ◌++◌}
use Rattle.machine_thumb.specs.Bytes.{code_bytes}
use Rattle.ir_model.specs.declared.firmware.BinOp.{BinOp}
use Rattle.ir_model.specs.declared.firmware.BinOp.TheVariants.{Add, Sub, Mul, Udiv, Sdiv, Urem, Srem, And, Or, Xor, Bic, Shl, Shr, Sar}
use Rattle.ir_model.specs.declared.firmware.CmpOp.{CmpOp}
use Rattle.ir_model.specs.declared.firmware.CmpOp.TheVariants.{Eq, Ne, Ult, Ule, Slt, Sle}
use Rattle.code_model.specs.Numbers.{const_code, move_code, bin_code}
use Rattle.code_model.specs.Comparisons.{cmp_code}
use Rattle.example_code.specs.Written.{halves}

-- register 2 = register 0 op register 1: LDR r0, [SP]; LDR r1, [SP, #4]; the operation's halfwords; STR r0, [SP, #8]
abbrev pub Computes : BinOp → List ℕ → Type 0
Computes op hs = code_bytes (bin_code op 2 0 1) ≡ halves ((0x9800 ∷ 0x9901 ∷ hs) ++ 0x9002 ∷ [])

-- with CMP r0, r1, the branch on the condition, and the two results
abbrev pub Compares : CmpOp → (branch : ℕ) → Type 0
Compares op h = code_bytes (cmp_code op 2 0 1) ≡ halves (0x9800 ∷ 0x9901 ∷ 0x4288 ∷ h ∷ 0x2000 ∷ 0xE000 ∷ 0x2001 ∷ 0x9002 ∷ [])

pub record ComputesOperations : Type 0 where
  -- MOVW r0, #0xDEEF; MOVT r0, #0xDEAD; STR r0, [SP, #12]
  pub number : code_bytes (const_code 3 0xDEADDEEF) ≡ halves (0xF64D ∷ 0x60EF ∷ 0xF6CD ∷ 0x60AD ∷ 0x9003 ∷ [])
  pub copy : code_bytes (move_code 1 119) ≡ halves (0x9877 ∷ 0x9001 ∷ [])
  pub sum : Computes Add (0x1840 ∷ [])
  pub difference : Computes Sub (0x1A40 ∷ [])
  pub product : Computes Mul (0x4348 ∷ [])
  pub unsigned_quotient : Computes Udiv (0xFBB0 ∷ 0xF0F1 ∷ [])
  pub signed_quotient : Computes Sdiv (0xFB90 ∷ 0xF0F1 ∷ [])
  -- the quotient in r2, times r1, from r0
  pub unsigned_remainder : Computes Urem (0xFBB0 ∷ 0xF2F1 ∷ 0x434A ∷ 0x1A80 ∷ [])
  pub signed_remainder : Computes Srem (0xFB90 ∷ 0xF2F1 ∷ 0x434A ∷ 0x1A80 ∷ [])
  pub conjunction : Computes And (0x4008 ∷ [])
  pub disjunction : Computes Or (0x4308 ∷ [])
  pub exclusive : Computes Xor (0x4048 ∷ [])
  pub clear : Computes Bic (0x4388 ∷ [])
  pub left : Computes Shl (0x4088 ∷ [])
  pub right : Computes Shr (0x40C8 ∷ [])
  pub right_signed : Computes Sar (0x4108 ∷ [])
  pub equal : Compares Eq 0xD001
  pub unequal : Compares Ne 0xD101
  pub below : Compares Ult 0xD301
  pub at_most : Compares Ule 0xD901
  pub signed_below : Compares Slt 0xDB01
  pub signed_at_most : Compares Sle 0xDD01
