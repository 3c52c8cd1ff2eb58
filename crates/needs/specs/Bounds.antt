-- Beyond the program's claim: only laws, proofs and functions inside the tool cite this file.
-- Bounds by which numbers fit in 32 bits.
use Rattle.std.specs.Prelude.{ℕ, ◌<◌, ◌^◌, length}
use Rattle.ir_model.specs.Resolved.{Program, func_at, block_at, here}
use Rattle.needs.specs.Uses.{UsedAt}
use Rattle.needs.specs.declared.instructions.Use.{Use}
use Rattle.needs.specs.declared.instructions.Use.TheVariants as uses

abbrev pub IsBelow : (bound : ℕ) → Use → Type 0
IsBelow n (uses.Load r) = r < n
IsBelow n (uses.Store r) = r < n
IsBelow n (uses.Call g) = Unit {0}
IsBelow n (uses.Indirect r) = r < n

-- the register of a use is below 2 ^ 32
abbrev pub HasSmallRegister : Use → Type 0
HasSmallRegister u = IsBelow (2 ^ 32) u

-- functions, registers, locals, blocks and instructions have numbers below 2 ^ 32
pub record HasSmallNumbers (p : Program) : Type 0 where
  pub funcs : length p.funcs < 2 ^ 32
  pub registers : (f : ℕ) → length (func_at p f).regs < 2 ^ 32
  pub locals : (f : ℕ) → length (func_at p f).locals < 2 ^ 32
  pub blocks : (f : ℕ) → length (func_at p f).blocks < 2 ^ 32
  pub insts : (f b : ℕ) → length (block_at p f b).insts < 2 ^ 32

-- the registers of uses are there
abbrev pub RegistersAreThere : Program → Type 0
RegistersAreThere p = (f b k : ℕ) (u : Use) → UsedAt (here p f b k) u → IsBelow (length (func_at p f).regs) u
