-- In the program of a checked firmware functions, registers, blocks and instructions have small numbers.
use Rattle.std.proofs.Common.{ℕ, zero, suc, ◌≤◌, List, [], ◌∷◌, length, get_or, subst, arith}
use Rattle.ir_model.specs.Types.{PlainType}
use Rattle.ir_model.specs.Resolved.{Program, Const, Move, Bin, Cmp, Addr, FAddr, Elem, Field, Load, Store, Call, ICall, NumberedBlock, no_block, Here, Does, Ends, func_at, here}
use Rattle.ir_laws.specs.Limits.{inst_count, AreFew}
use Rattle.ir_laws.specs.Typed.{HereTyped, Typed}
use Rattle.needs.specs.declared.instructions.Use.{Use}
use Rattle.needs.specs.declared.instructions.Use.TheVariants as uses
use Rattle.needs.specs.Uses.{UsedAt}
use Rattle.needs.specs.Bounds.{IsBelow, HasSmallNumbers, RegistersAreThere}
use Rattle.need_lists.proofs.Parts.{in_none}
use Rattle.needs.proofs.Used.{single}

insts_of : (bs : List NumberedBlock) (b : ℕ) → length (get_or bs b no_block).insts ≤ inst_count bs
insts_of [] b = omega arith
insts_of (x ∷ bs) zero = omega arith
insts_of (x ∷ bs) (suc b) = let h = insts_of bs b in omega arith

pub small_numbers : (p : Program) → AreFew p → HasSmallNumbers p
small_numbers p few =
    record {
      funcs = let h = few.funcs in omega arith;
      registers = λ f. (let h = (few.each f).registers in omega arith);
      locals = λ f. (let h = (few.each f).locals in omega arith);
      blocks = λ f. (let h = (few.each f).blocks in omega arith);
      insts = λ f b. (let h = (few.each f).insts in let i = insts_of (func_at p f).blocks b in omega arith);
    }

module _ (p : Program) (sizes : PlainType → ℕ) (f : ℕ) where
  abbrev Below : Use → Type 0
  Below u = IsBelow (length (func_at p f).regs) u

  used_below : (h : Here) (u : Use) → HereTyped p sizes (func_at p f) h → UsedAt h u → Below u
  used_below (Does (Load to from t)) u y h = subst Below (single (uses.Load from) u h) y.from.there
  used_below (Does (Store to from t)) u y h = subst Below (single (uses.Store to) u h) y.from.there
  used_below (Does (Call to g args)) u y h = subst Below (single (uses.Call g) u h) tt
  used_below (Does (ICall to r args)) u y h = subst Below (single (uses.Indirect r) u h) y.held.there
  used_below (Does (Const to v)) u y h = absurd (in_none u h)
  used_below (Does (Move to from)) u y h = absurd (in_none u h)
  used_below (Does (Bin op to a b)) u y h = absurd (in_none u h)
  used_below (Does (Cmp op to a b)) u y h = absurd (in_none u h)
  used_below (Does (Addr to of)) u y h = absurd (in_none u h)
  used_below (Does (FAddr to g)) u y h = absurd (in_none u h)
  used_below (Does (Elem to base i n)) u y h = absurd (in_none u h)
  used_below (Does (Field to base n)) u y h = absurd (in_none u h)
  used_below (Ends t) u y h = absurd h

pub registers_there : (p : Program) (sizes : PlainType → ℕ) → Typed p sizes → RegistersAreThere p
registers_there p sizes typed f b k u h = used_below p sizes f (here p f b k) u ((typed.funcs f).code b k) h
