-- Lines that were worked out by hand: a function that was called stores behind the last byte of a global of `main`.
use Rattle.std.proofs.Common.{◌≡◌, ℕ, List, [], ◌∷◌, ◌++◌, Some, None, false, codes, refl, map}
use Rattle.std.specs.Fmt.{digits}
use Rattle.machine_lines.specs.Lines.{hexadecimal, line_feed}
use Rattle.ir_model.specs.declared.firmware.Block.{Block}
use Rattle.ir_model.specs.declared.firmware.Term.TheVariants as term
use Rattle.ir_model.specs.Types.{U8, none, nothing}
use Rattle.ir_model.specs.Plain.{PlainFirmware, PlainFunc}
use Rattle.ir_model.specs.Resolved.{Program, NumberedFunc, NumberedInst, Number, At, OfGlobal, Call, Store, Ret}
use Rattle.ir_model.specs.State.{Frame, Faulted, NoCellFault}
use Rattle.aces_where.specs.PlaceLines.{place_lines}

-- the names, and nothing else
abbrev named_func : (name : List ℕ) → (regs : List (List ℕ)) → PlainFunc
named_func n rs =
    let block : Block = record { label = codes "b0"; insts = []; term = term.Ret None } in
    record { name = n; params = []; outcome = nothing; locals = []; regs = map (λ r. record { name = r; ty = U8 }) rs; blocks = block ∷ [] }

abbrev names : PlainFirmware
names =
    record {
      structs = [];
      periphs = [];
      globals = record { name = codes "buffer"; constant = false; ty = U8; init = [] } ∷ [];
      files = record { name = codes "m"; funcs = named_func (codes "main") [] ∷ named_func (codes "put") (codes "p" ∷ codes "v" ∷ []) ∷ [] } ∷ [];
    }

-- the instructions: `main` calls, and `put` stores
abbrev numbered_func : List NumberedInst → NumberedFunc
numbered_func is = record { params = none; outcome = nothing; regs = []; locals = []; blocks = record { insts = is; term = Ret None } ∷ [] }

abbrev program : Program
program = record { globals = []; periphs = []; funcs = numbered_func (Call None 1 [] ∷ []) ∷ numbered_func (Store 0 1 U8 ∷ []) ∷ []; files = 0 ∷ 0 ∷ []; main = 0 }

abbrev frames : List Frame
frames =
    record { func = 1; block = 0; place = 0; number = 1; regs = At (OfGlobal 0) 4 ∷ Number 7 ∷ []; locals = [] }
    ∷ record { func = 0; block = 0; place = 0; number = 0; regs = []; locals = [] } ∷ []

row : place_lines names program 2 (Some (Faulted NoCellFault)) frames
    ≡ codes "steps 2" ++ line_feed ++ codes "end fault no-cell" ++ line_feed ++ codes "at put block b0 instruction 0" ++ line_feed
    ++ codes "waits main block b0 instruction 0" ++ line_feed ++ codes "reg p global buffer 4" ++ line_feed ++ codes "reg v 0x00000007" ++ line_feed
    ++ codes "reached global buffer 4" ++ line_feed
unfolding hexadecimal digits
row = refl
