-- Lines that were worked out by hand: of a function that loads into a pointer, copies a pointer into a number, and names a field that is not there;
-- and of globals whose second value is too large, and that have more values than cells.
use Rattle.std.proofs.Common.{◌≡◌, ℕ, false, List, [], ◌∷◌, ◌++◌, None, codes, refl}
use Rattle.std.specs.Fmt.{digits}
use Rattle.machine_lines.specs.Lines.{line_feed}
use Rattle.ir_model.specs.declared.check.CheckKind.TheVariants.{IllTyped, BadInit}
use Rattle.ir_model.specs.declared.check.CheckPlace.TheVariants as place
use Rattle.ir_model.specs.declared.firmware.Block.{Block}
use Rattle.ir_model.specs.declared.firmware.Cell.{Cell}
use Rattle.ir_model.specs.declared.firmware.Cell.TheVariants.{Word, Function}
use Rattle.ir_model.specs.declared.firmware.Inst.TheVariants as inst
use Rattle.ir_model.specs.declared.firmware.Term.TheVariants as term
use Rattle.ir_model.specs.Types.{U8, U32, Pointer, Named, nothing}
use Rattle.ir_model.specs.Plain.{PlainFirmware, PlainFunc, PlainGlobal, PlainStruct}
use Rattle.ir_model.specs.Layout.{known}
use Rattle.ir_printer.specs.Pieces.{next}
use Rattle.ir_check_details.specs.CheckLines.{check_lines}

abbrev block : Block
block =
    record {
      label = codes "b0";
      insts =
          inst.Move (codes "count") (codes "at")
          ∷ inst.Load (codes "next") (codes "at")
          ∷ inst.Field (codes "at") (codes "pair") (codes "third")
          ∷ [];
      term = term.Ret None;
    }

abbrev step : PlainFunc
step =
    record {
      name = codes "step";
      params = record { name = codes "at"; ty = Pointer U8 } ∷ [];
      outcome = nothing;
      locals = [];
      regs =
          record { name = codes "count"; ty = U32 }
          ∷ record { name = codes "next"; ty = Pointer U8 }
          ∷ record { name = codes "pair"; ty = Pointer (Named (codes "Pair")) }
          ∷ [];
      blocks = block ∷ [];
    }

abbrev pair : PlainStruct
pair = record { name = codes "Pair"; fields = record { name = codes "first"; ty = U8 } ∷ record { name = codes "second"; ty = U8 } ∷ [] }

abbrev firmware : PlainFirmware
firmware = record { structs = pair ∷ []; periphs = []; globals = []; files = record { name = codes "m"; funcs = step ∷ [] } ∷ [] }

-- the lines of an instruction
abbrev lines_at : (number : ℕ) → List ℕ
lines_at k = check_lines firmware (record { kind = IllTyped; place = place.Inst (codes "step") (codes "b0") k })

copied : lines_at 0 ≡ codes "found at: * u8" ++ line_feed ++ codes "expected u32" ++ line_feed
unfolding next
copied = refl

loaded : lines_at 1 ≡ codes "found next: * u8" ++ line_feed ++ codes "expected u32" ++ line_feed
unfolding next
loaded = refl

missing : lines_at 2 ≡ codes "found third" ++ line_feed ++ codes "expected first or second" ++ line_feed
unfolding next
missing = refl

-- a global of the struct, with these first values
abbrev start : List Cell → PlainGlobal
start cs = record { name = codes "start"; constant = false; ty = Named (codes "Pair"); init = cs }

abbrev lines_of : List Cell → List ℕ
lines_of cs = check_lines (record { structs = pair ∷ []; periphs = []; globals = start cs ∷ []; files = [] }) (record { kind = BadInit; place = place.Global (codes "start") })

large : lines_of (Word 255 ∷ Word 256 ∷ []) ≡ codes "found value 2: 256" ++ line_feed ++ codes "expected u8" ++ line_feed
unfolding next known digits
large = refl

many : lines_of (Word 1 ∷ Word 2 ∷ Function (codes "step") ∷ []) ≡ codes "found 3 values" ++ line_feed ++ codes "expected at most 2" ++ line_feed
unfolding next known digits
many = refl
