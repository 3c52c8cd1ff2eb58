-- How the place of a frame is told: the function, the block, and the instruction or the block's end; and by what an instruction goes there.
use Rattle.std.specs.Prelude.{ℕ, List, ◌++◌, codes, Option, Some, None, option_map}
use Rattle.std.proofs.Math.ListN.{get_or}
use Rattle.std.specs.Fmt.{decimal}
use Rattle.machine_lines.specs.Lines.{line_feed}
use Rattle.ir_model.specs.Plain.{PlainFirmware}
use Rattle.ir_model.specs.Resolved.{Program, Value, Number, NumberedInst, Elem, Field, Load, Store, ICall, Here, Does, Ends, here}
use Rattle.ir_run.specs.declared.reads.FramePlace.{FramePlace}
use Rattle.plan_report.specs.Names.{func_name, label_of}

-- ---- places

abbrev pub number_text : (place : ℕ) → List ℕ
number_text k = codes " instruction " ++ decimal k

abbrev pub stand_text : Here → (place : ℕ) → List ℕ
stand_text (Does i) k = number_text k
stand_text (Ends t) k = codes " end"

-- what stands at a place
abbrev pub here_at : Program → FramePlace → Here
here_at p s = here p s.func s.block s.place

abbrev pub spot_line : PlainFirmware → Program → (word : List ℕ) → FramePlace → List ℕ
spot_line w p word s = word ++ func_name w s.func ++ codes " block " ++ label_of w s.func s.block ++ stand_text (here_at p s) s.place ++ line_feed

-- ---- the value that an instruction meets

-- the register by which an instruction reaches an object or a function; no other instruction meets a fault
abbrev pub reaching_register : NumberedInst → Option ℕ
reaching_register (Elem to base index size) = Some base
reaching_register (Field to base offset) = Some base
reaching_register (Load to from t) = Some from
reaching_register (Store to from t) = Some to
reaching_register (ICall to f args) = Some f
reaching_register _ = None

abbrev pub met_by : Here → (regs : List Value) → Option Value
met_by (Does i) vs = option_map (λ r. get_or vs r (Number 0)) (reaching_register i)
met_by (Ends t) vs = None

-- what the instruction at which a frame with these registers stands meets
abbrev pub met : Program → FramePlace → (regs : List Value) → Option Value
met p s vs = met_by (here_at p s) vs
