-- What a name of a firmware means: the first that has it.
use Rattle.std.specs.Prelude.{ℕ, List, [], ◌∷◌, Option, Some, None, bytes_eq, if◌then◌else◌}
use Rattle.ir_model.specs.declared.firmware.Block.{Block}
use Rattle.ir_model.specs.declared.firmware.Peripheral.{Peripheral}
use Rattle.ir_model.specs.Plain.{PlainStruct, PlainFunc, PlainFile}

abbrev pub func_named : List PlainFunc → List ℕ → Option PlainFunc
func_named [] n = None
func_named (f ∷ fs) n = if bytes_eq f.name n then Some f else func_named fs n

-- the first of two that is there
abbrev pub or_else : Option PlainFunc → Option PlainFunc → Option PlainFunc
or_else None g = g
or_else (Some f) g = Some f

-- the function of a name, over the files in order
abbrev pub func_in : List PlainFile → List ℕ → Option PlainFunc
func_in [] n = None
func_in (d ∷ ds) n = or_else (func_named d.funcs n) (func_in ds n)

abbrev pub block_named : List Block → List ℕ → Option Block
block_named [] n = None
block_named (b ∷ bs) n = if bytes_eq b.label n then Some b else block_named bs n

abbrev pub periph_named : List Peripheral → List ℕ → Option Peripheral
periph_named [] n = None
periph_named (q ∷ qs) n = if bytes_eq q.name n then Some q else periph_named qs n

abbrev pub struct_named : List PlainStruct → List ℕ → Option PlainStruct
struct_named [] n = None
struct_named (s ∷ ss) n = if bytes_eq s.name n then Some s else struct_named ss n
