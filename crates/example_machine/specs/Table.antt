-- Beyond the program's claim: only laws, proofs and functions inside the tool cite this file.
-- A table of functions that are called by what a sensor gives; its last cell is null.
use Rattle.std.specs.Prelude.{◌≡◌, ℕ, [], ◌∷◌, Some, None, Bool, true, false, codes}
use Rattle.base_events.specs.declared.event.Event.{Event}
use Rattle.ir_model.specs.declared.firmware.BinOp.TheVariants.{Add, Mul}
use Rattle.ir_model.specs.declared.firmware.Inst.TheVariants as inst
use Rattle.ir_model.specs.declared.firmware.Term.TheVariants.{Jump, Ret}
use Rattle.ir_model.specs.declared.firmware.Cell.TheVariants.{Function}
use Rattle.ir_model.specs.Types.{PlainType, U32, Pointer, Array, Callee, none, more, nothing, gives}
use Rattle.ir_model.specs.Plain.{PlainFunc, PlainFirmware}
use Rattle.ir_model.specs.State.{Ended, Faulted, NullFault}
use Rattle.ir_model.specs.Typing.{fault_of}
use Rattle.example_machine.specs.Written.{binding, periph, global, block, func, file, firmware, after, run_events}

abbrev pub entry : PlainType
entry = Callee (more U32 none) (gives U32)

abbrev pub main : PlainFunc
main =
    func (codes "main") [] nothing []
    (binding (codes "a") (Pointer U32)
    ∷ binding (codes "t") (Pointer U32)
    ∷ binding (codes "i") U32
    ∷ binding (codes "v") U32
    ∷ binding (codes "r") U32
    ∷ binding (codes "q") (Pointer (Array 4 entry))
    ∷ binding (codes "e") (Pointer entry)
    ∷ binding (codes "h") entry
    ∷ [])
    (block (codes "b0")
    (inst.Addr (codes "a") (codes "ADC")
    ∷ inst.Addr (codes "t") (codes "TIM")
    ∷ inst.Const (codes "v") 7
    ∷ inst.Addr (codes "q") (codes "tab")
    ∷ [])
    (Jump (codes "b1"))
    ∷ block (codes "b1")
    (inst.Load (codes "i") (codes "a")
    ∷ inst.Elem (codes "e") (codes "q") (codes "i")
    ∷ inst.Load (codes "h") (codes "e")
    ∷ inst.ICall (Some (codes "r")) (codes "h") (codes "v" ∷ [])
    ∷ inst.Store (codes "t") (codes "r")
    ∷ [])
    (Jump (codes "b1"))
    ∷ [])

abbrev pub same_value : PlainFunc
same_value = func (codes "f0") (binding (codes "v") U32 ∷ []) (gives U32) [] [] (block (codes "b0") [] (Ret (Some (codes "v"))) ∷ [])

abbrev pub doubled : PlainFunc
doubled =
    func (codes "f1") (binding (codes "v") U32 ∷ []) (gives U32) [] []
    (block (codes "b0") (inst.Bin Add (codes "v") (codes "v") (codes "v") ∷ []) (Ret (Some (codes "v"))) ∷ [])

abbrev pub squared : PlainFunc
squared =
    func (codes "f2") (binding (codes "v") U32 ∷ []) (gives U32) [] []
    (block (codes "b0") (inst.Bin Mul (codes "v") (codes "v") (codes "v") ∷ []) (Ret (Some (codes "v"))) ∷ [])

abbrev pub table : PlainFirmware
table =
    firmware [] (periph (codes "ADC") 0x40012000 1024 ∷ periph (codes "TIM") 0x40010000 1024 ∷ [])
    (global (codes "tab") (Array 4 entry) (Function (codes "f0") ∷ Function (codes "f1") ∷ Function (codes "f2") ∷ []) ∷ [])
    (file (codes "a.c") (main ∷ same_value ∷ []) ∷ file (codes "b.c") (doubled ∷ []) ∷ file (codes "c.c") (squared ∷ []) ∷ [])

abbrev pub event : (periph : ℕ) → (write : Bool) → (value : ℕ) → Event
event p w v = record { compartment = 0; periph = p; offset = 0; width = 4; write = w; value = v }

pub record ComputesTable : Type 0 where
  pub typed : fault_of table ≡ None
  pub ends : after table (0 ∷ 0 ∷ 1 ∷ 2 ∷ []) ((0 ∷ 1 ∷ 2 ∷ 3 ∷ []) ∷ [] ∷ []) 40 ≡ Ended (Faulted NullFault)
  pub tells : run_events table (0 ∷ 0 ∷ 1 ∷ 2 ∷ []) ((0 ∷ 1 ∷ 2 ∷ 3 ∷ []) ∷ [] ∷ []) 40
      ≡ event 0 false 0 ∷ event 1 true 7 ∷ event 0 false 1 ∷ event 1 true 14 ∷ event 0 false 2 ∷ event 1 true 0x31 ∷ event 0 false 3 ∷ []
