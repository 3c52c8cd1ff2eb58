-- Beyond the program's claim: only laws, proofs and functions inside the tool cite this file.
-- A control loop in four files: it reads a sensor, scales and clamps what it read, and writes it.
use Rattle.std.specs.Prelude.{◌≡◌, [], ◌∷◌, Some, None, true, false, codes}
use Rattle.ir_model.specs.declared.firmware.BinOp.TheVariants.{Add, Mul}
use Rattle.ir_model.specs.declared.firmware.CmpOp.TheVariants.{Ult}
use Rattle.ir_model.specs.declared.firmware.Inst.TheVariants as inst
use Rattle.ir_model.specs.declared.firmware.Term.TheVariants.{Jump, Branch, Ret}
use Rattle.ir_model.specs.declared.firmware.Cell.TheVariants.{Word}
use Rattle.ir_model.specs.Types.{U32, Pointer, nothing, gives}
use Rattle.ir_model.specs.Plain.{PlainFunc, PlainFirmware}
use Rattle.ir_model.specs.State.{Ended, OutOfInput}
use Rattle.ir_model.specs.Typing.{fault_of}
use Rattle.example_machine.specs.Written.{binding, periph, global, block, func, file, firmware, after, run_events}

abbrev pub main : PlainFunc
main =
    func (codes "main") [] nothing []
    (binding (codes "n") U32 ∷ binding (codes "one") U32 ∷ binding (codes "p") (Pointer U32) ∷ binding (codes "s") U32 ∷ [])
    (block (codes "b0") (inst.Const (codes "one") 1 ∷ inst.Addr (codes "p") (codes "turns") ∷ []) (Jump (codes "b1"))
    ∷ block (codes "b1")
    (inst.Call (Some (codes "s")) (codes "adc_read") []
    ∷ inst.Call None (codes "control") (codes "s" ∷ [])
    ∷ inst.Load (codes "n") (codes "p")
    ∷ inst.Bin Add (codes "n") (codes "n") (codes "one")
    ∷ inst.Store (codes "p") (codes "n")
    ∷ [])
    (Jump (codes "b1"))
    ∷ [])

abbrev pub adc_read : PlainFunc
adc_read =
    func (codes "adc_read") [] (gives U32) []
    (binding (codes "p") (Pointer U32) ∷ binding (codes "v") U32 ∷ [])
    (block (codes "b0") (inst.Addr (codes "p") (codes "ADC") ∷ inst.Load (codes "v") (codes "p") ∷ []) (Ret (Some (codes "v"))) ∷ [])

abbrev pub control : PlainFunc
control =
    func (codes "control") (binding (codes "e") U32 ∷ []) nothing []
    (binding (codes "p") (Pointer U32) ∷ binding (codes "q") (Pointer U32) ∷ binding (codes "g") U32 ∷ binding (codes "k") U32 ∷ [])
    (block (codes "b0")
    (inst.Addr (codes "p") (codes "TIM")
    ∷ inst.Const (codes "k") 1
    ∷ inst.Store (codes "p") (codes "k")
    ∷ inst.Addr (codes "q") (codes "gain")
    ∷ inst.Load (codes "g") (codes "q")
    ∷ inst.Bin Mul (codes "g") (codes "e") (codes "g")
    ∷ inst.Call (Some (codes "g")) (codes "clamp") (codes "g" ∷ [])
    ∷ inst.Call None (codes "coil_set") (codes "g" ∷ [])
    ∷ [])
    (Ret None)
    ∷ [])

abbrev pub clamp : PlainFunc
clamp =
    func (codes "clamp") (binding (codes "v") U32 ∷ []) (gives U32) []
    (binding (codes "m") U32 ∷ binding (codes "c") U32 ∷ [])
    (block (codes "b0") (inst.Const (codes "m") 100 ∷ inst.Cmp Ult (codes "c") (codes "m") (codes "v") ∷ []) (Branch (codes "c") (codes "b1") (codes "b2"))
    ∷ block (codes "b1") [] (Ret (Some (codes "m")))
    ∷ block (codes "b2") [] (Ret (Some (codes "v")))
    ∷ [])

abbrev pub coil_set : PlainFunc
coil_set =
    func (codes "coil_set") (binding (codes "d") U32 ∷ []) nothing []
    (binding (codes "p") (Pointer U32) ∷ binding (codes "k") U32 ∷ [])
    (block (codes "b0")
    (inst.Addr (codes "p") (codes "TIM") ∷ inst.Const (codes "k") 13 ∷ inst.Elem (codes "p") (codes "p") (codes "k") ∷ inst.Store (codes "p") (codes "d") ∷ [])
    (Ret None)
    ∷ [])

abbrev pub loop : PlainFirmware
loop =
    firmware [] (periph (codes "ADC") 0x40012000 1024 ∷ periph (codes "TIM") 0x40010000 1024 ∷ [])
    (global (codes "gain") U32 (Word 3 ∷ []) ∷ global (codes "turns") U32 [] ∷ [])
    (file (codes "main.c") (main ∷ [])
    ∷ file (codes "adc.c") (adc_read ∷ [])
    ∷ file (codes "ctl.c") (control ∷ [])
    ∷ file (codes "coil.c") (clamp ∷ coil_set ∷ [])
    ∷ [])

pub record ComputesControl : Type 0 where
  pub typed : fault_of loop ≡ None
  pub ends : after loop (0 ∷ 1 ∷ 2 ∷ 3 ∷ 3 ∷ []) ((10 ∷ []) ∷ [] ∷ []) 40 ≡ Ended OutOfInput
  pub tells : run_events loop (0 ∷ 1 ∷ 2 ∷ 3 ∷ 3 ∷ []) ((10 ∷ []) ∷ [] ∷ []) 40
      ≡ record { compartment = 1; periph = 0; offset = 0; width = 4; write = false; value = 10 }
      ∷ record { compartment = 2; periph = 1; offset = 0; width = 4; write = true; value = 1 }
      ∷ record { compartment = 3; periph = 1; offset = 0x34; width = 4; write = true; value = 30 }
      ∷ []
