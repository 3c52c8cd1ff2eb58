-- Beyond the program's claim: only laws, proofs and functions inside the tool cite this file.
-- Small firmwares of one function, and arithmetic.
use Rattle.std.specs.Prelude.{◌≡◌, ℕ, [], ◌∷◌, None, true, codes}
use Rattle.ir_model.specs.declared.firmware.BinOp.TheVariants.{Udiv, Sdiv, Urem, Srem, Shl, Sar}
use Rattle.ir_model.specs.declared.firmware.Inst.TheVariants as inst
use Rattle.ir_model.specs.declared.firmware.Term.TheVariants.{Ret}
use Rattle.ir_model.specs.declared.firmware.Cell.TheVariants.{Word}
use Rattle.ir_model.specs.Types.{U8, U32, Pointer, Array, nothing}
use Rattle.ir_model.specs.Plain.{PlainFirmware}
use Rattle.ir_model.specs.State.{Ended, Returned, Faulted, NoCellFault, ConstantFault}
use Rattle.ir_model.specs.Step.{binary}
use Rattle.ir_model.specs.Typing.{fault_of}
use Rattle.example_machine.specs.Written.{binding, periph, global, block, func, file, firmware, only_main, after, run_events}

-- the peripheral of 1,024 bytes, one element further on
abbrev pub pokes : PlainFirmware
pokes =
    firmware [] (periph (codes "TIM") 0x40010000 1024 ∷ []) []
    (file (codes "m")
    (func (codes "main") [] nothing [] (binding (codes "p") (Pointer U32) ∷ binding (codes "k") U32 ∷ binding (codes "v") U32 ∷ [])
    (block (codes "b0")
    (inst.Addr (codes "p") (codes "TIM")
    ∷ inst.Const (codes "k") 1
    ∷ inst.Elem (codes "p") (codes "p") (codes "k")
    ∷ inst.Const (codes "v") 7
    ∷ inst.Store (codes "p") (codes "v")
    ∷ [])
    (Ret None)
    ∷ [])
    ∷ [])
    ∷ [])

-- element 0 of four bytes, and then element 32
abbrev pub overruns : PlainFirmware
overruns =
    only_main [] (global (codes "a") (Array 4 U8) [] ∷ []) []
    (binding (codes "q") (Pointer (Array 4 U8)) ∷ binding (codes "e") (Pointer U8) ∷ binding (codes "k") U32 ∷ [])
    (inst.Addr (codes "q") (codes "a")
    ∷ inst.Elem (codes "e") (codes "q") (codes "k")
    ∷ inst.Store (codes "e") (codes "k")
    ∷ inst.Const (codes "k") 32
    ∷ inst.Elem (codes "e") (codes "q") (codes "k")
    ∷ inst.Store (codes "e") (codes "k")
    ∷ [])

-- a store to a constant, so many elements behind it
abbrev pub spoils : (behind : ℕ) → PlainFirmware
spoils n =
    only_main [] (record (global (codes "c") U32 (Word 5 ∷ [])) { constant = true } ∷ []) []
    (binding (codes "p") (Pointer U32) ∷ binding (codes "k") U32 ∷ [])
    (inst.Addr (codes "p") (codes "c")
    ∷ inst.Const (codes "k") n
    ∷ inst.Elem (codes "p") (codes "p") (codes "k")
    ∷ inst.Load (codes "k") (codes "p")
    ∷ inst.Store (codes "p") (codes "k")
    ∷ [])

pub record ComputesSmall : Type 0 where
  pub pokes_typed : fault_of pokes ≡ None
  pub pokes_ends : after pokes (0 ∷ []) ([] ∷ []) 6 ≡ Ended Returned
  pub pokes_tells : run_events pokes (0 ∷ []) ([] ∷ []) 5
      ≡ record { compartment = 0; periph = 0; offset = 4; width = 4; write = true; value = 7 } ∷ []
  pub overruns_typed : fault_of overruns ≡ None
  pub overruns_ends : after overruns (0 ∷ []) [] 6 ≡ Ended (Faulted NoCellFault)
  pub spoils_typed : fault_of (spoils 0) ≡ None
  pub spoils_ends : after (spoils 0) (0 ∷ []) [] 5 ≡ Ended (Faulted ConstantFault)
  pub spoils_nothing : after (spoils 1) (0 ∷ []) [] 5 ≡ Ended (Faulted NoCellFault)
  -- division by 0, the least number by -1, and shifts by more than the width
  pub by_zero : binary Udiv 5 0 ≡ 0
  pub signed_by_zero : binary Sdiv 5 0 ≡ 0
  pub least_by_minus_one : binary Sdiv 0x80000000 0xFFFFFFFF ≡ 0x80000000
  pub towards_zero : binary Sdiv 0xFFFFFFF9 2 ≡ 0xFFFFFFFD
  pub nothing_left : binary Srem 0x80000000 0xFFFFFFFF ≡ 0
  pub left_by_zero : binary Urem 5 0 ≡ 5
  pub shifted_out : binary Shl 5 32 ≡ 0
  pub shifted_by_low_byte : binary Shl 5 256 ≡ 5
  pub only_signs : binary Sar 0x80000000 40 ≡ 0xFFFFFFFF
