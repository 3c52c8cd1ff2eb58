-- Beyond the program's claim: only laws, proofs and functions inside the tool cite this file.
-- Lent locals: `main` lends the address of a local through one function to another, which stores to it; and what is left
-- of a local whose function has returned.
use Rattle.std.specs.Prelude.{◌≡◌, [], ◌∷◌, Some, None, true, codes}
use Rattle.ir_model.specs.declared.firmware.Inst.TheVariants as inst
use Rattle.ir_model.specs.declared.firmware.Term.TheVariants.{Ret}
use Rattle.ir_model.specs.Types.{U32, Pointer, nothing, gives}
use Rattle.ir_model.specs.Plain.{PlainFunc, PlainFirmware}
use Rattle.ir_model.specs.State.{Ended, Returned, Faulted, DeadFault}
use Rattle.ir_model.specs.Typing.{fault_of}
use Rattle.example_machine.specs.Written.{binding, periph, block, func, file, firmware, after, run_events}

abbrev pub main : PlainFunc
main =
    func (codes "main") [] nothing (binding (codes "x") U32 ∷ [])
    (binding (codes "p") (Pointer U32) ∷ binding (codes "t") (Pointer U32) ∷ binding (codes "v") U32 ∷ [])
    (block (codes "b0")
    (inst.Addr (codes "p") (codes "x")
    ∷ inst.Call None (codes "f") (codes "p" ∷ [])
    ∷ inst.Load (codes "v") (codes "p")
    ∷ inst.Addr (codes "t") (codes "TIM")
    ∷ inst.Store (codes "t") (codes "v")
    ∷ [])
    (Ret None)
    ∷ [])

abbrev pub f : PlainFunc
f =
    func (codes "f") (binding (codes "p") (Pointer U32) ∷ []) nothing [] []
    (block (codes "b0") (inst.Call None (codes "g") (codes "p" ∷ []) ∷ []) (Ret None) ∷ [])

abbrev pub g : PlainFunc
g =
    func (codes "g") (binding (codes "p") (Pointer U32) ∷ []) nothing [] (binding (codes "k") U32 ∷ [])
    (block (codes "b0") (inst.Const (codes "k") 42 ∷ inst.Store (codes "p") (codes "k") ∷ []) (Ret None) ∷ [])

abbrev pub lend : PlainFirmware
lend =
    firmware [] (periph (codes "TIM") 0x40010000 1024 ∷ []) []
    (file (codes "a.c") (main ∷ []) ∷ file (codes "b.c") (f ∷ []) ∷ file (codes "c.c") (g ∷ []) ∷ [])

-- a function that gives the address of its local
abbrev pub leaks : PlainFunc
leaks =
    func (codes "leaks") [] (gives (Pointer U32)) (binding (codes "x") U32 ∷ []) (binding (codes "p") (Pointer U32) ∷ [])
    (block (codes "b0") (inst.Addr (codes "p") (codes "x") ∷ []) (Ret (Some (codes "p"))) ∷ [])

abbrev pub reads_late : PlainFunc
reads_late =
    func (codes "main") [] nothing [] (binding (codes "p") (Pointer U32) ∷ binding (codes "v") U32 ∷ [])
    (block (codes "b0")
    (inst.Call (Some (codes "p")) (codes "leaks") []
    ∷ inst.Const (codes "v") 1
    ∷ inst.Elem (codes "p") (codes "p") (codes "v")
    ∷ inst.Load (codes "v") (codes "p")
    ∷ [])
    (Ret None)
    ∷ [])

abbrev pub leak : PlainFirmware
leak = firmware [] [] [] (file (codes "m") (reads_late ∷ leaks ∷ []) ∷ [])

pub record ComputesLending : Type 0 where
  pub typed : fault_of lend ≡ None
  pub ends : after lend (0 ∷ 1 ∷ 2 ∷ []) ([] ∷ []) 11 ≡ Ended Returned
  pub tells : run_events lend (0 ∷ 1 ∷ 2 ∷ []) ([] ∷ []) 11
      ≡ record { compartment = 0; periph = 0; offset = 0; width = 4; write = true; value = 42 } ∷ []
  pub leak_typed : fault_of leak ≡ None
  -- that the function has returned is found before that there is no cell
  pub leak_ends : after leak (0 ∷ 0 ∷ []) [] 6 ≡ Ended (Faulted DeadFault)
