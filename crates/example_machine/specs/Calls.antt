-- Beyond the program's claim: only laws, proofs and functions inside the tool cite this file.
-- Two functions that call each other until a number is used up.
use Rattle.std.specs.Prelude.{◌≡◌, ℕ, List, [], ◌∷◌, None, codes}
use Rattle.ir_model.specs.declared.firmware.BinOp.TheVariants.{Sub}
use Rattle.ir_model.specs.declared.firmware.Inst.TheVariants as inst
use Rattle.ir_model.specs.declared.firmware.Term.TheVariants.{Branch, Ret}
use Rattle.ir_model.specs.Types.{U32, nothing}
use Rattle.ir_model.specs.Plain.{PlainFunc, PlainFirmware}
use Rattle.ir_model.specs.State.{Ended, Returned}
use Rattle.ir_model.specs.Typing.{fault_of}
use Rattle.example_machine.specs.Written.{binding, block, func, file, firmware, after, run_events}

abbrev pub player : (name other : List ℕ) → PlainFunc
player name other =
    func name (binding (codes "n") U32 ∷ []) nothing [] (binding (codes "z") U32 ∷ [])
    (block (codes "b0") [] (Branch (codes "n") (codes "b1") (codes "b2"))
    ∷ block (codes "b1")
    (inst.Const (codes "z") 1
    ∷ inst.Bin Sub (codes "n") (codes "n") (codes "z")
    ∷ inst.Call None other (codes "n" ∷ [])
    ∷ [])
    (Ret None)
    ∷ block (codes "b2") [] (Ret None)
    ∷ [])

abbrev pub main : PlainFunc
main =
    func (codes "main") [] nothing [] (binding (codes "n") U32 ∷ [])
    (block (codes "b0") (inst.Const (codes "n") 3 ∷ inst.Call None (codes "ping") (codes "n" ∷ []) ∷ []) (Ret None) ∷ [])

abbrev pub ping : PlainFirmware
ping =
    firmware [] [] []
    (file (codes "a.c") (main ∷ player (codes "pong") (codes "ping") ∷ []) ∷ file (codes "b.c") (player (codes "ping") (codes "pong") ∷ []) ∷ [])

pub record ComputesCalls : Type 0 where
  pub typed : fault_of ping ≡ None
  pub ends : after ping (0 ∷ 0 ∷ 1 ∷ []) [] 20 ≡ Ended Returned
  pub tells : run_events ping (0 ∷ 0 ∷ 1 ∷ []) [] 20 ≡ []
