-- Beyond the program's claim: only laws, proofs and functions inside the tool cite this file.
-- A function with two registers and two locals. Its frame has 24 bytes: the registers at 0 and 4, a byte at 8, a half-word
-- at 12, and the return address at 20.
use Rattle.std.specs.Prelude.{◌≡◌, [], ◌∷◌, None, codes}
use Rattle.ir_model.specs.declared.firmware.Term.TheVariants.{Ret}
use Rattle.ir_model.specs.Types.{U8, U16, U32, nothing}
use Rattle.ir_model.specs.Plain.{PlainFunc}
use Rattle.ir_model.specs.Layout.{known}
use Rattle.ir_model.specs.Frames.{frame_size}
use Rattle.code_model.specs.FramePlaces.{register_offset, local_offset, return_offset}
use Rattle.example_machine.specs.Written.{binding, block, func}

abbrev pub example : PlainFunc
example =
    func (codes "main") [] nothing
    (binding (codes "a") U8 ∷ binding (codes "b") U16 ∷ [])
    (binding (codes "r") U32 ∷ binding (codes "s") U32 ∷ [])
    (block (codes "b0") [] (Ret None) ∷ [])

pub record ComputesFrame : Type 0 where
  pub size : frame_size (known []) example ≡ 24
  pub first_register : register_offset 0 ≡ 0
  pub second_register : register_offset 1 ≡ 4
  pub first_local : local_offset (known []) example 0 ≡ 8
  pub second_local : local_offset (known []) example 1 ≡ 12
  pub return_address : return_offset (known []) example ≡ 20
