-- Beyond the program's claim: only laws, proofs and functions inside the tool cite this file.
-- Entries and returns. A frame of 512 bytes is the largest that SP reaches by one instruction.
use Rattle.std.specs.Prelude.{◌≡◌, ℕ, [], ◌∷◌, take, Some, None}
use Rattle.machine_thumb.specs.Bytes.{code_bytes}
use Rattle.ir_model.specs.Types.{U8, U16, U32, Pointer, none, more, nothing}
use Rattle.ir_model.specs.Layout.{one_cell, array_of}
use Rattle.ir_model.specs.Resolved.{NumberedFunc}
use Rattle.code_model.specs.FrameShape.{frame_size, frame_shape}
use Rattle.code_model.specs.Places.{lends_among}
use Rattle.code_model.specs.Entry.{enter_code, leave_code}
use Rattle.code_model.specs.Sizes.{entry_size}
use Rattle.example_code.specs.Written.{halves, func}

abbrev pub with_bytes : ℕ → NumberedFunc
with_bytes n = func none nothing (array_of n (one_cell 1 U8) ∷ []) [] []

-- two parameters and a register; locals of a byte, of three halfwords and of a word
abbrev pub mixed : NumberedFunc
mixed =
    func (more U32 (more (Pointer U32) none)) nothing
    (one_cell 1 U8 ∷ array_of 3 (one_cell 2 U16) ∷ one_cell 4 U32 ∷ [])
    (U32 ∷ Pointer U32 ∷ U32 ∷ []) []

pub record ComputesFrames : Type 0 where
  -- 12 bytes of registers, 4, 8 and 4 of locals, and 4, rounded up
  pub mixed_size : frame_size mixed ≡ 32
  pub mixed_shape : frame_shape mixed ≡ record { words = 7; registers = 3; starts = 12 ∷ 16 ∷ 24 ∷ [] }
  -- the byte and the word are lent
  pub mixed_lends : lends_among (12 ∷ 16 ∷ 24 ∷ []) (Some 0 ∷ None ∷ Some 31 ∷ []) ≡ record { home = 3; number = 0 } ∷ record { home = 6; number = 31 } ∷ []
  -- PUSH {lr}; SUB SP, #28; the parameters; MOVS r0, #0; five words; and the loans
  pub mixed_entry : code_bytes (enter_code 2 7 (record { home = 3; number = 0 } ∷ record { home = 6; number = 31 } ∷ [])) ≡ halves (
      0xB500 ∷ 0xB087 ∷ 0x9000 ∷ 0x9101 ∷ 0x2000 ∷ 0x9002 ∷ 0x9003 ∷ 0x9004 ∷ 0x9005 ∷ 0x9006
      ∷ 0xA803 ∷ 0x2100 ∷ 0xDF02
      ∷ 0xA806 ∷ 0x211F ∷ 0xDF02 ∷ [])
  pub mixed_entry_size : entry_size mixed 2 ≡ 32
  -- SVC #3 twice; LDR r0, [SP, #8]; ADD SP, #28; POP {pc}
  pub mixed_return : code_bytes (leave_code 7 (record { home = 3; number = 0 } ∷ record { home = 6; number = 31 } ∷ []) (Some 2)) ≡ halves (
      0xDF03 ∷ 0xDF03 ∷ 0x9802 ∷ 0xB007 ∷ 0xBD00 ∷ [])
  pub near_size : frame_size (with_bytes 508) ≡ 512
  pub near_words : (frame_shape (with_bytes 508)).words ≡ 127
  pub near_return : code_bytes (leave_code 127 [] None) ≡ halves (0xB07F ∷ 0xBD00 ∷ [])
  pub far_size : frame_size (with_bytes 509) ≡ 520
  pub far_words : (frame_shape (with_bytes 509)).words ≡ 129
  pub far_return : code_bytes (leave_code 129 [] None) ≡ halves (0xB07F ∷ 0xB002 ∷ 0xBD00 ∷ [])
  -- PUSH {lr}; SUB SP, #508; SUB SP, #8; MOVS r0, #0; and 129 words, the first two
  pub far_entry : take 12 (code_bytes (enter_code 0 129 [])) ≡ halves (0xB500 ∷ 0xB0FF ∷ 0xB082 ∷ 0x2000 ∷ 0x9000 ∷ 0x9001 ∷ [])
  pub far_entry_size : entry_size (with_bytes 509) 0 ≡ 266
