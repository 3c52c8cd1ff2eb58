-- Beyond the program's claim: only laws, proofs and functions inside the tool cite this file.
-- A `main` that returns at once: a frame of one word below the return address, which is cleared.
use Rattle.std.specs.Prelude.{◌≡◌, [], ◌∷◌, None}
use Rattle.machine_thumb_asm.specs.Finished.{bytes_from}
use Rattle.ir_model.specs.Types.{none, nothing}
use Rattle.ir_model.specs.Resolved.{NumberedFunc, Ret}
use Rattle.code_model.specs.declared.places.Places.{Places}
use Rattle.code_model.specs.Sizes.{function_size}
use Rattle.code_model.specs.FunctionCode.{function_items, function_labels}
use Rattle.example_code.specs.Written.{func, block}

abbrev pub shortest : NumberedFunc
shortest = func none nothing [] [] (block [] (Ret None) ∷ [])

abbrev pub nothing_needed : Places
nothing_needed = record { globals = []; windows = []; entries = 0x08002000 ∷ []; sites = []; lends = [] }

-- PUSH {lr}; SUB SP, #4; MOVS r0, #0; STR r0, [SP]; ADD SP, #4; POP {pc}
pub record ComputesShortest : Type 0 where
  pub size : function_size shortest [] 0 ≡ 12
  pub code : bytes_from (function_labels shortest nothing_needed 0x08002000) 0x08002000 (function_items shortest nothing_needed 0 0x08002000)
      ≡ 0x00 ∷ 0xB5 ∷ 0x81 ∷ 0xB0 ∷ 0x00 ∷ 0x20 ∷ 0x00 ∷ 0x90 ∷ 0x01 ∷ 0xB0 ∷ 0x00 ∷ 0xBD ∷ []
