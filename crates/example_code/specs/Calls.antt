-- Beyond the program's claim: only laws, proofs and functions inside the tool cite this file.
-- Calls of each kind, at 0x08002010, of a function whose entry is 0x08002100.
use Rattle.std.specs.Prelude.{◌≡◌, ℕ, List, [], ◌∷◌, Some, None}
use Rattle.machine_thumb_asm.specs.Finished.{bytes_from}
use Rattle.machine_thumb_asm.specs.declared.item.Item.{Item}
use Rattle.code_model.specs.Calls.{call_items, icall_items}
use Rattle.example_code.specs.Written.{halves}

-- these are the halfwords of code there
abbrev pub Are : List Item → List ℕ → Type 0
Are xs hs = bytes_from [] 0x08002010 xs ≡ halves hs

pub record ComputesCalls : Type 0 where
  -- BL from 0x08002010 by 0xEC bytes from the address behind it
  pub nothing_passed : Are (call_items 0x08002010 0x08002100 None None []) (0xF000 ∷ 0xF876 ∷ [])
  -- LDR r0 to r3, BL from 0x08002018, STR r0
  pub all_passed : Are (call_items 0x08002010 0x08002100 None (Some 5) (4 ∷ 3 ∷ 2 ∷ 1 ∷ []))
      (0x9804 ∷ 0x9903 ∷ 0x9A02 ∷ 0x9B01 ∷ 0xF000 ∷ 0xF872 ∷ 0x9005 ∷ [])
  -- back by 0x14 bytes from the address behind BL
  pub backwards : Are (call_items 0x08002010 0x08002000 None None []) (0xF7FF ∷ 0xFFF6 ∷ [])
  -- MOVW and MOVT r12, LDR r0, SVC #0 and the site's number
  pub across : Are (call_items 0x08002010 0x08002100 (Some 0x0FFF) (Some 5) (4 ∷ []))
      (0xF242 ∷ 0x1C01 ∷ 0xF6C0 ∷ 0x0C00 ∷ 0x9804 ∷ 0xDF00 ∷ 0x0FFF ∷ 0x9005 ∷ [])
  -- LDR r0, MOV r12, r0, LDR r0 and r1, BLX r12
  pub indirect : Are (icall_items None (Some 5) 7 (4 ∷ 3 ∷ [])) (0x9807 ∷ 0x4684 ∷ 0x9804 ∷ 0x9903 ∷ 0x47E0 ∷ 0x9005 ∷ [])
  pub indirect_across : Are (icall_items (Some 3) None 7 (4 ∷ 3 ∷ [])) (0x9807 ∷ 0x4684 ∷ 0x9804 ∷ 0x9903 ∷ 0xDF00 ∷ 0x0003 ∷ [])
