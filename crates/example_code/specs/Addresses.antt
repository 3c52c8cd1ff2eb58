-- Beyond the program's claim: only laws, proofs and functions inside the tool cite this file.
-- Addresses, elements, fields, loads and stores.
use Rattle.std.specs.Prelude.{◌≡◌, [], ◌∷◌}
use Rattle.machine_thumb.specs.Bytes.{code_bytes}
use Rattle.ir_model.specs.Types.{U8, U16, U32, Pointer}
use Rattle.ir_model.specs.Resolved.{TheGlobal, ThePeriph, TheLocal}
use Rattle.code_model.specs.declared.places.Places.{Places}
use Rattle.code_model.specs.FrameShape.{FrameShape}
use Rattle.code_model.specs.Addresses.{addr_code, faddr_code, elem_code, field_code, load_code, store_code}
use Rattle.example_code.specs.Written.{halves}

abbrev pub shape : FrameShape
shape = record { words = 5; registers = 2; starts = 8 ∷ 16 ∷ [] }

abbrev pub places : Places
places = record { globals = 0x20000C04 ∷ []; windows = 0x4001FC00 ∷ []; entries = 0x08002000 ∷ 0x080FFFFC ∷ []; sites = []; lends = [] }

pub record ComputesAddresses : Type 0 where
  pub global : code_bytes (addr_code shape places 0 (TheGlobal 0)) ≡ halves (0xF640 ∷ 0x4004 ∷ 0xF2C2 ∷ 0x0000 ∷ 0x9000 ∷ [])
  pub window : code_bytes (addr_code shape places 0 (ThePeriph 0)) ≡ halves (0xF64F ∷ 0x4000 ∷ 0xF2C4 ∷ 0x0001 ∷ 0x9000 ∷ [])
  -- ADD r0, SP, #16
  pub local : code_bytes (addr_code shape places 1 (TheLocal 1)) ≡ halves (0xA804 ∷ 0x9001 ∷ [])
  -- 0x080FFFFC with bit 0 set
  pub function : code_bytes (faddr_code places 1 1) ≡ halves (0xF64F ∷ 0x70FD ∷ 0xF6C0 ∷ 0x000F ∷ 0x9001 ∷ [])
  -- LDR r0, r1; r2 = 20; MULS r1, r2; ADDS r0, r0, r1
  pub element : code_bytes (elem_code 2 0 1 20) ≡ halves (0x9800 ∷ 0x9901 ∷ 0xF240 ∷ 0x0214 ∷ 0xF2C0 ∷ 0x0200 ∷ 0x4351 ∷ 0x1840 ∷ 0x9002 ∷ [])
  pub large_element : code_bytes (elem_code 2 0 1 65536) ≡ halves (0x9800 ∷ 0x9901 ∷ 0xF240 ∷ 0x0200 ∷ 0xF2C0 ∷ 0x0201 ∷ 0x4351 ∷ 0x1840 ∷ 0x9002 ∷ [])
  pub too_large : code_bytes (elem_code 2 0 1 65537) ≡ halves (0x9800 ∷ 0x9901 ∷ 0xF240 ∷ 0x0200 ∷ 0xF2C0 ∷ 0x0200 ∷ 0x4351 ∷ 0x1840 ∷ 0x9002 ∷ [])
  -- r1 = 0x0102
  pub field : code_bytes (field_code 1 0 0x0102) ≡ halves (0x9800 ∷ 0xF240 ∷ 0x1102 ∷ 0xF2C0 ∷ 0x0100 ∷ 0x1840 ∷ 0x9001 ∷ [])
  pub load_byte : code_bytes (load_code 1 0 U8) ≡ halves (0x9900 ∷ 0x7808 ∷ 0x9001 ∷ [])
  pub load_half : code_bytes (load_code 1 0 U16) ≡ halves (0x9900 ∷ 0x8808 ∷ 0x9001 ∷ [])
  pub load_word : code_bytes (load_code 1 0 U32) ≡ halves (0x9900 ∷ 0x6808 ∷ 0x9001 ∷ [])
  pub load_pointer : code_bytes (load_code 1 0 (Pointer U8)) ≡ halves (0x9900 ∷ 0x6808 ∷ 0x9001 ∷ [])
  pub store_byte : code_bytes (store_code 0 1 U8) ≡ halves (0x9900 ∷ 0x9801 ∷ 0x7008 ∷ [])
  pub store_half : code_bytes (store_code 0 1 U16) ≡ halves (0x9900 ∷ 0x9801 ∷ 0x8008 ∷ [])
  pub store_word : code_bytes (store_code 0 1 U32) ≡ halves (0x9900 ∷ 0x9801 ∷ 0x6008 ∷ [])
  pub store_pointer : code_bytes (store_code 0 1 (Pointer U8)) ≡ halves (0x9900 ∷ 0x9801 ∷ 0x6008 ∷ [])
