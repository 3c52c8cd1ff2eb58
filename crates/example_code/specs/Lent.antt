-- Beyond the program's claim: only laws, proofs and functions inside the tool cite this file.
-- `main` lends its local x to functions of two other compartments, which pass its address on and store 42 through it.
use Rattle.std.specs.Prelude.{◌≡◌, [], ◌∷◌, Some, None}
use Rattle.ir_model.specs.Types.{U32, Pointer, none, more, nothing}
use Rattle.ir_model.specs.Layout.{one_cell}
use Rattle.ir_model.specs.Resolved.{Program, NumberedFunc, Const, Addr, Load, Store, Call, Ret, ThePeriph, TheLocal}
use Rattle.code_model.specs.FrameShape.{frame_size, frame_shape}
use Rattle.code_model.specs.CompartmentCode.{CodeGroups, CodePlaces, code_sizes, compartment_bytes}
use Rattle.example_code.specs.Written.{halves, func, block, site}

-- local x; registers p, t, v
abbrev pub main : NumberedFunc
main =
    func none nothing (one_cell 4 U32 ∷ []) (Pointer U32 ∷ Pointer U32 ∷ U32 ∷ [])
    (block (Addr 0 (TheLocal 0) ∷ Call None 1 (0 ∷ []) ∷ Load 2 0 U32 ∷ Addr 1 (ThePeriph 0) ∷ Store 1 2 U32 ∷ []) (Ret None) ∷ [])

abbrev pub passes_on : NumberedFunc
passes_on = func (more (Pointer U32) none) nothing [] (Pointer U32 ∷ []) (block (Call None 2 (0 ∷ []) ∷ []) (Ret None) ∷ [])

abbrev pub stores : NumberedFunc
stores = func (more (Pointer U32) none) nothing [] (Pointer U32 ∷ U32 ∷ []) (block (Const 1 42 ∷ Store 0 1 U32 ∷ []) (Ret None) ∷ [])

abbrev pub lending : Program
lending =
    record {
      globals = [];
      periphs = record { base = 0x40010000; size = 1024 } ∷ [];
      funcs = main ∷ passes_on ∷ stores ∷ [];
      files = 0 ∷ 1 ∷ 2 ∷ [];
      main = 0;
    }

abbrev pub groups : CodeGroups
groups =
    record {
      compartments = 0 ∷ 1 ∷ 2 ∷ [];
      sites = (site 0 1 0 ∷ []) ∷ (site 0 0 1 ∷ []) ∷ [] ∷ [];
      lends = (Some 0 ∷ []) ∷ [] ∷ [] ∷ [];
    }

abbrev pub places : CodePlaces
places = record { bases = 0x08002000 ∷ 0x08002080 ∷ 0x080020A0 ∷ []; globals = []; windows = 0x40010000 ∷ [] }

pub record ComputesLent : Type 0 where
  -- three registers, x, and the return address in 20 bytes, rounded up
  pub frame : frame_size main ≡ 24
  pub shape : frame_shape main ≡ record { words = 5; registers = 3; starts = 12 ∷ [] }
  pub sizes : code_sizes lending groups 3 ≡ 68 ∷ 28 ∷ 32 ∷ []
  pub main_code : compartment_bytes lending groups places 0 ≡ halves (
      0xB500 ∷ 0xB085 ∷ 0x2000 ∷ 0x9000 ∷ 0x9001 ∷ 0x9002 ∷ 0x9003 ∷ 0x9004
      -- ADD r0, SP, #12; MOVS r1, #0; SVC #2
      ∷ 0xA803 ∷ 0x2100 ∷ 0xDF02
      -- p = addr x, call across, v = load p
      ∷ 0xA803 ∷ 0x9000
      ∷ 0xF242 ∷ 0x0C81 ∷ 0xF6C0 ∷ 0x0C00 ∷ 0x9800 ∷ 0xDF00 ∷ 0x0000
      ∷ 0x9900 ∷ 0x6808 ∷ 0x9002
      -- t = addr TIM, store t, v, ret with SVC #3
      ∷ 0xF240 ∷ 0x0000 ∷ 0xF2C4 ∷ 0x0001 ∷ 0x9001
      ∷ 0x9901 ∷ 0x9802 ∷ 0x6008
      ∷ 0xDF03 ∷ 0xB005 ∷ 0xBD00 ∷ [])
  pub passes_on_code : compartment_bytes lending groups places 1 ≡ halves (
      0xB500 ∷ 0xB081 ∷ 0x9000 ∷ 0x2000
      ∷ 0xF242 ∷ 0x0CA1 ∷ 0xF6C0 ∷ 0x0C00 ∷ 0x9800 ∷ 0xDF00 ∷ 0x0001
      ∷ 0xB001 ∷ 0xBD00 ∷ 0xBF00 ∷ [])
  pub stores_code : compartment_bytes lending groups places 2 ≡ halves (
      0xB500 ∷ 0xB083 ∷ 0x9000 ∷ 0x2000 ∷ 0x9001 ∷ 0x9002
      ∷ 0xF240 ∷ 0x002A ∷ 0xF2C0 ∷ 0x0000 ∷ 0x9001
      ∷ 0x9900 ∷ 0x9801 ∷ 0x6008
      ∷ 0xB003 ∷ 0xBD00 ∷ [])
