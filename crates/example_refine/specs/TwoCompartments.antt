-- Beyond the program's claim: only laws, proofs and functions inside the tool cite this file.
-- Two compartments of a closed board. `main` lends its local x to `writer`, which stores what the global has in x and in a window;
-- then `main` loads x.
use Rattle.std.specs.Prelude.{ℕ, zero, suc, List, [], ◌∷◌, ◌++◌, true, false, None, replicate}
use Rattle.machine_devices.specs.declared.image.Image.{Image}
use Rattle.ir_model.specs.declared.object.ObjId.TheVariants.{Global, Periph, Local}
use Rattle.ir_model.specs.Types.{U32, Pointer, none, more, nothing}
use Rattle.ir_model.specs.Layout.{one_cell}
use Rattle.ir_model.specs.Resolved.{Program, NumberedFunc, Number, Addr, Load, Store, Call, Ret, TheGlobal, ThePeriph, TheLocal}
use Rattle.ir_model.specs.State.{GlobalObject, PeriphObject, LocalObject}
use Rattle.ir_laws.specs.Sets.{ObjectSets, Register}
use Rattle.plan_model.specs.declared.needs.Needs.{Needs}
use Rattle.plan_model.specs.declared.groups.Groups.{Groups}
use Rattle.plan_model.specs.PointsTo.{IsLeast}
use Rattle.plan_model.specs.Needs.{AreNeeds}
use Rattle.code_model.specs.CompartmentCode.{CodePlaces, compartment_bytes}
use Rattle.code_model.specs.Planned.{code_groups}
use Rattle.monitor_model.specs.declared.tables.Tables.{Tables}
use Rattle.monitor_model.specs.MonitorCode.{MonitorCode}
use Rattle.monitor_model.specs.Setting.{Setting, setting_of}
use Rattle.refine.specs.Builds.{Build}
use Rattle.refine.specs.Linked.{Linked}

-- registers p and v
abbrev pub main : NumberedFunc
main = record {
  params = none;
  outcome = nothing;
  regs = Pointer U32 ∷ U32 ∷ [];
  locals = one_cell 4 U32 ∷ [];
  blocks = record { insts = Addr 0 (TheLocal 0) ∷ Call None 1 (0 ∷ []) ∷ Load 1 0 U32 ∷ []; term = Ret None } ∷ [];
}

-- registers p, q, v and t
abbrev pub writer : NumberedFunc
writer = record {
  params = more (Pointer U32) none;
  outcome = nothing;
  regs = Pointer U32 ∷ Pointer U32 ∷ U32 ∷ Pointer U32 ∷ [];
  locals = [];
  blocks = record {
    insts = Addr 1 (TheGlobal 0) ∷ Load 2 1 U32 ∷ Store 0 2 U32 ∷ Addr 3 (ThePeriph 0) ∷ Store 3 2 U32 ∷ [];
    term = Ret None;
  } ∷ [];
}

-- the global is 7 at first
abbrev pub program : Program
program = record {
  globals = record { constant = false; shape = one_cell 4 U32; init = Number 7 ∷ [] } ∷ [];
  periphs = record { base = 0x40010000; size = 128 } ∷ [];
  funcs = main ∷ writer ∷ [];
  files = 0 ∷ 1 ∷ [];
  main = 0;
}

-- what each may reach: `main` reads its local, `writer` writes it and the window, and reads the global
abbrev pub needs : Needs
needs = record {
  funcs = record { written = []; read = Local 0 0 ∷ []; periphs = []; callees = 1 ∷ [] }
      ∷ record { written = Periph 0 ∷ Local 0 0 ∷ []; read = Global 0 ∷ []; periphs = 0 ∷ []; callees = [] }
      ∷ [];
  sites = record { func = 0; block = 0; inst = 1; targets = 1 ∷ [] } ∷ [];
  lendable = (0, 0) ∷ [];
  closed = true;
}

-- the pointers p of both functions have the local, q has the global and t the window; nothing else has an object
abbrev pub sets : ObjectSets
sets (Register zero zero) (LocalObject zero zero) = true
sets (Register (suc zero) zero) (LocalObject zero zero) = true
sets (Register (suc zero) (suc zero)) (GlobalObject zero) = true
sets (Register (suc zero) (suc (suc (suc zero)))) (PeriphObject zero) = true
sets _ _ = false

pub record AreItsNeeds : Type 0 where
  pub least : IsLeast program sets
  pub by_sets : AreNeeds program sets true needs

abbrev pub groups : Groups
groups = record { of = 0 ∷ 1 ∷ []; count = 2 }

abbrev pub places : CodePlaces
places = record { bases = 0x08000400 ∷ 0x08000440 ∷ []; globals = 0x20000C00 ∷ []; windows = 0x40010000 ∷ [] }

-- the bytes of a compartment's code
abbrev pub bytes_of : (compartment : ℕ) → List ℕ
bytes_of c = compartment_bytes program (code_groups program needs groups) places c

-- 1,016 bytes that stand for the monitor's, the global's word at 0x080003F8, and the code: 48 bytes and 60
abbrev pub flash : List ℕ
flash = replicate 1016 0 ++ (7 ∷ replicate 7 0 ++ (bytes_of 0 ++ (replicate 16 255 ++ bytes_of 1)))

-- the stack has 2,048 bytes from RAM's base on, and the monitor's block stands behind it
abbrev pub image : Image
image = record {
  flash_base = 0x08000000;
  flash = flash;
  ram_base = 0x20000000;
  ram_size = 4096;
  monitor = 0x20000800;
  stack_base = 0x20000000;
  stack_size = 2048;
  regions = 8;
  closed = true;
  windows = record { name = 84 ∷ 73 ∷ 77 ∷ []; base = 0x40010000; size = 128 } ∷ [];
}

-- its tables: `writer` alone has the global, which is read-only, and the window; it may store in the local, which `main` may load
abbrev pub tables : Tables
tables = record {
  base = 0x08000000;
  comps =
      record {
        code = record { rbar = 0x08000412; rasr = 0x0602000B };
        slots =
            record { rbar = 0x14; rasr = 0 } ∷ record { rbar = 0x15; rasr = 0 } ∷ record { rbar = 0x16; rasr = 0 } ∷ record { rbar = 0x17; rasr = 0 } ∷ [];
        mask = 0;
        reads = 1;
      }
      ∷ record {
        code = record { rbar = 0x08000452; rasr = 0x0602000B };
        slots =
            record { rbar = 0x20000C14; rasr = 0x12060009 }
            ∷ record { rbar = 0x40010015; rasr = 0x1301000D }
            ∷ record { rbar = 0x16; rasr = 0 }
            ∷ record { rbar = 0x17; rasr = 0 }
            ∷ [];
        mask = 1;
        reads = 0;
      }
      ∷ [];
  sites = record { ret = 0x08000422; first = 0; count = 1 } ∷ [];
  targets = record { entry = 0x08000441; compartment = 1 } ∷ [];
  lends = 4 ∷ [];
  inits = record { at = 0x20000C00; end = 0x20000C04; from = 0x080003F8 } ∷ [];
  words = 7 ∷ [];
  stack = record { base = 0x20000000; size = 2048 };
  monitor = 0x20000800;
  main = 0x08000401;
  main_comp = 0;
  closed = true;
}

-- the monitor's code, of which only the place of the leave stub is given
abbrev pub code : MonitorCode
code = record { page = λ t. []; stub = λ t. 0x080003F0; main_entry_at = 0; main_compartment_at = 0 }

abbrev pub setting : Setting
setting = setting_of code image tables

abbrev pub build : Build
build = record { setting = setting; program = program; needs = needs; groups = groups; places = places }

abbrev pub IsLinkedBuild : Type 0
IsLinkedBuild = Linked build
