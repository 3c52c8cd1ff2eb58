-- Beyond the program's claim: only laws, proofs and functions inside the tool cite this file.
-- A control loop: `main` reads a sensor through adc_read and passes it to control, which scales it, lets clamp cut it and coil_set
-- write it. Each function is in a file of its own, but for clamp and coil_set, which share one.
use Rattle.std.specs.Prelude.{◌≡◌, [], ◌∷◌, Some, None, false}
use Rattle.ir_model.specs.declared.firmware.BinOp.TheVariants.{Add, Mul}
use Rattle.ir_model.specs.declared.firmware.CmpOp.TheVariants.{Ult}
use Rattle.ir_model.specs.Types.{PlainType, U32, Pointer, none, more, nothing, gives}
use Rattle.ir_model.specs.Layout.{one_cell}
use Rattle.ir_model.specs.Resolved.{Program, NumberedFunc, Number, Const, Bin, Cmp, Addr, Elem, Load, Store, Call, Jump, Branch, Ret, TheGlobal, ThePeriph}
use Rattle.code_model.specs.CompartmentCode.{CodeGroups, CodePlaces, size_of, code_sizes, entry_of, compartment_bytes}
use Rattle.example_code.specs.Written.{halves, func, block, site}

abbrev pub pointer : PlainType
pointer = Pointer U32

-- registers n, one, p, s
abbrev pub main : NumberedFunc
main =
    func none nothing [] (U32 ∷ U32 ∷ pointer ∷ U32 ∷ [])
    (block (Const 1 1 ∷ Addr 2 (TheGlobal 1) ∷ []) (Jump 1)
    ∷ block (Call (Some 3) 1 [] ∷ Call None 2 (3 ∷ []) ∷ Load 0 2 U32 ∷ Bin Add 0 0 1 ∷ Store 2 0 U32 ∷ []) (Jump 1)
    ∷ [])

-- registers p, v
abbrev pub adc_read : NumberedFunc
adc_read = func none (gives U32) [] (pointer ∷ U32 ∷ []) (block (Addr 0 (ThePeriph 0) ∷ Load 1 0 U32 ∷ []) (Ret (Some 1)) ∷ [])

-- parameter e; registers p, q, g, k
abbrev pub control : NumberedFunc
control =
    func (more U32 none) nothing [] (U32 ∷ pointer ∷ pointer ∷ U32 ∷ U32 ∷ [])
    (block
    (Addr 1 (ThePeriph 1) ∷ Const 4 1 ∷ Store 1 4 U32 ∷ Addr 2 (TheGlobal 0) ∷ Load 3 2 U32 ∷ Bin Mul 3 0 3
    ∷ Call (Some 3) 3 (3 ∷ []) ∷ Call None 4 (3 ∷ []) ∷ [])
    (Ret None)
    ∷ [])

-- parameter v; registers m, c
abbrev pub clamp : NumberedFunc
clamp =
    func (more U32 none) (gives U32) [] (U32 ∷ U32 ∷ U32 ∷ [])
    (block (Const 1 100 ∷ Cmp Ult 2 1 0 ∷ []) (Branch 2 1 2) ∷ block [] (Ret (Some 1)) ∷ block [] (Ret (Some 0)) ∷ [])

-- parameter d; registers p, k
abbrev pub coil_set : NumberedFunc
coil_set =
    func (more U32 none) nothing [] (U32 ∷ pointer ∷ U32 ∷ [])
    (block (Addr 1 (ThePeriph 1) ∷ Const 2 13 ∷ Elem 1 1 2 4 ∷ Store 1 0 U32 ∷ []) (Ret None) ∷ [])

-- peripherals ADC and TIM; globals gain and turns
abbrev pub sensor : Program
sensor =
    record {
      globals =
          record { constant = false; shape = one_cell 4 U32; init = Number 3 ∷ [] }
          ∷ record { constant = false; shape = one_cell 4 U32; init = Number 0 ∷ [] } ∷ [];
      periphs = record { base = 0x40012000; size = 1024 } ∷ record { base = 0x40010000; size = 1024 } ∷ [];
      funcs = main ∷ adc_read ∷ control ∷ clamp ∷ coil_set ∷ [];
      files = 0 ∷ 1 ∷ 2 ∷ 3 ∷ 3 ∷ [];
      main = 0;
    }

-- each file a compartment: all four calls cross
abbrev pub by_file : CodeGroups
by_file =
    record {
      compartments = 0 ∷ 1 ∷ 2 ∷ 3 ∷ 3 ∷ [];
      sites = (site 1 0 0 ∷ site 1 1 1 ∷ []) ∷ [] ∷ (site 0 6 2 ∷ site 0 7 3 ∷ []) ∷ [] ∷ [] ∷ [];
      lends = [];
    }

-- clamp moved to control, which is its one caller
abbrev pub clamp_moved : CodeGroups
clamp_moved =
    record {
      compartments = 0 ∷ 1 ∷ 2 ∷ 2 ∷ 3 ∷ [];
      sites = (site 1 0 0 ∷ site 1 1 1 ∷ []) ∷ [] ∷ (site 0 7 2 ∷ []) ∷ [] ∷ [] ∷ [];
      lends = [];
    }

-- functions of the same peripherals together
abbrev pub by_peripherals : CodeGroups
by_peripherals =
    record {
      compartments = 0 ∷ 1 ∷ 2 ∷ 0 ∷ 2 ∷ [];
      sites = (site 1 0 0 ∷ site 1 1 1 ∷ []) ∷ [] ∷ (site 0 6 2 ∷ []) ∷ [] ∷ [] ∷ [];
      lends = [];
    }

pub record ComputesSizes : Type 0 where
  pub main_size : size_of sensor by_file 0 ≡ 92
  pub adc_read_size : size_of sensor by_file 1 ≡ 34
  pub control_size : size_of sensor by_file 2 ≡ 100
  pub clamp_size : size_of sensor by_file 3 ≡ 64
  pub coil_set_size : size_of sensor by_file 4 ≡ 60
  -- adc_read is filled up by a NOP
  pub files : code_sizes sensor by_file 4 ≡ 92 ∷ 36 ∷ 100 ∷ 124 ∷ []
  -- a call that crosses no border is 8 bytes shorter
  pub moved : code_sizes sensor clamp_moved 4 ≡ 92 ∷ 36 ∷ 156 ∷ 60 ∷ []
  pub peripherals : code_sizes sensor by_peripherals 3 ≡ 156 ∷ 36 ∷ 152 ∷ []

-- where compartments begin under the first two groupings, gain and turns, and ADC and TIM
abbrev pub at_files : CodePlaces
at_files =
    record {
      bases = 0x08002000 ∷ 0x08002180 ∷ 0x08002080 ∷ 0x08002100 ∷ [];
      globals = 0x20000C20 ∷ 0x20000C00 ∷ [];
      windows = 0x40012000 ∷ 0x40010000 ∷ [];
    }

abbrev pub at_moved : CodePlaces
at_moved =
    record {
      bases = 0x08002100 ∷ 0x08002180 ∷ 0x08002000 ∷ 0x080021C0 ∷ [];
      globals = 0x20000C20 ∷ 0x20000C00 ∷ [];
      windows = 0x40012000 ∷ 0x40010000 ∷ [];
    }

pub record ComputesCode : Type 0 where
  pub first_entry : entry_of sensor by_file at_files 3 ≡ 0x08002100
  pub second_entry : entry_of sensor by_file at_files 4 ≡ 0x08002140
  pub main_code : compartment_bytes sensor by_file at_files 0 ≡ halves (
      0xB500 ∷ 0xB085 ∷ 0x2000 ∷ 0x9000 ∷ 0x9001 ∷ 0x9002 ∷ 0x9003 ∷ 0x9004
      -- one = 1, p = addr turns, jump b1
      ∷ 0xF240 ∷ 0x0001 ∷ 0xF2C0 ∷ 0x0000 ∷ 0x9001
      ∷ 0xF640 ∷ 0x4000 ∷ 0xF2C2 ∷ 0x0000 ∷ 0x9002
      ∷ 0xF000 ∷ 0xB800
      -- s = call adc_read(), call control(s)
      ∷ 0xF242 ∷ 0x1C81 ∷ 0xF6C0 ∷ 0x0C00 ∷ 0xDF00 ∷ 0x0000 ∷ 0x9003
      ∷ 0xF242 ∷ 0x0C81 ∷ 0xF6C0 ∷ 0x0C00 ∷ 0x9803 ∷ 0xDF00 ∷ 0x0001
      -- n = load p, n = add n, one, store p, n, jump b1
      ∷ 0x9902 ∷ 0x6808 ∷ 0x9000
      ∷ 0x9800 ∷ 0x9901 ∷ 0x1840 ∷ 0x9000
      ∷ 0x9902 ∷ 0x9800 ∷ 0x6008
      ∷ 0xF7FF ∷ 0xBFE6 ∷ [])
  pub adc_read_code : compartment_bytes sensor by_file at_files 1 ≡ halves (
      0xB500 ∷ 0xB083 ∷ 0x2000 ∷ 0x9000 ∷ 0x9001 ∷ 0x9002
      -- p = addr ADC, v = load p, ret v, NOP
      ∷ 0xF242 ∷ 0x0000 ∷ 0xF2C4 ∷ 0x0001 ∷ 0x9000
      ∷ 0x9900 ∷ 0x6808 ∷ 0x9001
      ∷ 0x9801 ∷ 0xB003 ∷ 0xBD00
      ∷ 0xBF00 ∷ [])
  pub last_code : compartment_bytes sensor by_file at_files 3 ≡ halves (
      -- clamp: m = 100, c = ult m, v, branch c b1 b2, ret m, ret v
      0xB500 ∷ 0xB083 ∷ 0x9000 ∷ 0x2000 ∷ 0x9001 ∷ 0x9002
      ∷ 0xF240 ∷ 0x0064 ∷ 0xF2C0 ∷ 0x0000 ∷ 0x9001
      ∷ 0x9801 ∷ 0x9900 ∷ 0x4288 ∷ 0xD301 ∷ 0x2000 ∷ 0xE000 ∷ 0x2001 ∷ 0x9002
      ∷ 0x9802 ∷ 0x2800 ∷ 0xD001 ∷ 0xF000 ∷ 0xB802 ∷ 0xF000 ∷ 0xB803
      ∷ 0x9801 ∷ 0xB003 ∷ 0xBD00
      ∷ 0x9800 ∷ 0xB003 ∷ 0xBD00
      -- coil_set: p = addr TIM, k = 13, p = elem p, k, store p, d, ret
      ∷ 0xB500 ∷ 0xB083 ∷ 0x9000 ∷ 0x2000 ∷ 0x9001 ∷ 0x9002
      ∷ 0xF240 ∷ 0x0000 ∷ 0xF2C4 ∷ 0x0001 ∷ 0x9001
      ∷ 0xF240 ∷ 0x000D ∷ 0xF2C0 ∷ 0x0000 ∷ 0x9002
      ∷ 0x9801 ∷ 0x9902 ∷ 0xF240 ∷ 0x0204 ∷ 0xF2C0 ∷ 0x0200 ∷ 0x4351 ∷ 0x1840 ∷ 0x9001
      ∷ 0x9901 ∷ 0x9800 ∷ 0x6008
      ∷ 0xB003 ∷ 0xBD00 ∷ [])
  pub moved_code : compartment_bytes sensor clamp_moved at_moved 2 ≡ halves (
      -- control: p = addr TIM, k = 1, store p, k
      0xB500 ∷ 0xB085 ∷ 0x9000 ∷ 0x2000 ∷ 0x9001 ∷ 0x9002 ∷ 0x9003 ∷ 0x9004
      ∷ 0xF240 ∷ 0x0000 ∷ 0xF2C4 ∷ 0x0001 ∷ 0x9001
      ∷ 0xF240 ∷ 0x0001 ∷ 0xF2C0 ∷ 0x0000 ∷ 0x9004
      ∷ 0x9901 ∷ 0x9804 ∷ 0x6008
      -- q = addr gain, g = load q, g = mul e, g
      ∷ 0xF640 ∷ 0x4020 ∷ 0xF2C2 ∷ 0x0000 ∷ 0x9002
      ∷ 0x9902 ∷ 0x6808 ∷ 0x9003
      ∷ 0x9800 ∷ 0x9903 ∷ 0x4348 ∷ 0x9003
      -- g = call clamp(g) by BL, call coil_set(g) across, ret
      ∷ 0x9803 ∷ 0xF000 ∷ 0xF80A ∷ 0x9003
      ∷ 0xF242 ∷ 0x1CC1 ∷ 0xF6C0 ∷ 0x0C00 ∷ 0x9803 ∷ 0xDF00 ∷ 0x0002
      ∷ 0xB005 ∷ 0xBD00
      -- clamp
      ∷ 0xB500 ∷ 0xB083 ∷ 0x9000 ∷ 0x2000 ∷ 0x9001 ∷ 0x9002
      ∷ 0xF240 ∷ 0x0064 ∷ 0xF2C0 ∷ 0x0000 ∷ 0x9001
      ∷ 0x9801 ∷ 0x9900 ∷ 0x4288 ∷ 0xD301 ∷ 0x2000 ∷ 0xE000 ∷ 0x2001 ∷ 0x9002
      ∷ 0x9802 ∷ 0x2800 ∷ 0xD001 ∷ 0xF000 ∷ 0xB802 ∷ 0xF000 ∷ 0xB803
      ∷ 0x9801 ∷ 0xB003 ∷ 0xBD00
      ∷ 0x9800 ∷ 0xB003 ∷ 0xBD00 ∷ [])
