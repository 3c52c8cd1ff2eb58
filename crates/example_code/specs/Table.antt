-- Beyond the program's claim: only laws, proofs and functions inside the tool cite this file.
-- `main` calls what a table of three functions has at the place that a sensor gives. One of the three is in its own compartment, so
-- every call there goes across.
use Rattle.std.specs.Prelude.{◌≡◌, [], ◌∷◌, Some, false}
use Rattle.ir_model.specs.declared.firmware.BinOp.TheVariants.{Add, Mul}
use Rattle.ir_model.specs.Types.{PlainType, U32, Pointer, Array, Callee, none, more, nothing, gives}
use Rattle.ir_model.specs.Layout.{array_of, one_cell}
use Rattle.ir_model.specs.Resolved.{Program, NumberedFunc, Code, Null, Const, Bin, Addr, Elem, Load, Store, ICall, Jump, Ret, TheGlobal, ThePeriph}
use Rattle.code_model.specs.CompartmentCode.{CodeGroups, CodePlaces, code_sizes, entry_of, compartment_bytes}
use Rattle.example_code.specs.Written.{halves, func, block, site}

abbrev pub callee : PlainType
callee = Callee (more U32 none) (gives U32)

-- registers a, t, i, v, r, q, e, h
abbrev pub main : NumberedFunc
main =
    func none nothing [] (Pointer U32 ∷ Pointer U32 ∷ U32 ∷ U32 ∷ U32 ∷ Pointer (Array 4 callee) ∷ Pointer callee ∷ callee ∷ [])
    (block (Addr 0 (ThePeriph 0) ∷ Addr 1 (ThePeriph 1) ∷ Const 3 7 ∷ Addr 5 (TheGlobal 0) ∷ []) (Jump 1)
    ∷ block (Load 2 0 U32 ∷ Elem 6 5 2 4 ∷ Load 7 6 callee ∷ ICall (Some 4) 7 (3 ∷ []) ∷ Store 1 4 U32 ∷ []) (Jump 1)
    ∷ [])

abbrev pub same_value : NumberedFunc
same_value = func (more U32 none) (gives U32) [] (U32 ∷ []) (block [] (Ret (Some 0)) ∷ [])

abbrev pub doubled : NumberedFunc
doubled = func (more U32 none) (gives U32) [] (U32 ∷ []) (block (Bin Add 0 0 0 ∷ []) (Ret (Some 0)) ∷ [])

abbrev pub squared : NumberedFunc
squared = func (more U32 none) (gives U32) [] (U32 ∷ []) (block (Bin Mul 0 0 0 ∷ []) (Ret (Some 0)) ∷ [])

abbrev pub table : Program
table =
    record {
      globals = record { constant = false; shape = array_of 4 (one_cell 4 callee); init = Code 1 ∷ Code 2 ∷ Code 3 ∷ Null ∷ [] } ∷ [];
      periphs = record { base = 0x40012000; size = 1024 } ∷ record { base = 0x40010000; size = 1024 } ∷ [];
      funcs = main ∷ same_value ∷ doubled ∷ squared ∷ [];
      files = 0 ∷ 0 ∷ 1 ∷ 2 ∷ [];
      main = 0;
    }

abbrev pub groups : CodeGroups
groups = record { compartments = 0 ∷ 0 ∷ 1 ∷ 2 ∷ []; sites = (site 1 3 0 ∷ []) ∷ []; lends = [] }

abbrev pub places : CodePlaces
places =
    record {
      bases = 0x08002000 ∷ 0x08002100 ∷ 0x08002120 ∷ [];
      globals = 0x20000C00 ∷ [];
      windows = 0x40012000 ∷ 0x40010000 ∷ [];
    }

pub record ComputesTable : Type 0 where
  pub sizes : code_sizes table groups 3 ≡ 136 ∷ 24 ∷ 24 ∷ []
  pub second_entry : entry_of table groups places 1 ≡ 0x08002078
  pub first_code : compartment_bytes table groups places 0 ≡ halves (
      0xB500 ∷ 0xB089 ∷ 0x2000 ∷ 0x9000 ∷ 0x9001 ∷ 0x9002 ∷ 0x9003 ∷ 0x9004 ∷ 0x9005 ∷ 0x9006 ∷ 0x9007 ∷ 0x9008
      -- a = addr ADC, t = addr TIM, v = 7, q = addr tab, jump b1
      ∷ 0xF242 ∷ 0x0000 ∷ 0xF2C4 ∷ 0x0001 ∷ 0x9000
      ∷ 0xF240 ∷ 0x0000 ∷ 0xF2C4 ∷ 0x0001 ∷ 0x9001
      ∷ 0xF240 ∷ 0x0007 ∷ 0xF2C0 ∷ 0x0000 ∷ 0x9003
      ∷ 0xF640 ∷ 0x4000 ∷ 0xF2C2 ∷ 0x0000 ∷ 0x9005
      ∷ 0xF000 ∷ 0xB800
      -- i = load a, e = elem q, i, h = load e
      ∷ 0x9900 ∷ 0x6808 ∷ 0x9002
      ∷ 0x9805 ∷ 0x9902 ∷ 0xF240 ∷ 0x0204 ∷ 0xF2C0 ∷ 0x0200 ∷ 0x4351 ∷ 0x1840 ∷ 0x9006
      ∷ 0x9906 ∷ 0x6808 ∷ 0x9007
      -- r = icall h(v), store t, r, jump b1
      ∷ 0x9807 ∷ 0x4684 ∷ 0x9803 ∷ 0xDF00 ∷ 0x0000 ∷ 0x9004
      ∷ 0x9901 ∷ 0x9804 ∷ 0x6008
      ∷ 0xF7FF ∷ 0xBFE6
      -- the function that gives its argument back, and a NOP
      ∷ 0xB500 ∷ 0xB081 ∷ 0x9000 ∷ 0x2000 ∷ 0x9800 ∷ 0xB001 ∷ 0xBD00 ∷ 0xBF00 ∷ [])
