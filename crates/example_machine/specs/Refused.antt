-- Beyond the program's claim: only laws, proofs and functions inside the tool cite this file.
-- Firmwares that are not typed, each with its first fault.
use Rattle.std.specs.Prelude.{◌≡◌, ℕ, List, [], ◌∷◌, Some, None, codes}
use Rattle.ir_model.specs.declared.check.CheckKind.{CheckKind}
use Rattle.ir_model.specs.declared.check.CheckKind.TheVariants.{Unknown, Twice, IllTyped, NoMain, BadWindow, WindowOverlap, BadInit, ObjectTooLarge, FrameTooLarge}
use Rattle.ir_model.specs.declared.check.CheckPlace.{CheckPlace}
use Rattle.ir_model.specs.declared.check.CheckPlace.TheVariants as place
use Rattle.ir_model.specs.declared.firmware.Inst.{Inst}
use Rattle.ir_model.specs.declared.firmware.Inst.TheVariants as inst
use Rattle.ir_model.specs.declared.firmware.Term.TheVariants.{Jump, Ret}
use Rattle.ir_model.specs.declared.firmware.Cell.TheVariants.{Word, Function, Address}
use Rattle.ir_model.specs.declared.firmware.Peripheral.{Peripheral}
use Rattle.ir_model.specs.Types.{U8, U16, U32, Pointer, Array, Named, nothing}
use Rattle.ir_model.specs.Plain.{PlainFirmware}
use Rattle.ir_model.specs.Typing.{fault_of}
use Rattle.example_machine.specs.Written.{binding, struct, periph, global, block, func, file, firmware, only_main}

abbrev pub Fails : PlainFirmware → CheckKind → CheckPlace → Type 0
Fails w k p = fault_of w ≡ Some (record { kind = k; place = p })

-- `main` with one register, a number, and these instructions
abbrev pub with_code : List Inst → PlainFirmware
with_code is = only_main [] [] [] (binding (codes "v") U32 ∷ []) is

abbrev pub at : ℕ → CheckPlace
at k = place.Inst (codes "main") (codes "b0") k

abbrev pub with_periphs : List Peripheral → PlainFirmware
with_periphs ps = firmware [] ps [] []

pub record ComputesRefused : Type 0 where
  pub nothing_at_all : Fails (firmware [] [] [] []) NoMain place.Whole
  pub unknown_callee : Fails (with_code (inst.Call None (codes "g") [] ∷ [])) (Unknown (codes "g")) (at 0)
  -- the names go from left to right, and before the types
  pub unknown_register : Fails (with_code (inst.Const (codes "v") 0 ∷ inst.Elem (codes "v") (codes "x") (codes "y") ∷ [])) (Unknown (codes "x")) (at 1)
  pub number_as_pointer : Fails (with_code (inst.Load (codes "v") (codes "v") ∷ [])) IllTyped (at 0)
  -- a field that is not there is no name that is unknown
  pub no_such_field : Fails (only_main (struct (codes "S") (binding (codes "a") U8 ∷ []) ∷ []) [] [] (binding (codes "p") (Pointer (Named (codes "S"))) ∷ binding (codes "q") (Pointer U8) ∷ [])
      (inst.Field (codes "q") (codes "p") (codes "a") ∷ inst.Field (codes "q") (codes "p") (codes "b") ∷ [])) IllTyped (at 1)
  -- a block's end has the number behind the instructions
  pub unknown_label : Fails (firmware [] [] [] (file (codes "m") (func (codes "main") [] nothing [] (binding (codes "v") U32 ∷ [])
      (block (codes "b0") (inst.Const (codes "v") 0 ∷ []) (Jump (codes "b1")) ∷ []) ∷ []) ∷ [])) (Unknown (codes "b1")) (at 1)
  -- a function may not be named as a global, and this is found before any function is looked into
  pub name_of_a_global : Fails (only_main [] (global (codes "main") U8 [] ∷ []) [] [] (inst.Call None (codes "g") [] ∷ [])) (Twice (codes "main")) (place.Func (codes "main"))
  pub local_and_register : Fails (only_main [] [] (binding (codes "v") U8 ∷ []) (binding (codes "v") U32 ∷ []) []) (Twice (codes "v")) (place.Func (codes "main"))
  -- a struct may point to itself, and holds only earlier ones
  pub holds_itself : Fails (only_main (struct (codes "S") (binding (codes "next") (Pointer (Named (codes "S"))) ∷ binding (codes "all") (Array 2 (Named (codes "S"))) ∷ []) ∷ []) [] [] [] [])
      (Unknown (codes "S")) (place.Struct (codes "S"))
  pub small_register : Fails (only_main [] [] [] (binding (codes "v") U16 ∷ []) []) IllTyped (place.Func (codes "main"))
  pub small_window : Fails (with_periphs (periph (codes "P") 0x5FFFFFE0 32 ∷ periph (codes "Q") 0x40000000 16 ∷ [])) BadWindow (place.Periph (codes "Q"))
  pub odd_window : Fails (with_periphs (periph (codes "P") 0x40000020 64 ∷ [])) BadWindow (place.Periph (codes "P"))
  pub high_window : Fails (with_periphs (periph (codes "P") 0x40000000 65536 ∷ periph (codes "Q") 0x60000000 32 ∷ [])) BadWindow (place.Periph (codes "Q"))
  pub window_in_window : Fails (with_periphs (periph (codes "P") 0x40010000 1024 ∷ periph (codes "Q") 0x40010400 32 ∷ periph (codes "R") 0x400103E0 32 ∷ []))
      WindowOverlap (place.Periph (codes "R"))
  pub wide_byte : Fails (only_main [] (global (codes "g") (Array 2 U8) (Word 255 ∷ Word 256 ∷ []) ∷ []) [] [] []) BadInit (place.Global (codes "g"))
  -- too many cells are found before what they hold
  pub one_cell_too_many : Fails (only_main [] (global (codes "g") U8 (Function (codes "f") ∷ Word 0 ∷ []) ∷ []) [] [] []) BadInit (place.Global (codes "g"))
  pub address_of_nothing : Fails (only_main [] (global (codes "g") (Pointer U8) (Address (codes "h") ∷ []) ∷ []) [] [] []) (Unknown (codes "h")) (place.Global (codes "g"))
  -- 4 bytes of a register, 1,000 of a local and 4 of the return address
  pub too_large_frame : Fails (only_main [] [] (binding (codes "x") (Array 250 U32) ∷ []) (binding (codes "v") U32 ∷ []) []) (FrameTooLarge 1008) (place.Func (codes "main"))
  pub main_with_parameter : Fails (firmware [] [] [] (file (codes "m") (func (codes "main") (binding (codes "v") U32 ∷ []) nothing [] [] (block (codes "b0") [] (Ret None) ∷ []) ∷ []) ∷ []))
      NoMain place.Whole
  pub too_large_object : Fails (only_main [] (global (codes "g") (Array 65536 U8) [] ∷ global (codes "h") (Array 65537 U8) [] ∷ []) [] [] []) ObjectTooLarge (place.Global (codes "h"))
