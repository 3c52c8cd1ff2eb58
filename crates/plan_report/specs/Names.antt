-- How a listing tells names, addresses and blocks.
use Rattle.std.specs.Prelude.{ℕ, List, [], ◌++◌, map, flat_map, codes, get_or, Option, Some, None}
use Rattle.std.specs.Borrow.{Bor}
use Rattle.std.specs.Fmt.{decimal}
use Rattle.machine_lines.specs.Lines.{hexadecimal}
use Rattle.ir_model.specs.declared.firmware.Peripheral.{Peripheral}
use Rattle.ir_model.specs.declared.firmware.Block.{Block}
use Rattle.ir_model.specs.declared.firmware.Func.{Func}
use Rattle.ir_model.specs.Plain.{PlainFirmware, PlainFile, PlainGlobal, PlainFunc, names_of, regs_of, func_of}

-- the names of things by their numbers; of what is not there, no byte
abbrev pub global_name : PlainFirmware → (global : ℕ) → List ℕ
global_name w x = get_or (map (λ (g : PlainGlobal). g.name) w.globals) x []

abbrev pub file_name : PlainFirmware → (file : ℕ) → List ℕ
file_name w k = get_or (map (λ (d : PlainFile). d.name) w.files) k []

abbrev pub periph_name : PlainFirmware → (periph : ℕ) → List ℕ
periph_name w q = get_or (map (λ (d : Peripheral). d.name) w.periphs) q []

-- of functions by their names, those of their locals and of their registers, and the labels of their blocks
pub record FuncNames : Type 0 where
  pub name : List ℕ
  pub locals : List (List ℕ)
  pub labels : List (List ℕ)
  pub registers : List (List ℕ)

abbrev pub no_func_names : FuncNames
no_func_names = record { name = []; locals = []; labels = []; registers = [] }

abbrev pub names_in : PlainFunc → FuncNames
names_in f = record { name = f.name; locals = names_of f.locals; labels = map (λ (b : Block). b.label) f.blocks; registers = names_of (regs_of f) }

-- of the function of a number, counted over these files in order
abbrev pub func_names_in : List PlainFile → (func : ℕ) → FuncNames
func_names_in fs f = get_or (map names_in (flat_map (λ (d : PlainFile). d.funcs) fs)) f no_func_names

abbrev pub func_names : PlainFirmware → (func : ℕ) → FuncNames
func_names w f = func_names_in w.files f

abbrev pub func_name : PlainFirmware → (func : ℕ) → List ℕ
func_name w f = (func_names w f).name

abbrev pub local_name : PlainFirmware → (func local : ℕ) → List ℕ
local_name w f l = get_or (func_names w f).locals l []

abbrev pub label_of : PlainFirmware → (func block : ℕ) → List ℕ
label_of w f b = get_or (func_names w f).labels b []

abbrev pub register_name : PlainFirmware → (func register : ℕ) → List ℕ
register_name w f r = get_or (func_names w f).registers r []

-- of a function that was found
abbrev pub names_of_found : Option (Bor Func) → FuncNames
names_of_found None = no_func_names
names_of_found (Some f) = names_in (func_of f.now)

-- names, each behind a space
abbrev pub spaced : List (List ℕ) → List ℕ
spaced ns = flat_map (λ n. codes " " ++ n) ns

-- a range of addresses: its base in eight digits, and its size
unfoldable pub range_text : (base size : ℕ) → List ℕ
range_text base size = codes " 0x" ++ hexadecimal 8 base ++ codes " " ++ decimal size
