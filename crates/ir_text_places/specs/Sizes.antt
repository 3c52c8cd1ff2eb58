-- Beyond the program's claim: only laws, proofs and functions inside the tool cite this file.
-- How many tokens the parts of a firmware have, as the code adds them up.
use Rattle.std.specs.Prelude.{ℕ, zero, suc, ◌+◌, ◌*◌, ◌-◌, List, [], ◌∷◌, length, take, drop, Bool, true, false, Option, Some, None, nat_lt, if◌then◌else◌, sum_by}
use Rattle.ir_model.specs.declared.firmware.Inst.{Inst}
use Rattle.ir_model.specs.declared.firmware.Inst.TheVariants as inst
use Rattle.ir_model.specs.declared.firmware.Term.{Term}
use Rattle.ir_model.specs.declared.firmware.Term.TheVariants as term
use Rattle.ir_model.specs.declared.firmware.Block.{Block}
use Rattle.ir_model.specs.declared.firmware.Cell.{Cell}
use Rattle.ir_model.specs.declared.firmware.Cell.TheVariants.{Word, Function, Address}
use Rattle.ir_model.specs.Types.{PlainType, U8, U16, U32, Pointer, Array, Named, Callee, PlainTypes, none, more, PlainResult, nothing, gives}
use Rattle.ir_model.specs.Plain.{PlainBinding, PlainStruct, PlainGlobal, PlainFunc, PlainFile, PlainFirmware, funcs_of}
use Rattle.ir_text_places.specs.declared.item.Item.{Item}
use Rattle.ir_text_places.specs.declared.item.Item.TheVariants as item

-- a comma or the closing mark stands behind each part of a row; the closing mark stands without parts too
abbrev pub closed : ℕ → ℕ
closed zero = 1
closed (suc n) = suc n

abbrev mutual
  pub type_size : PlainType → ℕ
  type_size U8 = 1
  type_size U16 = 1
  type_size U32 = 1
  type_size (Pointer t) = 1 + type_size t
  type_size (Array n t) = 3 + type_size t
  type_size (Named w) = 1
  type_size (Callee a r) = 2 + (closed (row_size a) + result_size r)

  -- with what stands behind each
  pub row_size : PlainTypes → ℕ
  row_size none = 0
  row_size (more t ts) = suc (type_size t + row_size ts)

  pub result_size : PlainResult → ℕ
  result_size nothing = 0
  result_size (gives t) = 1 + type_size t

abbrev pub binding_size : PlainBinding → ℕ
binding_size s = 2 + type_size s.ty

abbrev pub bindings_size : List PlainBinding → ℕ
bindings_size ss = sum_by (λ (s : PlainBinding). suc (binding_size s)) ss

abbrev pub struct_size : PlainStruct → ℕ
struct_size s = 3 + closed (bindings_size s.fields)

abbrev pub cell_size : Cell → ℕ
cell_size (Word n) = 1
cell_size (Function f) = 2
cell_size (Address x) = 2

abbrev pub cells_size : List Cell → ℕ
cells_size cs = sum_by (λ (c : Cell). suc (cell_size c)) cs

abbrev pub init_size : List Cell → ℕ
init_size [] = 0
init_size (c ∷ cs) = 2 + cells_size (c ∷ cs)

abbrev pub start_size : (constant : Bool) → ℕ
start_size true = 2
start_size false = 1

abbrev pub global_size : PlainGlobal → ℕ
global_size g = start_size g.constant + (2 + type_size g.ty + init_size g.init)

abbrev pub kept_size : Option (List ℕ) → ℕ
kept_size None = 1
kept_size (Some to) = 3

abbrev pub call_size : Option (List ℕ) → List (List ℕ) → ℕ
call_size to args = kept_size to + (2 + closed (2 * length args))

abbrev pub inst_size : Inst → ℕ
inst_size (inst.Const to v) = 3
inst_size (inst.Move to from) = 3
inst_size (inst.Bin op to a b) = 6
inst_size (inst.Cmp op to a b) = 6
inst_size (inst.Addr to of) = 4
inst_size (inst.FAddr to of) = 4
inst_size (inst.Elem to base index) = 6
inst_size (inst.Field to base field) = 6
inst_size (inst.Load to from) = 4
inst_size (inst.Store to from) = 4
inst_size (inst.Call to f args) = call_size to args
inst_size (inst.ICall to f args) = call_size to args

abbrev pub insts_size : List Inst → ℕ
insts_size is = sum_by inst_size is

abbrev pub term_size : Term → ℕ
term_size (term.Jump b) = 2
term_size (term.Branch on a b) = 4
term_size (term.Ret None) = 1
term_size (term.Ret (Some r)) = 2

abbrev pub block_size : Block → ℕ
block_size b = 2 + (insts_size b.insts + term_size b.term)

-- a local or a register, with the word before it and one more
abbrev pub lines_size : List PlainBinding → ℕ
lines_size ss = bindings_size ss

abbrev pub head_size : PlainFunc → ℕ
head_size f = 4 + (closed (bindings_size f.params) + result_size f.outcome)

-- a function before its blocks
abbrev pub front_size : PlainFunc → ℕ
front_size f = head_size f + (lines_size f.locals + lines_size f.regs)

abbrev pub func_size : PlainFunc → ℕ
func_size f = front_size f + (sum_by block_size f.blocks + 1)

abbrev pub funcs_size : List PlainFunc → ℕ
funcs_size fs = sum_by func_size fs

abbrev pub file_size : PlainFile → ℕ
file_size f = 4 + funcs_size f.funcs

abbrev pub func_start : (number : ℕ) → List PlainFile → ℕ
func_start k [] = 0
func_start k (f ∷ fs) = if nat_lt k (length f.funcs) then 3 + funcs_size (take k f.funcs) else file_size f + func_start (k - length f.funcs) fs

abbrev pub place_start : (number : ℕ) → List Block → ℕ
place_start i [] = 0
place_start i (b ∷ bs) = 2 + insts_size (take i b.insts)

abbrev pub code_start : (block place : ℕ) → List PlainFunc → ℕ
code_start b i [] = 0
code_start b i (f ∷ fs) = front_size f + (sum_by block_size (take b f.blocks) + place_start i (drop b f.blocks))

abbrev pub declarations_size : PlainFirmware → ℕ
declarations_size w = sum_by struct_size w.structs + (4 * length w.periphs + sum_by global_size w.globals)

abbrev pub size_before : PlainFirmware → Item → ℕ
size_before w item.Whole = 0
size_before w (item.Struct k) = sum_by struct_size (take k w.structs)
size_before w (item.Periph k) = sum_by struct_size w.structs + 4 * length (take k w.periphs)
size_before w (item.Global k) = sum_by struct_size w.structs + (4 * length w.periphs + sum_by global_size (take k w.globals))
size_before w (item.File k) = declarations_size w + sum_by file_size (take k w.files)
size_before w (item.Func k) = declarations_size w + func_start k w.files
size_before w (item.Code k b i) = declarations_size w + (func_start k w.files + code_start b i (drop k (funcs_of w)))
