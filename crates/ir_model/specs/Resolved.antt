-- A firmware with numbers for its names: registers, locals, blocks, functions, globals and peripherals by their place in
-- order of declaration. Types stay named. What is not there has a default, so that each look-up has an answer.
use Rattle.std.specs.Prelude.{ℕ, zero, suc, List, [], ◌∷◌, Bool, false, Option}
use Rattle.std.proofs.Math.ListN.{get_or}
use Rattle.ir_model.specs.declared.firmware.BinOp.{BinOp}
use Rattle.ir_model.specs.declared.firmware.CmpOp.{CmpOp}
use Rattle.ir_model.specs.Types.{PlainType, U32, PlainTypes, none, PlainResult, nothing}
use Rattle.ir_model.specs.Layout.{CellPlace, Shape, empty}

-- an object that can be pointed into: a peripheral, a global, or a local of a function in the frame of one number
pub data Instance : Type 0 where
  OfGlobal : (global : ℕ) → Instance
  OfPeriph : (periph : ℕ) → Instance
  OfLocal : (func frame local : ℕ) → Instance

pub data Value : Type 0 where
  Number : (n : ℕ) → Value
  Code : (func : ℕ) → Value
  Null : Value
  At : (instance : Instance) (offset : ℕ) → Value

-- what `addr` names
pub data Named : Type 0 where
  TheGlobal : (global : ℕ) → Named
  ThePeriph : (periph : ℕ) → Named
  TheLocal : (local : ℕ) → Named

-- `size` is that of an element, `offset` that of a field, `ty` the type that is pointed to
pub data NumberedInst : Type 0 where
  Const : (to value : ℕ) → NumberedInst
  Move : (to from : ℕ) → NumberedInst
  Bin : (op : BinOp) (to a b : ℕ) → NumberedInst
  Cmp : (op : CmpOp) (to a b : ℕ) → NumberedInst
  Addr : (to : ℕ) (of : Named) → NumberedInst
  FAddr : (to func : ℕ) → NumberedInst
  Elem : (to base index size : ℕ) → NumberedInst
  Field : (to base offset : ℕ) → NumberedInst
  Load : (to from : ℕ) (ty : PlainType) → NumberedInst
  Store : (to from : ℕ) (ty : PlainType) → NumberedInst
  Call : (to : Option ℕ) (func : ℕ) (args : List ℕ) → NumberedInst
  ICall : (to : Option ℕ) (func : ℕ) (args : List ℕ) → NumberedInst

pub data NumberedTerm : Type 0 where
  Jump : (block : ℕ) → NumberedTerm
  Branch : (on yes no : ℕ) → NumberedTerm
  Ret : (value : Option ℕ) → NumberedTerm

pub record NumberedBlock : Type 0 where
  pub insts : List NumberedInst
  pub term : NumberedTerm

-- a global: what it is made of, and what its cells hold at first
pub record NumberedGlobal : Type 0 where
  pub constant : Bool
  pub shape : Shape
  pub init : List Value

-- a peripheral's window
pub record NumberedWindow : Type 0 where
  pub base : ℕ
  pub size : ℕ

pub record NumberedFunc : Type 0 where
  pub params : PlainTypes
  pub outcome : PlainResult
  pub regs : List PlainType
  pub locals : List Shape
  pub blocks : List NumberedBlock

pub record Program : Type 0 where
  pub globals : List NumberedGlobal
  pub periphs : List NumberedWindow
  pub funcs : List NumberedFunc
  -- the number of each function's file
  pub files : List ℕ
  pub main : ℕ

abbrev pub no_func : NumberedFunc
no_func = record { params = none; outcome = nothing; regs = []; locals = []; blocks = [] }

abbrev pub no_block : NumberedBlock
no_block = record { insts = []; term = Jump 0 }

abbrev pub no_global : NumberedGlobal
no_global = record { constant = false; shape = empty; init = [] }

abbrev pub no_window : NumberedWindow
no_window = record { base = 0; size = 0 }

abbrev pub func_at : Program → ℕ → NumberedFunc
func_at p f = get_or p.funcs f no_func

abbrev pub register_type : Program → (func register : ℕ) → PlainType
register_type p f r = get_or (func_at p f).regs r U32

abbrev pub block_at : Program → (func block : ℕ) → NumberedBlock
block_at p f b = get_or (func_at p f).blocks b no_block

abbrev pub global_at : Program → ℕ → NumberedGlobal
global_at p g = get_or p.globals g no_global

abbrev pub window_at : Program → ℕ → NumberedWindow
window_at p q = get_or p.periphs q no_window

abbrev pub local_at : Program → (func local : ℕ) → Shape
local_at p f l = get_or (func_at p f).locals l empty

abbrev pub cells_of_global : Program → ℕ → List CellPlace
cells_of_global p g = (global_at p g).shape.cells

abbrev pub cells_of_local : Program → (func local : ℕ) → List CellPlace
cells_of_local p f l = (local_at p f l).cells

abbrev pub file_of : Program → (func : ℕ) → ℕ
file_of p f = get_or p.files f 0

-- what stands at a place: an instruction, or the block's end
pub data Here : Type 0 where
  Does : NumberedInst → Here
  Ends : NumberedTerm → Here

abbrev pub here_in : List NumberedInst → NumberedTerm → ℕ → Here
here_in [] t k = Ends t
here_in (i ∷ is) t zero = Does i
here_in (i ∷ is) t (suc k) = here_in is t k

abbrev pub here : Program → (func block place : ℕ) → Here
here p f b k = here_in (block_at p f b).insts (block_at p f b).term k
