-- A firmware as plain data. Names are lists of bytes; what holds no type is as the code has it.
use Rattle.std.specs.Prelude.{ℕ, List, ◌++◌, map, flat_map, Bool}
use Rattle.std.specs.Borrow.{Bor}
use Rattle.ir_model.specs.declared.firmware.Binding.{Binding}
use Rattle.ir_model.specs.declared.firmware.StructDecl.{StructDecl}
use Rattle.ir_model.specs.declared.firmware.Peripheral.{Peripheral}
use Rattle.ir_model.specs.declared.firmware.Global.{Global}
use Rattle.ir_model.specs.declared.firmware.Cell.{Cell}
use Rattle.ir_model.specs.declared.firmware.Block.{Block}
use Rattle.ir_model.specs.declared.firmware.Func.{Func}
use Rattle.ir_model.specs.declared.firmware.FileDecl.{FileDecl}
use Rattle.ir_model.specs.declared.firmware.Firmware.{Firmware}
use Rattle.ir_model.specs.Types.{PlainType, PlainResult, type_of, result_of}

pub record PlainBinding : Type 0 where
  pub name : List ℕ
  pub ty : PlainType

pub record PlainStruct : Type 0 where
  pub name : List ℕ
  pub fields : List PlainBinding

pub record PlainGlobal : Type 0 where
  pub name : List ℕ
  pub constant : Bool
  pub ty : PlainType
  pub init : List Cell

pub record PlainFunc : Type 0 where
  pub name : List ℕ
  pub params : List PlainBinding
  pub outcome : PlainResult
  pub locals : List PlainBinding
  pub regs : List PlainBinding
  pub blocks : List Block

pub record PlainFile : Type 0 where
  pub name : List ℕ
  pub funcs : List PlainFunc

pub record PlainFirmware : Type 0 where
  pub structs : List PlainStruct
  pub periphs : List Peripheral
  pub globals : List PlainGlobal
  pub files : List PlainFile

abbrev pub binding_of : Binding → PlainBinding
binding_of s = record { name = s.name; ty = type_of s.ty }

abbrev pub struct_of : StructDecl → PlainStruct
struct_of s = record { name = s.name; fields = map binding_of s.fields }

abbrev pub global_of : Global → PlainGlobal
global_of g = record { name = g.name; constant = g.constant; ty = type_of g.ty; init = g.init }

abbrev pub func_of : Func → PlainFunc
func_of f =
    record {
      name = f.name;
      params = map binding_of f.params;
      outcome = result_of f.«result»;
      locals = map binding_of f.locals;
      regs = map binding_of f.regs;
      blocks = f.blocks;
    }

abbrev pub file_of : FileDecl → PlainFile
file_of f = record { name = f.name; funcs = map func_of f.funcs }

abbrev pub firmware_of : Firmware → PlainFirmware
firmware_of w =
    record {
      structs = map struct_of w.structs;
      periphs = w.periphs;
      globals = map global_of w.globals;
      files = map file_of w.files;
    }

abbrev pub names_of : List PlainBinding → List (List ℕ)
names_of ss = map (λ (s : PlainBinding). s.name) ss

abbrev pub types_of : List PlainBinding → List PlainType
types_of ss = map (λ (s : PlainBinding). s.ty) ss

-- the names of functions
abbrev pub func_names : List PlainFunc → List (List ℕ)
func_names fs = map (λ (f : PlainFunc). f.name) fs

-- the functions of all files in order, by which they have their numbers
abbrev pub funcs_of : PlainFirmware → List PlainFunc
funcs_of w = flat_map (λ (f : PlainFile). f.funcs) w.files

-- functions that are lent, as plain data
abbrev pub lent_funcs : List (Bor Func) → List PlainFunc
lent_funcs fs = map (λ (f : Bor Func). func_of f.now) fs

-- the registers of a function, its parameters first
abbrev pub regs_of : PlainFunc → List PlainBinding
regs_of f = f.params ++ f.regs
