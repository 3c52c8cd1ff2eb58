-- Beyond the program's claim: only laws, proofs and functions inside the tool cite this file.
-- The limits of a program: how many items it has, how large its objects are, and where its windows lie.
use Rattle.std.specs.Prelude.{◌≡◌, ◌≢◌, ℕ, ◌+◌, ◌<◌, ◌≤◌, List, [], ◌∷◌, length, Some}
use Rattle.base_ranges.specs.Ranges.{AreApart, IsWindowRange}
use Rattle.ir_model.specs.Types.{PlainType}
use Rattle.ir_model.specs.Plain.{PlainBinding, PlainGlobal, PlainFunc, PlainFirmware, funcs_of}
use Rattle.ir_model.specs.Layout.{known, shape}
use Rattle.ir_model.specs.Resolved.{Program, NumberedBlock, NumberedFunc, func_at, global_at, local_at, window_at, file_of}
use Rattle.ir_model.specs.Resolve.{resolve}
use Rattle.ir_model.specs.Extents.{layout_of}
use Rattle.ir_model.specs.Canonical.{IsWithinLimits}
use Rattle.base_laws.specs.Lists.{Each}
use Rattle.ir_model.specs.TextLimits.{struct_limit, periph_limit, global_limit, file_limit, function_limit, parameter_limit, register_limit, local_limit, block_limit, instruction_limit}
use Rattle.ir_model.specs.Typing.{object_limit, IsTyped}
use Rattle.ir_model.specs.Signatures.{row_length}

abbrev pub inst_count : List NumberedBlock → ℕ
inst_count [] = 0
inst_count (b ∷ bs) = length b.insts + inst_count bs

-- a function's parameters, registers with parameters, locals, blocks, and instructions in all blocks
pub record IsFew (g : NumberedFunc) : Type 0 where
  pub params : row_length g.params ≤ parameter_limit
  pub registers : length g.regs ≤ register_limit
  pub locals : length g.locals ≤ local_limit
  pub blocks : length g.blocks ≤ block_limit
  pub insts : inst_count g.blocks ≤ instruction_limit

-- the counts of a program; files are numbered from 0, and each function is of one
pub record AreFew (p : Program) : Type 0 where
  pub periphs : length p.periphs ≤ periph_limit
  pub globals : length p.globals ≤ global_limit
  pub funcs : length p.funcs ≤ function_limit
  pub files : length p.files ≡ length p.funcs
  pub each : (f : ℕ) → IsFew (func_at p f)
  pub each_file : (f : ℕ) → file_of p f < file_limit

-- no global and no local is larger than 65,536 bytes
pub record HasSmallObjects (p : Program) : Type 0 where
  pub globals : (g : ℕ) → (global_at p g).shape.size ≤ object_limit
  pub locals : (f l : ℕ) → (local_at p f l).size ≤ object_limit

-- the windows lie where a window may, apart from one another
pub record HasWindows (p : Program) : Type 0 where
  pub each : (q : ℕ) → q < length p.periphs → IsWindowRange (window_at p q).base (window_at p q).size
  pub apart : (q r : ℕ) → q < length p.periphs → r < length p.periphs → q ≢ r → AreApart (window_at p q).base (window_at p q).size (window_at p r).base (window_at p r).size

-- the layout of a type is that of its shape
abbrev pub HasLayout : PlainFirmware → PlainType → Type 0
HasLayout w t = layout_of w.structs t ≡ Some ((shape (known w.structs) t).size, (shape (known w.structs) t).align)

pub record HasLayouts (w : PlainFirmware) : Type 0 where
  pub globals : Each (λ (g : PlainGlobal). HasLayout w g.ty) w.globals
  pub locals : Each (λ (f : PlainFunc). Each (λ (s : PlainBinding). HasLayout w s.ty) f.locals) (funcs_of w)

-- the counts of a firmware that is within the limits, typed or not
pub record CountsOf (w : PlainFirmware) : Type 0 where
  pub structs : length w.structs ≤ struct_limit
  pub files : length w.files ≤ file_limit
  pub each_file : (f : ℕ) → f < length (funcs_of w) → file_of (resolve w) f < length w.files
  pub program : AreFew (resolve w)

abbrev pub CountsAreLimited : Type 0
CountsAreLimited = (w : PlainFirmware) → IsWithinLimits w → CountsOf w

abbrev pub SizesAreLimited : Type 0
SizesAreLimited = (w : PlainFirmware) → IsTyped w → HasSmallObjects (resolve w)

abbrev pub WindowsLieApart : Type 0
WindowsLieApart = (w : PlainFirmware) → IsTyped w → HasWindows (resolve w)

abbrev pub LayoutsAreThere : Type 0
LayoutsAreThere = (w : PlainFirmware) → IsTyped w → IsWithinLimits w → HasLayouts w
