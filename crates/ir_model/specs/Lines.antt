-- The lines of a firmware's canonical text, as tokens, each with the limit that it passes if it does. An item that is
-- one too many is marked at its first token, and before a word that is too long.
use Rattle.std.specs.Prelude.{ℕ, ◌+◌, ◌^◌, List, [], ◌∷◌, ◌++◌, length, Bool, true, false, Option, Some, None, nat_lt, nat_le, if◌then◌else◌}
use Rattle.ir_model.specs.declared.firmware.Inst.{Inst}
use Rattle.ir_model.specs.declared.firmware.Inst.TheVariants as inst
use Rattle.ir_model.specs.declared.firmware.Term.{Term}
use Rattle.ir_model.specs.declared.firmware.Term.TheVariants as term
use Rattle.ir_model.specs.declared.firmware.Block.{Block}
use Rattle.ir_model.specs.declared.firmware.Cell.{Cell}
use Rattle.ir_model.specs.declared.firmware.Cell.TheVariants.{Word, Function, Address}
use Rattle.ir_model.specs.declared.firmware.Peripheral.{Peripheral}
use Rattle.ir_model.specs.declared.token.Keyword.TheVariants as key
use Rattle.ir_model.specs.declared.token.Mark.TheVariants.{OpenBrace, CloseBrace, Open, Close, OpenSquare, CloseSquare, Comma, Colon, Equal, Star, Arrow}
use Rattle.ir_model.specs.declared.token.TextLimit.{TextLimit}
use Rattle.ir_model.specs.declared.token.TextLimit.TheVariants as limit
use Rattle.ir_model.specs.Types.{PlainType, U8, U16, U32, Pointer, Array, Named, Callee, PlainTypes, none, more, PlainResult, nothing, gives}
use Rattle.ir_model.specs.Plain.{PlainBinding, PlainStruct, PlainGlobal, PlainFunc, PlainFile, PlainFirmware}
use Rattle.ir_model.specs.TextLimits.{word_limit, struct_limit, field_limit, periph_limit, global_limit, cell_limit, array_limit, depth_limit, file_limit, function_limit, parameter_limit, register_limit, local_limit, block_limit, instruction_limit}
use Rattle.ir_model.specs.Tokens.{Token, Name, Number, Key, Operation, Comparison, Sign, Marked}
use Rattle.ir_model.specs.declared.token.Excess.{Excess}
use Rattle.ir_model.specs.declared.token.Excess.TheVariants.{TooWide, Passes}

abbrev pub Line : Type 0
Line = List Marked

abbrev pub marked : Token → Option Excess → Marked
marked t x = record { token = t; excess = x }

abbrev pub plain : Token → Marked
plain t = marked t None

-- what stands behind so many others passes a limit, or else something more
abbrev pub counted : (before most : ℕ) → TextLimit → Option Excess → Option Excess
counted k most l otherwise = if nat_lt k most then otherwise else Some (Passes l)

-- a word may be too long
abbrev pub word_excess : List ℕ → Option Excess
word_excess w = if nat_le (length w) word_limit then None else Some (Passes limit.Name)

abbrev pub name : List ℕ → Marked
name w = marked (Name w) (word_excess w)

-- a number has 32 bits
abbrev pub number_excess : ℕ → Option Excess → Option Excess
number_excess n otherwise = if nat_lt n (2 ^ 32) then otherwise else Some TooWide

abbrev pub number : ℕ → Marked
number n = marked (Number n) (number_excess n None)

-- an array's length
abbrev pub length_excess : ℕ → Option Excess
length_excess n = number_excess n (if nat_lt 0 n then (if nat_le n array_limit then None else Some (Passes limit.Array)) else Some (Passes limit.Array))

-- a type that stands in so many others, where its first token has something else to pass first
abbrev pub depth_excess : (around : ℕ) → Option Excess → Option Excess
depth_excess d otherwise = counted d depth_limit limit.Depth otherwise

abbrev pub or_else : Option Excess → Option Excess → Option Excess
or_else (Some x) y = Some x
or_else None y = y

-- `first` is what the type's first token passes as the item that begins there
abbrev mutual
  pub type_tokens : (first : Option Excess) → (around : ℕ) → PlainType → Line
  type_tokens x d U8 = marked (Key key.U8) (or_else x (depth_excess d None)) ∷ []
  type_tokens x d U16 = marked (Key key.U16) (or_else x (depth_excess d None)) ∷ []
  type_tokens x d U32 = marked (Key key.U32) (or_else x (depth_excess d None)) ∷ []
  type_tokens x d (Pointer t) = marked (Sign Star) (or_else x (depth_excess d None)) ∷ type_tokens None (d + 1) t
  type_tokens x d (Array n t) =
      marked (Sign OpenSquare) (or_else x (depth_excess d None)) ∷ marked (Number n) (length_excess n) ∷ plain (Sign CloseSquare) ∷ type_tokens None (d + 1) t
  type_tokens x d (Named w) = marked (Name w) (or_else x (depth_excess d (word_excess w))) ∷ []
  type_tokens x d (Callee a r) =
      (marked (Key key.Fn) (or_else x (depth_excess d None)) ∷ plain (Sign Open) ∷ row_tokens (d + 1) a) ++ result_tokens (d + 1) r

  -- the types between brackets, with the closing one
  pub row_tokens : (around : ℕ) → PlainTypes → Line
  row_tokens d none = plain (Sign Close) ∷ []
  row_tokens d (more t ts) = type_tokens None d t ++ more_tokens d 1 ts

  pub more_tokens : (around before : ℕ) → PlainTypes → Line
  more_tokens d k none = plain (Sign Close) ∷ []
  more_tokens d k (more t ts) = (plain (Sign Comma) ∷ type_tokens (counted k parameter_limit limit.Param None) d t) ++ more_tokens d (k + 1) ts

  pub result_tokens : (around : ℕ) → PlainResult → Line
  result_tokens d nothing = []
  result_tokens d (gives t) = plain (Sign Arrow) ∷ type_tokens None d t

-- a name with its type, behind so many others of a list that has a limit
abbrev pub binding_tokens : Option Excess → PlainBinding → Line
binding_tokens x s = (marked (Name s.name) (or_else x (word_excess s.name)) ∷ plain (Sign Colon) ∷ []) ++ type_tokens None 0 s.ty

-- bindings behind the first, each behind a comma
abbrev pub more_bindings : TextLimit → (before most : ℕ) → List PlainBinding → Line
more_bindings l k most [] = []
more_bindings l k most (s ∷ ss) = (plain (Sign Comma) ∷ binding_tokens (counted k most l None) s) ++ more_bindings l (k + 1) most ss

abbrev pub bindings_tokens : TextLimit → (most : ℕ) → List PlainBinding → Line
bindings_tokens l most [] = []
bindings_tokens l most (s ∷ ss) = binding_tokens None s ++ more_bindings l 1 most ss

abbrev pub struct_line : (before : ℕ) → PlainStruct → Line
struct_line k s =
    (marked (Key key.Struct) (counted k struct_limit limit.Struct None) ∷ name s.name ∷ plain (Sign OpenBrace) ∷ bindings_tokens limit.Field field_limit s.fields) ++ plain (Sign CloseBrace) ∷ []

abbrev pub periph_line : (before : ℕ) → Peripheral → Line
periph_line k p = marked (Key key.Periph) (counted k periph_limit limit.Periph None) ∷ name p.name ∷ number p.base ∷ number p.size ∷ []

abbrev pub cell_tokens : (before : ℕ) → Cell → Line
cell_tokens k (Word n) = marked (Number n) (number_excess n (counted k cell_limit limit.Cell None)) ∷ []
cell_tokens k (Function f) = marked (Key key.Fn) (counted k cell_limit limit.Cell None) ∷ name f ∷ []
cell_tokens k (Address x) = marked (Key key.Addr) (counted k cell_limit limit.Cell None) ∷ name x ∷ []

abbrev pub more_cells : (before : ℕ) → List Cell → Line
more_cells k [] = plain (Sign CloseBrace) ∷ []
more_cells k (c ∷ cs) = (plain (Sign Comma) ∷ cell_tokens k c) ++ more_cells (k + 1) cs

abbrev pub init_tokens : List Cell → Line
init_tokens [] = []
init_tokens (c ∷ cs) = (plain (Sign Equal) ∷ plain (Sign OpenBrace) ∷ cell_tokens 0 c) ++ more_cells 1 cs

abbrev pub global_start : (constant : Bool) → Option Excess → Line
global_start true x = marked (Key key.Const) x ∷ plain (Key key.Global) ∷ []
global_start false x = marked (Key key.Global) x ∷ []

abbrev pub global_line : (before : ℕ) → PlainGlobal → Line
global_line k g =
    global_start g.constant (counted k global_limit limit.Global None) ++ (name g.name ∷ plain (Sign Colon) ∷ type_tokens None 0 g.ty) ++ init_tokens g.init

-- instructions; `x` is what the first token passes as an instruction too many
abbrev pub register : List ℕ → Marked
register r = name r

abbrev pub assigned : Option Excess → (to : List ℕ) → Line → Line
assigned x to behind = marked (Name to) (or_else x (word_excess to)) ∷ plain (Sign Equal) ∷ behind

abbrev pub more_arguments : (before : ℕ) → List (List ℕ) → Line
more_arguments k [] = plain (Sign Close) ∷ []
more_arguments k (a ∷ as_) =
    (plain (Sign Comma) ∷ marked (Name a) (or_else (counted k parameter_limit limit.Param None) (word_excess a)) ∷ []) ++ more_arguments (k + 1) as_

abbrev pub arguments : List (List ℕ) → Line
arguments [] = plain (Sign Open) ∷ plain (Sign Close) ∷ []
arguments (a ∷ as_) = (plain (Sign Open) ∷ register a ∷ []) ++ more_arguments 1 as_

-- a call, which may keep its result
abbrev pub kept : Option Excess → Option (List ℕ) → Token → Line → Line
kept x None t behind = marked t x ∷ behind
kept x (Some to) t behind = assigned x to (plain t ∷ behind)

abbrev pub inst_line : Option Excess → Inst → Line
inst_line x (inst.Const to v) = assigned x to (number v ∷ [])
inst_line x (inst.Move to from) = assigned x to (register from ∷ [])
inst_line x (inst.Bin op to a b) = assigned x to (plain (Operation op) ∷ register a ∷ plain (Sign Comma) ∷ register b ∷ [])
inst_line x (inst.Cmp op to a b) = assigned x to (plain (Comparison op) ∷ register a ∷ plain (Sign Comma) ∷ register b ∷ [])
inst_line x (inst.Addr to of) = assigned x to (plain (Key key.Addr) ∷ name of ∷ [])
inst_line x (inst.FAddr to of) = assigned x to (plain (Key key.Faddr) ∷ name of ∷ [])
inst_line x (inst.Elem to base index) =
    assigned x to (plain (Key key.Elem) ∷ register base ∷ plain (Sign Comma) ∷ register index ∷ [])
inst_line x (inst.Field to base field) = assigned x to (plain (Key key.Field) ∷ register base ∷ plain (Sign Comma) ∷ name field ∷ [])
inst_line x (inst.Load to from) = assigned x to (plain (Key key.Load) ∷ register from ∷ [])
inst_line x (inst.Store to from) = marked (Key key.Store) x ∷ register to ∷ plain (Sign Comma) ∷ register from ∷ []
inst_line x (inst.Call to f args) = kept x to (Key key.Call) (name f ∷ arguments args)
inst_line x (inst.ICall to f args) = kept x to (Key key.Icall) (register f ∷ arguments args)

abbrev pub inst_lines : (before : ℕ) → List Inst → List Line
inst_lines k [] = []
inst_lines k (i ∷ is) = inst_line (counted k instruction_limit limit.Instruction None) i ∷ inst_lines (k + 1) is

abbrev pub term_line : Term → Line
term_line (term.Jump b) = plain (Key key.Jump) ∷ name b ∷ []
term_line (term.Branch on a b) = plain (Key key.Branch) ∷ register on ∷ name a ∷ name b ∷ []
term_line (term.Ret None) = plain (Key key.Ret) ∷ []
term_line (term.Ret (Some r)) = plain (Key key.Ret) ∷ register r ∷ []

abbrev pub label_line : (before : ℕ) → List ℕ → Line
label_line k l = marked (Name l) (or_else (counted k block_limit limit.Block None) (word_excess l)) ∷ plain (Sign Colon) ∷ []

-- blocks behind so many others with so many instructions
abbrev pub block_lines : (before instructions : ℕ) → List Block → List Line
block_lines k n [] = []
block_lines k n (b ∷ bs) =
    (label_line k b.label ∷ inst_lines n b.insts) ++ (term_line b.term ∷ []) ++ block_lines (k + 1) (n + length b.insts) bs

abbrev pub local_lines : (before : ℕ) → List PlainBinding → List Line
local_lines k [] = []
local_lines k (s ∷ ss) =
    ((marked (Key key.Local) (counted k local_limit limit.Local None) ∷ name s.name ∷ plain (Sign Colon) ∷ []) ++ type_tokens None 0 s.ty) ∷ local_lines (k + 1) ss

abbrev pub reg_lines : (before : ℕ) → List PlainBinding → List Line
reg_lines k [] = []
reg_lines k (s ∷ ss) =
    ((marked (Key key.Reg) (counted k register_limit limit.Register None) ∷ name s.name ∷ plain (Sign Colon) ∷ []) ++ type_tokens None 0 s.ty) ∷ reg_lines (k + 1) ss

abbrev pub func_line : (before : ℕ) → PlainFunc → Line
func_line k f =
    (marked (Key key.Func) (counted k function_limit limit.Function None) ∷ name f.name ∷ plain (Sign Open) ∷ bindings_tokens limit.Param parameter_limit f.params) ++ (plain (Sign Close) ∷ result_tokens 0 f.outcome) ++ plain (Sign OpenBrace) ∷ []

abbrev pub close_line : Line
close_line = plain (Sign CloseBrace) ∷ []

abbrev pub func_lines : (before : ℕ) → PlainFunc → List Line
func_lines k f =
    (func_line k f ∷ local_lines 0 f.locals) ++ reg_lines (length f.params) f.regs ++ block_lines 0 0 f.blocks ++ close_line ∷ []

abbrev pub funcs_lines : (before : ℕ) → List PlainFunc → List Line
funcs_lines k [] = []
funcs_lines k (f ∷ fs) = func_lines k f ++ funcs_lines (k + 1) fs

-- files behind so many others with so many functions
abbrev pub file_lines : (before functions : ℕ) → List PlainFile → List Line
file_lines k n [] = []
file_lines k n (f ∷ fs) =
    ((marked (Key key.File) (counted k file_limit limit.File None) ∷ name f.name ∷ plain (Sign OpenBrace) ∷ []) ∷ funcs_lines n f.funcs) ++ (close_line ∷ []) ++ file_lines (k + 1) (n + length f.funcs) fs

abbrev pub struct_lines : (before : ℕ) → List PlainStruct → List Line
struct_lines k [] = []
struct_lines k (s ∷ ss) = struct_line k s ∷ struct_lines (k + 1) ss

abbrev pub periph_lines : (before : ℕ) → List Peripheral → List Line
periph_lines k [] = []
periph_lines k (p ∷ ps) = periph_line k p ∷ periph_lines (k + 1) ps

abbrev pub global_lines : (before : ℕ) → List PlainGlobal → List Line
global_lines k [] = []
global_lines k (g ∷ gs) = global_line k g ∷ global_lines (k + 1) gs

unfoldable pub lines_of : PlainFirmware → List Line
lines_of w = struct_lines 0 w.structs ++ periph_lines 0 w.periphs ++ global_lines 0 w.globals ++ file_lines 0 0 w.files
