-- Numbers of a text that passes nothing have 32 bits.
use Rattle.std.proofs.Common.{◌≡◌, ◌<◌, ℕ, ◌+◌, ◌^◌, ◌++◌, List, [], ◌∷◌, length, Bool, true, false, Option, Some, None}
use Rattle.ir_model.specs.declared.firmware.Peripheral.{Peripheral}
use Rattle.ir_model.specs.declared.firmware.Cell.{Cell}
use Rattle.ir_model.specs.declared.firmware.Cell.TheVariants.{Word, Function, Address}
use Rattle.ir_model.specs.declared.firmware.Inst.{Inst}
use Rattle.ir_model.specs.declared.firmware.Inst.TheVariants as inst
use Rattle.ir_model.specs.declared.firmware.Term.{Term}
use Rattle.ir_model.specs.declared.firmware.Term.TheVariants as term
use Rattle.ir_model.specs.declared.firmware.Block.{Block}
use Rattle.ir_model.specs.declared.token.Excess.{Excess}
use Rattle.ir_model.specs.declared.token.Mark.TheVariants.{OpenBrace, CloseBrace, Close, Colon}
use Rattle.ir_model.specs.declared.token.TextLimit.{TextLimit}
use Rattle.ir_model.specs.declared.token.TextLimit.TheVariants as limit
use Rattle.ir_model.specs.Types.{PlainType, U8, U16, U32, Pointer, Array, Named, Callee, PlainTypes, none, more, PlainResult, nothing, gives}
use Rattle.ir_model.specs.Plain.{PlainBinding, PlainStruct, PlainGlobal, PlainFunc, PlainFile, PlainFirmware}
use Rattle.ir_model.specs.Tokens.{Token, Number, Sign, Marked}
use Rattle.ir_model.specs.Lines.{Line, counted, plain, name, type_tokens, row_tokens, more_tokens, result_tokens, binding_tokens, more_bindings, bindings_tokens, struct_line, struct_lines, periph_line, periph_lines, cell_tokens, more_cells, init_tokens, global_start, global_line, global_lines, arguments, more_arguments, inst_line, inst_lines, term_line, block_lines, local_lines, reg_lines, func_line, func_lines, funcs_lines, close_line, file_lines, lines_of}
use Rattle.base_laws.specs.Lists.{Each}
use Rattle.ir_model.proofs.NoExcess.{number_fits, length_fits}
use Rattle.base_laws.proofs.Lists.{each_both}

-- a number that passes nothing has 32 bits
abbrev pub IsKept : Token → Option Excess → Type 0
IsKept (Number n) x = x ≡ None → n < 2 ^ 32
IsKept _ x = Unit {0}

abbrev pub AreKept : Line → Type 0
AreKept l = Each (λ (m : Marked). IsKept m.token m.excess) l

join : (ls ms : Line) → AreKept ls → AreKept ms → AreKept (ls ++ ms)
join ls ms h k = each_both (λ (m : Marked). IsKept m.token m.excess) ls ms h k

stack : (ls ms : List Line) → Each AreKept ls → Each AreKept ms → Each AreKept (ls ++ ms)
stack ls ms h k = each_both AreKept ls ms h k

mutual
  type_kept : (x : Option Excess) (d : ℕ) (t : PlainType) → AreKept (type_tokens x d t)
  type_kept x d U8 = (tt, tt)
  type_kept x d U16 = (tt, tt)
  type_kept x d U32 = (tt, tt)
  type_kept x d (Pointer t) = (tt, type_kept None (d + 1) t)
  type_kept x d (Array n t) = (tt, (length_fits n, (tt, type_kept None (d + 1) t)))
  type_kept x d (Named w) = (tt, tt)
  type_kept x d (Callee a r) = (tt, (tt, join (row_tokens (d + 1) a) (result_tokens (d + 1) r) (row_kept (d + 1) a) (result_kept (d + 1) r)))

  row_kept : (d : ℕ) (ts : PlainTypes) → AreKept (row_tokens d ts)
  row_kept d none = (tt, tt)
  row_kept d (more t ts) = join (type_tokens None d t) (more_tokens d 1 ts) (type_kept None d t) (more_kept d 1 ts)

  more_kept : (d k : ℕ) (ts : PlainTypes) → AreKept (more_tokens d k ts)
  more_kept d k none = (tt, tt)
  more_kept d k (more t ts) =
      (tt, join (type_tokens (counted k 4 limit.Param None) d t) (more_tokens d (k + 1) ts) (type_kept (counted k 4 limit.Param None) d t) (more_kept d (k + 1) ts))

  result_kept : (d : ℕ) (r : PlainResult) → AreKept (result_tokens d r)
  result_kept d nothing = tt
  result_kept d (gives t) = (tt, type_kept None d t)

binding_kept : (x : Option Excess) (s : PlainBinding) → AreKept (binding_tokens x s)
binding_kept x s = (tt, (tt, type_kept None 0 s.ty))

more_bindings_kept : (l : TextLimit) (k most : ℕ) (ss : List PlainBinding) → AreKept (more_bindings l k most ss)
more_bindings_kept l k most [] = tt
more_bindings_kept l k most (s ∷ ss) =
    (tt, join (binding_tokens (counted k most l None) s) (more_bindings l (k + 1) most ss) (binding_kept (counted k most l None) s) (more_bindings_kept l (k + 1) most ss))

bindings_kept : (l : TextLimit) (most : ℕ) (ss : List PlainBinding) → AreKept (bindings_tokens l most ss)
bindings_kept l most [] = tt
bindings_kept l most (s ∷ ss) = join (binding_tokens None s) (more_bindings l 1 most ss) (binding_kept None s) (more_bindings_kept l 1 most ss)

struct_kept : (k : ℕ) (s : PlainStruct) → AreKept (struct_line k s)
struct_kept k s = (tt, (tt, (tt, join (bindings_tokens limit.Field 64 s.fields) (plain (Sign CloseBrace) ∷ []) (bindings_kept limit.Field 64 s.fields) (tt, tt))))

periph_kept : (k : ℕ) (p : Peripheral) → AreKept (periph_line k p)
periph_kept k p = (tt, (tt, (number_fits p.base None, (number_fits p.size None, tt))))

cell_kept : (k : ℕ) (c : Cell) → AreKept (cell_tokens k c)
cell_kept k (Word n) = (number_fits n (counted k 65536 limit.Cell None), tt)
cell_kept k (Function f) = (tt, (tt, tt))
cell_kept k (Address x) = (tt, (tt, tt))

more_cells_kept : (k : ℕ) (cs : List Cell) → AreKept (more_cells k cs)
more_cells_kept k [] = (tt, tt)
more_cells_kept k (c ∷ cs) = (tt, join (cell_tokens k c) (more_cells (k + 1) cs) (cell_kept k c) (more_cells_kept (k + 1) cs))

init_kept : (cs : List Cell) → AreKept (init_tokens cs)
init_kept [] = tt
init_kept (c ∷ cs) = (tt, (tt, join (cell_tokens 0 c) (more_cells 1 cs) (cell_kept 0 c) (more_cells_kept 1 cs)))

global_start_kept : (constant : Bool) (x : Option Excess) → AreKept (global_start constant x)
global_start_kept true x = (tt, (tt, tt))
global_start_kept false x = (tt, tt)

global_kept : (k : ℕ) (g : PlainGlobal) → AreKept (global_line k g)
global_kept k g =
    join (global_start g.constant (counted k 1024 limit.Global None) ++ (name g.name ∷ plain (Sign Colon) ∷ type_tokens None 0 g.ty)) (init_tokens g.init)
    (join (global_start g.constant (counted k 1024 limit.Global None)) (name g.name ∷ plain (Sign Colon) ∷ type_tokens None 0 g.ty)
    (global_start_kept g.constant (counted k 1024 limit.Global None)) (tt, (tt, type_kept None 0 g.ty)))
    (init_kept g.init)

more_arguments_kept : (k : ℕ) (as_ : List (List ℕ)) → AreKept (more_arguments k as_)
more_arguments_kept k [] = (tt, tt)
more_arguments_kept k (a ∷ as_) = (tt, (tt, more_arguments_kept (k + 1) as_))

arguments_kept : (as_ : List (List ℕ)) → AreKept (arguments as_)
arguments_kept [] = (tt, (tt, tt))
arguments_kept (a ∷ as_) = (tt, (tt, more_arguments_kept 1 as_))

inst_kept : (x : Option Excess) (i : Inst) → AreKept (inst_line x i)
inst_kept x (inst.Const to v) = (tt, (tt, (number_fits v None, tt)))
inst_kept x (inst.Move to from) = (tt, (tt, (tt, tt)))
inst_kept x (inst.Bin op to a b) = (tt, (tt, (tt, (tt, (tt, (tt, tt))))))
inst_kept x (inst.Cmp op to a b) = (tt, (tt, (tt, (tt, (tt, (tt, tt))))))
inst_kept x (inst.Addr to of) = (tt, (tt, (tt, (tt, tt))))
inst_kept x (inst.FAddr to of) = (tt, (tt, (tt, (tt, tt))))
inst_kept x (inst.Elem to base index) = (tt, (tt, (tt, (tt, (tt, (tt, tt))))))
inst_kept x (inst.Field to base field) = (tt, (tt, (tt, (tt, (tt, (tt, tt))))))
inst_kept x (inst.Load to from) = (tt, (tt, (tt, (tt, tt))))
inst_kept x (inst.Store to from) = (tt, (tt, (tt, (tt, tt))))
inst_kept x (inst.Call None f args) = (tt, (tt, arguments_kept args))
inst_kept x (inst.Call (Some to) f args) = (tt, (tt, (tt, (tt, arguments_kept args))))
inst_kept x (inst.ICall None f args) = (tt, (tt, arguments_kept args))
inst_kept x (inst.ICall (Some to) f args) = (tt, (tt, (tt, (tt, arguments_kept args))))

insts_kept : (k : ℕ) (is : List Inst) → Each AreKept (inst_lines k is)
insts_kept k [] = tt
insts_kept k (i ∷ is) = (inst_kept (counted k 16384 limit.Instruction None) i, insts_kept (k + 1) is)

term_kept : (t : Term) → AreKept (term_line t)
term_kept (term.Jump b) = (tt, (tt, tt))
term_kept (term.Branch on a b) = (tt, (tt, (tt, (tt, tt))))
term_kept (term.Ret None) = (tt, tt)
term_kept (term.Ret (Some r)) = (tt, (tt, tt))

blocks_kept : (k n : ℕ) (bs : List Block) → Each AreKept (block_lines k n bs)
blocks_kept k n [] = tt
blocks_kept k n (b ∷ bs) = (
  (tt, (tt, tt)),
  stack (inst_lines n b.insts ++ term_line b.term ∷ []) (block_lines (k + 1) (n + length b.insts) bs)
      (stack (inst_lines n b.insts) (term_line b.term ∷ []) (insts_kept n b.insts) (term_kept b.term, tt))
      (blocks_kept (k + 1) (n + length b.insts) bs),
)

locals_kept : (k : ℕ) (ss : List PlainBinding) → Each AreKept (local_lines k ss)
locals_kept k [] = tt
locals_kept k (s ∷ ss) = ((tt, (tt, (tt, type_kept None 0 s.ty))), locals_kept (k + 1) ss)

regs_kept : (k : ℕ) (ss : List PlainBinding) → Each AreKept (reg_lines k ss)
regs_kept k [] = tt
regs_kept k (s ∷ ss) = ((tt, (tt, (tt, type_kept None 0 s.ty))), regs_kept (k + 1) ss)

head_kept : (k : ℕ) (f : PlainFunc) → AreKept (func_line k f)
head_kept k f = (
  tt,
  (
    tt,
    (
      tt,
      join (bindings_tokens limit.Param 4 f.params ++ (plain (Sign Close) ∷ result_tokens 0 f.outcome)) (plain (Sign OpenBrace) ∷ [])
          (join (bindings_tokens limit.Param 4 f.params) (plain (Sign Close) ∷ result_tokens 0 f.outcome) (bindings_kept limit.Param 4 f.params) (tt, result_kept 0 f.outcome))
          (tt, tt),
    ),
  ),
)

func_kept : (k : ℕ) (f : PlainFunc) → Each AreKept (func_lines k f)
func_kept k f = (
  head_kept k f,
  stack (local_lines 0 f.locals ++ reg_lines (length f.params) f.regs ++ block_lines 0 0 f.blocks) (close_line ∷ [])
      (stack (local_lines 0 f.locals ++ reg_lines (length f.params) f.regs) (block_lines 0 0 f.blocks)
      (stack (local_lines 0 f.locals) (reg_lines (length f.params) f.regs) (locals_kept 0 f.locals) (regs_kept (length f.params) f.regs))
      (blocks_kept 0 0 f.blocks))
      ((tt, tt), tt),
)

funcs_kept : (k : ℕ) (fs : List PlainFunc) → Each AreKept (funcs_lines k fs)
funcs_kept k [] = tt
funcs_kept k (f ∷ fs) = stack (func_lines k f) (funcs_lines (k + 1) fs) (func_kept k f) (funcs_kept (k + 1) fs)

files_kept : (k n : ℕ) (fs : List PlainFile) → Each AreKept (file_lines k n fs)
files_kept k n [] = tt
files_kept k n (f ∷ fs) = (
  (tt, (tt, (tt, tt))),
  stack (funcs_lines n f.funcs ++ close_line ∷ []) (file_lines (k + 1) (n + length f.funcs) fs)
      (stack (funcs_lines n f.funcs) (close_line ∷ []) (funcs_kept n f.funcs) ((tt, tt), tt))
      (files_kept (k + 1) (n + length f.funcs) fs),
)

structs_kept : (k : ℕ) (ss : List PlainStruct) → Each AreKept (struct_lines k ss)
structs_kept k [] = tt
structs_kept k (s ∷ ss) = (struct_kept k s, structs_kept (k + 1) ss)

periphs_kept : (k : ℕ) (ps : List Peripheral) → Each AreKept (periph_lines k ps)
periphs_kept k [] = tt
periphs_kept k (p ∷ ps) = (periph_kept k p, periphs_kept (k + 1) ps)

globals_kept : (k : ℕ) (gs : List PlainGlobal) → Each AreKept (global_lines k gs)
globals_kept k [] = tt
globals_kept k (g ∷ gs) = (global_kept k g, globals_kept (k + 1) gs)

pub lines_kept : (w : PlainFirmware) → Each AreKept (lines_of w)
unfolding lines_of
lines_kept w =
    stack (struct_lines 0 w.structs ++ periph_lines 0 w.periphs ++ global_lines 0 w.globals) (file_lines 0 0 w.files)
    (stack (struct_lines 0 w.structs ++ periph_lines 0 w.periphs) (global_lines 0 w.globals)
    (stack (struct_lines 0 w.structs) (periph_lines 0 w.periphs) (structs_kept 0 w.structs) (periphs_kept 0 w.periphs))
    (globals_kept 0 w.globals))
    (files_kept 0 0 w.files)
