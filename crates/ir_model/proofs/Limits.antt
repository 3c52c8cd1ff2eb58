-- What the limits of a text say of a firmware: how many of each part it has, that its peripherals have names, that its
-- constants are words, and that its arrays have elements.
use Rattle.std.proofs.Common.{◌≡◌, ℕ, ◌+◌, ◌^◌, ◌<◌, ◌≤◌, Bool, true, false, List, [], ◌∷◌, ◌++◌, length, Option, Some, None, arith, length-append, flat_map}
use Rattle.std.specs.Prelude.{IsTrue}
use Rattle.base_names.specs.Names.{is_name}
use Rattle.ir_model.specs.declared.firmware.Inst.{Inst}
use Rattle.ir_model.specs.declared.firmware.Inst.TheVariants as inst
use Rattle.ir_model.specs.declared.firmware.Block.{Block}
use Rattle.ir_model.specs.declared.firmware.Peripheral.{Peripheral}
use Rattle.ir_model.specs.declared.token.Excess.{Excess}
use Rattle.ir_model.specs.declared.token.Mark.TheVariants.{Colon, Close, OpenBrace, Comma}
use Rattle.ir_model.specs.declared.token.TextLimit.{TextLimit}
use Rattle.ir_model.specs.declared.token.TextLimit.TheVariants as limit
use Rattle.ir_model.specs.Plain.{PlainBinding, PlainStruct, PlainGlobal, PlainFunc, PlainFile, PlainFirmware, funcs_of, regs_of}
use Rattle.ir_model.specs.declared.token.Keyword.TheVariants as key
use Rattle.ir_model.specs.Types.{PlainType, U8, U16, U32, Pointer, Array, Named, Callee, target_of}
use Rattle.ir_model.specs.Tokens.{Token, Key, Marked, Sign}
use Rattle.ir_model.specs.Lines.{Line, name, register, arguments, more_arguments, kept, type_tokens, init_tokens, counted, word_excess, plain, binding_tokens, more_bindings, bindings_tokens, result_tokens, global_start, func_line, close_line, term_line, label_line, inst_line, inst_lines, block_lines, local_lines, reg_lines, func_lines, funcs_lines, file_lines, struct_lines, periph_lines, global_lines, lines_of}
use Rattle.ir_model.specs.Canonical.{PassesNothing, IsProper, IsWithinLimits}
use Rattle.base_laws.specs.Lists.{Each}
use Rattle.ir_model.specs.Extents.{HasElements}
use Rattle.ir_model.proofs.Elements.{type_elements}
use Rattle.ir_model.proofs.NoExcess.{first_none, counted_none, number_fits}
use Rattle.base_laws.proofs.Lists.{each_both, each_left, each_right}

-- no token of a line passes a limit
abbrev pub Quiet : Line → Type 0
Quiet l = Each PassesNothing l

abbrev Proper : Line → Type 0
Proper l = Each (λ (m : Marked). IsProper m.token) l

-- ---- structs, peripherals and globals

structs_in : (k : ℕ) (ss : List PlainStruct) → k ≤ 256 → Each Quiet (struct_lines k ss) → k + length ss ≤ 256
structs_in k [] b h = omega arith
structs_in k (s ∷ ss) b h =
    let c = counted_none k 256 limit.Struct None h.0.0 in
    let r = structs_in (k + 1) ss (omega arith) h.1 in
    omega arith

periphs_in : (k : ℕ) (ps : List Peripheral) → k ≤ 64 → Each Quiet (periph_lines k ps) → k + length ps ≤ 64
periphs_in k [] b h = omega arith
periphs_in k (q ∷ qs) b h =
    let c = counted_none k 64 limit.Periph None h.0.0 in
    let r = periphs_in (k + 1) qs (omega arith) h.1 in
    omega arith

names_in : (k : ℕ) (ps : List Peripheral) → Each Proper (periph_lines k ps) → Each (λ (q : Peripheral). IsTrue (is_name q.name)) ps
names_in k [] h = tt
names_in k (q ∷ qs) h = (h.0.1.0, names_in (k + 1) qs h.1)

start_passes : (b : Bool) (x : Option Excess) (l : Line) → Quiet (global_start b x ++ l) → x ≡ None
start_passes true x l h = h.0
start_passes false x l h = h.0

globals_in : (k : ℕ) (gs : List PlainGlobal) → k ≤ 1024 → Each Quiet (global_lines k gs) → k + length gs ≤ 1024
globals_in k [] b h = omega arith
globals_in k (g ∷ gs) b h =
    let front : Line = global_start g.constant (counted k 1024 limit.Global None) in
    let c = counted_none k 1024 limit.Global None (start_passes g.constant (counted k 1024 limit.Global None) _ (each_left PassesNothing _ _ h.0)) in
    let r = globals_in (k + 1) gs (omega arith) h.1 in
    omega arith

-- ---- functions

functions_in : (n : ℕ) (fs : List PlainFunc) → n ≤ 1024 → Each Quiet (funcs_lines n fs) → n + length fs ≤ 1024
functions_in n [] b h = omega arith
functions_in n (f ∷ fs) b h =
    let c = counted_none n 1024 limit.Function None h.0.0 in
    let r = functions_in (n + 1) fs (omega arith) (each_right Quiet (func_lines n f) (funcs_lines (n + 1) fs) h) in
    omega arith

functions_in_files : (k n : ℕ) (fs : List PlainFile) → n ≤ 1024 → Each Quiet (file_lines k n fs) → n + length (flat_map (λ (f : PlainFile). f.funcs) fs) ≤ 1024
functions_in_files k n [] b h = omega arith
functions_in_files k n (f ∷ fs) b h =
    let later : List Line = file_lines (k + 1) (n + length f.funcs) fs in
    let here : List Line = funcs_lines n f.funcs in
    let end : List Line = close_line ∷ [] in
    let c = functions_in n f.funcs b (each_left Quiet here end (each_left Quiet (here ++ end) later h.1)) in
    let r = functions_in_files (k + 1) (n + length f.funcs) fs (omega arith) (each_right Quiet (here ++ end) later h.1) in
    let e = length-append f.funcs (flat_map (λ (g : PlainFile). g.funcs) fs) in
    omega arith

files_in : (k n : ℕ) (fs : List PlainFile) → k ≤ 1024 → Each Quiet (file_lines k n fs) → k + length fs ≤ 1024
files_in k n [] b h = omega arith
files_in k n (f ∷ fs) b h =
    let c = counted_none k 1024 limit.File None h.0.0 in
    let front : List Line = funcs_lines n f.funcs ++ (close_line ∷ []) in
    let r = files_in (k + 1) (n + length f.funcs) fs (omega arith) (each_right Quiet front (file_lines (k + 1) (n + length f.funcs) fs) h.1) in
    omega arith

-- ---- the bindings of a function

locals_in : (k : ℕ) (ls : List PlainBinding) → k ≤ 64 → Each Quiet (local_lines k ls) → k + length ls ≤ 64
locals_in k [] b h = omega arith
locals_in k (s ∷ ls) b h =
    let c = counted_none k 64 limit.Local None h.0.0 in
    let r = locals_in (k + 1) ls (omega arith) h.1 in
    omega arith

registers_in : (k : ℕ) (rs : List PlainBinding) → k ≤ 120 → Each Quiet (reg_lines k rs) → k + length rs ≤ 120
registers_in k [] b h = omega arith
registers_in k (s ∷ rs) b h =
    let c = counted_none k 120 limit.Register None h.0.0 in
    let r = registers_in (k + 1) rs (omega arith) h.1 in
    omega arith

more_in : (k : ℕ) (ss : List PlainBinding) → k ≤ 4 → Quiet (more_bindings limit.Param k 4 ss) → k + length ss ≤ 4
more_in k [] b h = omega arith
more_in k (s ∷ ss) b h =
    let c = counted_none k 4 limit.Param None (first_none (counted k 4 limit.Param None) (word_excess s.name) h.1.0) in
    let r = more_in (k + 1) ss (omega arith) (each_right PassesNothing (binding_tokens (counted k 4 limit.Param None) s) (more_bindings limit.Param (k + 1) 4 ss) h.1) in
    omega arith

parameters_in : (ss : List PlainBinding) → Quiet (bindings_tokens limit.Param 4 ss) → length ss ≤ 4
parameters_in [] h = omega arith
parameters_in (s ∷ ss) h =
    let r = more_in 1 ss (omega arith) (each_right PassesNothing (binding_tokens None s) (more_bindings limit.Param 1 4 ss) h) in
    omega arith

-- ---- arrays have elements

-- the array that a register points to, and that of a binding
abbrev pub PointsWell : PlainBinding → Type 0
PointsWell s = HasElements (target_of s.ty)

abbrev pub HasParts : PlainBinding → Type 0
HasParts s = HasElements s.ty

target_elements : (x : Option Excess) (d : ℕ) (t : PlainType) → Each PassesNothing (type_tokens x d t) → HasElements (target_of t)
target_elements x d (Pointer t) h = type_elements None (d + 1) t h.1
target_elements x d U8 h = tt
target_elements x d U16 h = tt
target_elements x d U32 h = tt
target_elements x d (Array n t) h = tt
target_elements x d (Named n) h = tt
target_elements x d (Callee a r) h = tt

more_registers : (l : TextLimit) (k most : ℕ) (ss : List PlainBinding) → Each PassesNothing (more_bindings l k most ss) → Each PointsWell ss
more_registers l k most [] h = tt
more_registers l k most (s ∷ ss) h =
    let binding : Line = plain (Sign Comma) ∷ binding_tokens (counted k most l None) s in
    let first = each_left PassesNothing binding (more_bindings l (k + 1) most ss) h in
    (target_elements None 0 s.ty first.1.1.1, more_registers l (k + 1) most ss (each_right PassesNothing binding (more_bindings l (k + 1) most ss) h))

binding_registers : (l : TextLimit) (most : ℕ) (ss : List PlainBinding) → Each PassesNothing (bindings_tokens l most ss) → Each PointsWell ss
binding_registers l most [] h = tt
binding_registers l most (s ∷ ss) h =
    let first = each_left PassesNothing (binding_tokens None s) (more_bindings l 1 most ss) h in
    (target_elements None 0 s.ty first.1.1, more_registers l 1 most ss (each_right PassesNothing (binding_tokens None s) (more_bindings l 1 most ss) h))

line_registers : (k : ℕ) (ss : List PlainBinding) → Each Quiet (reg_lines k ss) → Each PointsWell ss
line_registers k [] h = tt
line_registers k (s ∷ ss) h = (target_elements None 0 s.ty h.0.1.1.1, line_registers (k + 1) ss h.1)

locals_parts : (k : ℕ) (ss : List PlainBinding) → Each Quiet (local_lines k ss) → Each HasParts ss
locals_parts k [] h = tt
locals_parts k (s ∷ ss) h = (type_elements None 0 s.ty h.0.1.1.1, locals_parts (k + 1) ss h.1)

globals_parts : (k : ℕ) (gs : List PlainGlobal) → Each Quiet (global_lines k gs) → Each (λ (g : PlainGlobal). HasElements g.ty) gs
globals_parts k [] h = tt
globals_parts k (g ∷ gs) h =
    let start : Line = global_start g.constant (counted k 1024 limit.Global None) in
    let mid : Line = name g.name ∷ plain (Sign Colon) ∷ type_tokens None 0 g.ty in
    let own = each_right PassesNothing start mid (each_left PassesNothing (start ++ mid) (init_tokens g.init) h.0) in
    (type_elements None 0 g.ty own.1.1, globals_parts (k + 1) gs h.1)

-- at most 4 parameters, 120 registers with them, and 64 locals
pub record HasFewBindings (f : PlainFunc) : Type 0 where
  pub parameters : length f.params ≤ 4
  pub registers : length (regs_of f) ≤ 120
  pub locals : length f.locals ≤ 64

bindings_of : (k : ℕ) (f : PlainFunc) → Quiet (func_line k f) → Quiet (bindings_tokens limit.Param 4 f.params)
bindings_of k f h =
    let behind : Line = plain (Sign Close) ∷ result_tokens 0 f.outcome in
    let bindings : Line = bindings_tokens limit.Param 4 f.params in
    each_left PassesNothing bindings behind (each_left PassesNothing (bindings ++ behind) (plain (Sign OpenBrace) ∷ []) h.1.1.1)

parameters_of : (k : ℕ) (f : PlainFunc) → Quiet (func_line k f) → length f.params ≤ 4
parameters_of k f h = parameters_in f.params (bindings_of k f h)

-- ---- constants

-- the number of a constant is a word
abbrev pub HasWord : Inst → Type 0
HasWord (inst.Const to v) = v < 2 ^ 32
HasWord _ = Unit {0}

abbrev pub HasWords : PlainFunc → Type 0
HasWords f = Each (λ (b : Block). Each HasWord b.insts) f.blocks

has_word : (y : Inst) (x : Option Excess) → Quiet (inst_line x y) → HasWord y
has_word (inst.Const to v) x h = number_fits v None h.1.1.0
has_word _ x h = tt

words_in : (k : ℕ) (is : List Inst) → Each Quiet (inst_lines k is) → Each HasWord is
words_in k [] h = tt
words_in k (y ∷ ys) h = (has_word y _ h.0, words_in (k + 1) ys h.1)

words_in_blocks : (k n : ℕ) (bs : List Block) → Each Quiet (block_lines k n bs) → Each (λ (b : Block). Each HasWord b.insts) bs
words_in_blocks k n [] h = tt
words_in_blocks k n (b ∷ bs) h =
    let first : List Line = label_line k b.label ∷ inst_lines n b.insts in
    let end : List Line = term_line b.term ∷ [] in
    let later : List Line = block_lines (k + 1) (n + length b.insts) bs in
    let front : Each Quiet (first ++ end) = each_left Quiet (first ++ end) later h in
    let insts : Each Quiet first = each_left Quiet first end front in
    (words_in n b.insts insts.1, words_in_blocks (k + 1) (n + length b.insts) bs (each_right Quiet (first ++ end) later h))

-- ---- arguments

-- a call has at most 4 arguments
abbrev pub HasFewArguments : Inst → Type 0
HasFewArguments (inst.Call to g args) = length args ≤ 4
HasFewArguments (inst.ICall to g args) = length args ≤ 4
HasFewArguments _ = Unit {0}

more_arguments_few : (k : ℕ) (as_ : List (List ℕ)) → k ≤ 4 → Quiet (more_arguments k as_) → k + length as_ ≤ 4
more_arguments_few k [] b h = omega arith
more_arguments_few k (a ∷ as_) b h =
    let c = counted_none k 4 limit.Param None (first_none (counted k 4 limit.Param None) (word_excess a) h.1.0) in
    let r = more_arguments_few (k + 1) as_ (omega arith) h.1.1 in
    omega arith

arguments_few : (as_ : List (List ℕ)) → Quiet (arguments as_) → length as_ ≤ 4
arguments_few [] h = omega arith
arguments_few (a ∷ as_) h = let r = more_arguments_few 1 as_ (omega arith) h.1.1 in omega arith

kept_quiet : (x : Option Excess) (to : Option (List ℕ)) (t : Token) (l : Line) → Quiet (kept x to t l) → Quiet l
kept_quiet x None t l h = h.1
kept_quiet x (Some to) t l h = h.1.1.1

has_few_arguments : (y : Inst) (x : Option Excess) → Quiet (inst_line x y) → HasFewArguments y
has_few_arguments (inst.Call to g args) x h = arguments_few args (kept_quiet x to (Key key.Call) (name g ∷ arguments args) h).1
has_few_arguments (inst.ICall to g args) x h = arguments_few args (kept_quiet x to (Key key.Icall) (register g ∷ arguments args) h).1
has_few_arguments _ x h = tt

arguments_in : (k : ℕ) (is : List Inst) → Each Quiet (inst_lines k is) → Each HasFewArguments is
arguments_in k [] h = tt
arguments_in k (y ∷ ys) h = (has_few_arguments y _ h.0, arguments_in (k + 1) ys h.1)

arguments_in_blocks : (k n : ℕ) (bs : List Block) → Each Quiet (block_lines k n bs) → Each (λ (b : Block). Each HasFewArguments b.insts) bs
arguments_in_blocks k n [] h = tt
arguments_in_blocks k n (b ∷ bs) h =
    let first : List Line = label_line k b.label ∷ inst_lines n b.insts in
    let end : List Line = term_line b.term ∷ [] in
    let later : List Line = block_lines (k + 1) (n + length b.insts) bs in
    let insts : Each Quiet first = each_left Quiet first end (each_left Quiet (first ++ end) later h) in
    (arguments_in n b.insts insts.1, arguments_in_blocks (k + 1) (n + length b.insts) bs (each_right Quiet (first ++ end) later h))

-- ---- blocks and instructions

abbrev pub insts_in : List Block → ℕ
insts_in [] = 0
insts_in (b ∷ bs) = length b.insts + insts_in bs

insts_few : (k : ℕ) (is : List Inst) → k ≤ 16384 → Each Quiet (inst_lines k is) → k + length is ≤ 16384
insts_few k [] b h = omega arith
insts_few k (y ∷ ys) b h =
    let c = counted_none k 16384 limit.Instruction None (first_counted k y h.0) in
    let r = insts_few (k + 1) ys (omega arith) h.1 in
    omega arith
  where
    kept_counted : (x : Option Excess) (to : Option (List ℕ)) (t : Token) (l : Line) → Quiet (kept x to t l) → x ≡ None
    kept_counted x None t l q = q.0
    kept_counted x (Some to) t l q = first_none x (word_excess to) q.0

    first_counted : (k : ℕ) (y : Inst) → Quiet (inst_line (counted k 16384 limit.Instruction None) y) → counted k 16384 limit.Instruction None ≡ None
    first_counted k (inst.Const to v) q = first_none (counted k 16384 limit.Instruction None) (word_excess to) q.0
    first_counted k (inst.Move to from) q = first_none (counted k 16384 limit.Instruction None) (word_excess to) q.0
    first_counted k (inst.Bin op to a b) q = first_none (counted k 16384 limit.Instruction None) (word_excess to) q.0
    first_counted k (inst.Cmp op to a b) q = first_none (counted k 16384 limit.Instruction None) (word_excess to) q.0
    first_counted k (inst.Addr to x) q = first_none (counted k 16384 limit.Instruction None) (word_excess to) q.0
    first_counted k (inst.FAddr to x) q = first_none (counted k 16384 limit.Instruction None) (word_excess to) q.0
    first_counted k (inst.Elem to base i) q = first_none (counted k 16384 limit.Instruction None) (word_excess to) q.0
    first_counted k (inst.Field to base x) q = first_none (counted k 16384 limit.Instruction None) (word_excess to) q.0
    first_counted k (inst.Load to from) q = first_none (counted k 16384 limit.Instruction None) (word_excess to) q.0
    first_counted k (inst.Store to from) q = q.0
    first_counted k (inst.Call to g args) q = kept_counted (counted k 16384 limit.Instruction None) to (Key key.Call) (name g ∷ arguments args) q
    first_counted k (inst.ICall to g args) q = kept_counted (counted k 16384 limit.Instruction None) to (Key key.Icall) (register g ∷ arguments args) q

blocks_few : (k n : ℕ) (bs : List Block) → k ≤ 1024 → n ≤ 16384 → Each Quiet (block_lines k n bs) → (k + length bs ≤ 1024) × (n + insts_in bs ≤ 16384)
blocks_few k n [] a b h = (omega arith, omega arith)
blocks_few k n (x ∷ bs) a b h =
    let more : List Line = block_lines (k + 1) (n + length x.insts) bs in
    let own = each_left Quiet (inst_lines n x.insts ++ term_line x.term ∷ []) more h.1 in
    let c = counted_none k 1024 limit.Block None (first_none (counted k 1024 limit.Block None) (word_excess x.label) h.0.0) in
    let i = insts_few n x.insts b (each_left Quiet (inst_lines n x.insts) (term_line x.term ∷ []) own) in
    let r = blocks_few (k + 1) (n + length x.insts) bs (omega arith) i (each_right Quiet (inst_lines n x.insts ++ term_line x.term ∷ []) more h.1) in
    let r0 = r.0 in
    let r1 = r.1 in
    (omega arith, omega arith)

-- ---- each function of a firmware

-- what is said of a function in the lines of its file
pub record Limited (f : PlainFunc) : Type 0 where
  pub bindings : HasFewBindings f
  pub registers : Each PointsWell (regs_of f)
  pub locals : Each HasParts f.locals
  pub words : HasWords f
  pub arguments : Each (λ (b : Block). Each HasFewArguments b.insts) f.blocks
  pub blocks : length f.blocks ≤ 1024
  pub insts : insts_in f.blocks ≤ 16384

small_func : (k : ℕ) (f : PlainFunc) → Each Quiet (func_lines k f) → Limited f
small_func k f h =
    let first : List Line = func_line k f ∷ local_lines 0 f.locals in
    let registers : List Line = reg_lines (length f.params) f.regs in
    let blocks : List Line = block_lines 0 0 f.blocks in
    let all : Each Quiet (first ++ registers ++ blocks) = each_left Quiet (first ++ registers ++ blocks) (close_line ∷ []) h in
    let both : Each Quiet (first ++ registers) = each_left Quiet (first ++ registers) blocks all in
    let top : Each Quiet first = each_left Quiet first registers both in
    let p = parameters_of k f top.0 in
    let l = locals_in 0 f.locals (omega arith) top.1 in
    let r = registers_in (length f.params) f.regs (omega arith) (each_right Quiet first registers both) in
    let a = length-append f.params f.regs in
    let code : Each Quiet blocks = each_right Quiet (first ++ registers) blocks all in
    let b = blocks_few 0 0 f.blocks (omega arith) (omega arith) code in
    let b0 = b.0 in
    let b1 = b.1 in
    record {
      bindings = record { parameters = p; registers = omega arith; locals = omega arith };
      registers = each_both PointsWell f.params f.regs
          (binding_registers limit.Param 4 f.params (bindings_of k f top.0))
          (line_registers (length f.params) f.regs (each_right Quiet first registers both));
      locals = locals_parts 0 f.locals top.1;
      words = words_in_blocks 0 0 f.blocks code;
      arguments = arguments_in_blocks 0 0 f.blocks code;
      blocks = omega arith;
      insts = omega arith;
    }

small_funcs : (k : ℕ) (fs : List PlainFunc) → Each Quiet (funcs_lines k fs) → Each Limited fs
small_funcs k [] h = tt
small_funcs k (f ∷ fs) h =
    (small_func k f (each_left Quiet (func_lines k f) (funcs_lines (k + 1) fs) h), small_funcs (k + 1) fs (each_right Quiet (func_lines k f) (funcs_lines (k + 1) fs) h))

small_in_files : (k n : ℕ) (fs : List PlainFile) → Each Quiet (file_lines k n fs) → Each Limited (flat_map (λ (f : PlainFile). f.funcs) fs)
small_in_files k n [] h = tt
small_in_files k n (f ∷ fs) h =
    let later : List Line = file_lines (k + 1) (n + length f.funcs) fs in
    let here : List Line = funcs_lines n f.funcs in
    let end : List Line = close_line ∷ [] in
    each_both Limited f.funcs (flat_map (λ (g : PlainFile). g.funcs) fs)
    (small_funcs n f.funcs (each_left Quiet here end (each_left Quiet (here ++ end) later h.1)))
    (small_in_files (k + 1) (n + length f.funcs) fs (each_right Quiet (here ++ end) later h.1))

-- ---- a whole firmware

module _ (w : PlainFirmware) where
  module _ (P : Line → Type 0) (h : Each P (lines_of w)) where
    abbrev first_two : List Line
    first_two = struct_lines 0 w.structs ++ periph_lines 0 w.periphs

    abbrev first_three : List Line
    first_three = first_two ++ global_lines 0 w.globals

    of_three : Each P first_three
    unfolding lines_of
    of_three = each_left P first_three (file_lines 0 0 w.files) h

    of_two : Each P first_two
    of_two = each_left P first_two (global_lines 0 w.globals) of_three

    of_structs : Each P (struct_lines 0 w.structs)
    of_structs = each_left P (struct_lines 0 w.structs) (periph_lines 0 w.periphs) of_two

    of_periphs : Each P (periph_lines 0 w.periphs)
    of_periphs = each_right P (struct_lines 0 w.structs) (periph_lines 0 w.periphs) of_two

    of_globals : Each P (global_lines 0 w.globals)
    of_globals = each_right P first_two (global_lines 0 w.globals) of_three

    of_files : Each P (file_lines 0 0 w.files)
    unfolding lines_of
    of_files = each_right P first_three (file_lines 0 0 w.files) h

  module _ (h : IsWithinLimits w) where
    pub few_structs : length w.structs ≤ 256
    few_structs = let r = structs_in 0 w.structs (omega arith) (of_structs Quiet h.tokens) in omega arith

    pub few_periphs : length w.periphs ≤ 64
    few_periphs = let r = periphs_in 0 w.periphs (omega arith) (of_periphs Quiet h.tokens) in omega arith

    pub named_periphs : Each (λ (q : Peripheral). IsTrue (is_name q.name)) w.periphs
    named_periphs = names_in 0 w.periphs (of_periphs Proper h.words)

    pub few_globals : length w.globals ≤ 1024
    few_globals = let r = globals_in 0 w.globals (omega arith) (of_globals Quiet h.tokens) in omega arith

    pub few_files : length w.files ≤ 1024
    few_files = let r = files_in 0 0 w.files (omega arith) (of_files Quiet h.tokens) in omega arith

    pub few_functions : length (funcs_of w) ≤ 1024
    few_functions = let r = functions_in_files 0 0 w.files (omega arith) (of_files Quiet h.tokens) in omega arith

    -- the arrays of each global have elements
    pub global_elements : Each (λ (g : PlainGlobal). HasElements g.ty) w.globals
    global_elements = globals_parts 0 w.globals (of_globals Quiet h.tokens)

    -- every function
    pub limited : Each Limited (funcs_of w)
    limited = small_in_files 0 0 w.files (of_files Quiet h.tokens)
