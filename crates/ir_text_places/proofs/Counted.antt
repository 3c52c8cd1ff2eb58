-- The lines of a firmware have as many tokens as the sums say.
use Rattle.std.proofs.Common.{◌≡◌, ℕ, suc, ◌+◌, ◌*◌, ◌-◌, List, [], ◌∷◌, ◌++◌, length, take, drop, Bool, true, false, Option, Some, None, refl, sym, ap, ◌∙◌, arith, length-append, append-nil, append_assoc, nat_lt, if◌then◌else◌}
use Rattle.std.specs.List.{sum_by}
use Rattle.std.proofs.lemmas.List.Sums.{sum_by-cons}
use Rattle.ir_model.specs.declared.firmware.Inst.{Inst}
use Rattle.ir_model.specs.declared.firmware.Inst.TheVariants as inst
use Rattle.ir_model.specs.declared.firmware.Term.{Term}
use Rattle.ir_model.specs.declared.firmware.Term.TheVariants as term
use Rattle.ir_model.specs.declared.firmware.Block.{Block}
use Rattle.ir_model.specs.declared.firmware.Cell.{Cell}
use Rattle.ir_model.specs.declared.firmware.Cell.TheVariants as cell
use Rattle.ir_model.specs.declared.firmware.Peripheral.{Peripheral}
use Rattle.ir_model.specs.declared.token.Keyword.TheVariants as key
use Rattle.ir_model.specs.declared.token.Mark.TheVariants.{OpenBrace, CloseBrace, Open, Close, Colon}
use Rattle.ir_model.specs.declared.token.Excess.{Excess}
use Rattle.ir_model.specs.declared.token.TextLimit.{TextLimit}
use Rattle.ir_model.specs.declared.token.TextLimit.TheVariants as limit
use Rattle.ir_model.specs.Types.{PlainType, U8, U16, U32, Pointer, Array, Named, Callee, PlainTypes, none, more, PlainResult, nothing, gives}
use Rattle.ir_model.specs.Plain.{PlainBinding, PlainStruct, PlainGlobal, PlainFunc, PlainFile, PlainFirmware, funcs_of}
use Rattle.ir_model.specs.Tokens.{Marked, Token, Key, Sign}
use Rattle.ir_model.specs.TextLimits.{field_limit, parameter_limit, global_limit, function_limit, instruction_limit}
use Rattle.ir_model.specs.Lines.{Line, marked, plain, name, counted, type_tokens, row_tokens, more_tokens, result_tokens, binding_tokens, more_bindings, bindings_tokens, struct_line, struct_lines, periph_lines, cell_tokens, more_cells, init_tokens, global_start, global_line, global_lines, arguments, more_arguments, kept, inst_line, inst_lines, term_line, label_line, block_lines, local_lines, reg_lines, func_line, close_line, func_lines, funcs_lines, file_lines}
use Rattle.ir_model.specs.Texts.{joined}
use Rattle.ir_text_places.specs.declared.item.Item.{Item}
use Rattle.ir_text_places.specs.declared.item.Item.TheVariants as item
use Rattle.ir_text_places.specs.Items.{count, file_line, func_before, place_before, code_before, declaration_lines, tokens_before}
use Rattle.ir_text_places.specs.Sizes.{closed, type_size, row_size, result_size, binding_size, bindings_size, struct_size, cell_size, cells_size, init_size, start_size, global_size, kept_size, call_size, inst_size, insts_size, term_size, block_size, lines_size, head_size, front_size, func_size, funcs_size, file_size, func_start, place_start, code_start, declarations_size, size_before}

-- ---- types

mutual
  pub type_length : (x : Option Excess) (d : ℕ) (t : PlainType) → length (type_tokens x d t) ≡ type_size t
  type_length x d U8 = refl
  type_length x d U16 = refl
  type_length x d U32 = refl
  type_length x d (Pointer t) = let h = type_length None (d + 1) t in omega arith
  type_length x d (Array n t) = let h = type_length None (d + 1) t in omega arith
  type_length x d (Named w) = refl
  type_length x d (Callee a r) =
      let e = length-append (row_tokens (d + 1) a) (result_tokens (d + 1) r) in
      let h = row_length (d + 1) a in
      let i = result_length (d + 1) r in
      omega arith

  row_length : (d : ℕ) (ts : PlainTypes) → length (row_tokens d ts) ≡ closed (row_size ts)
  row_length d none = refl
  row_length d (more t ts) =
      let e = length-append (type_tokens None d t) (more_tokens d 1 ts) in
      let h = type_length None d t in
      let i = more_length d 1 ts in
      let c : closed (row_size (more t ts)) ≡ suc (type_size t + row_size ts) = refl in
      omega arith

  more_length : (d k : ℕ) (ts : PlainTypes) → length (more_tokens d k ts) ≡ suc (row_size ts)
  more_length d k none = refl
  more_length d k (more t ts) =
      let x : Option Excess = counted k parameter_limit limit.Param None in
      let e = length-append (type_tokens x d t) (more_tokens d (k + 1) ts) in
      let h = type_length x d t in
      let i = more_length d (k + 1) ts in
      omega arith

  result_length : (d : ℕ) (r : PlainResult) → length (result_tokens d r) ≡ result_size r
  result_length d nothing = refl
  result_length d (gives t) = let h = type_length None d t in omega arith

-- ---- bindings

binding_length : (x : Option Excess) (s : PlainBinding) → length (binding_tokens x s) ≡ binding_size s
binding_length x s = let h = type_length None 0 s.ty in omega arith

bindings_more : (s : PlainBinding) (ss : List PlainBinding) → bindings_size (s ∷ ss) ≡ suc (binding_size s + bindings_size ss)
bindings_more s ss = let e = sum_by-cons (λ (s : PlainBinding). suc (binding_size s)) s ss in omega arith

more_bindings_length : (l : TextLimit) (k most : ℕ) (ss : List PlainBinding) → length (more_bindings l k most ss) ≡ bindings_size ss
more_bindings_length l k most [] = refl
more_bindings_length l k most (s ∷ ss) =
    let x : Option Excess = counted k most l None in
    let e = length-append (binding_tokens x s) (more_bindings l (k + 1) most ss) in
    let h = binding_length x s in
    let i = more_bindings_length l (k + 1) most ss in
    let j = bindings_more s ss in
    omega arith

-- bindings and the mark behind them
bindings_closed : (l : TextLimit) (most : ℕ) (ss : List PlainBinding) (m : Marked) → length (bindings_tokens l most ss ++ m ∷ []) ≡ closed (bindings_size ss)
bindings_closed l most [] m = refl
bindings_closed l most (s ∷ ss) m =
    let d = length-append (bindings_tokens l most (s ∷ ss)) (m ∷ []) in
    let e = length-append (binding_tokens None s) (more_bindings l 1 most ss) in
    let h = binding_length None s in
    let i = more_bindings_length l 1 most ss in
    let c : closed (bindings_size (s ∷ ss)) ≡ suc (binding_size s + bindings_size ss) = ap closed (bindings_more s ss) in
    omega arith

-- ---- declarations

struct_length : (k : ℕ) (s : PlainStruct) → length (struct_line k s) ≡ struct_size s
struct_length k s = let h = bindings_closed limit.Field field_limit s.fields (plain (Sign CloseBrace)) in omega arith

cell_length : (k : ℕ) (c : Cell) → length (cell_tokens k c) ≡ cell_size c
cell_length k (cell.Word n) = refl
cell_length k (cell.Function f) = refl
cell_length k (cell.Address x) = refl

cells_more : (c : Cell) (cs : List Cell) → cells_size (c ∷ cs) ≡ suc (cell_size c + cells_size cs)
cells_more c cs = let e = sum_by-cons (λ (c : Cell). suc (cell_size c)) c cs in omega arith

more_cells_length : (k : ℕ) (cs : List Cell) → length (more_cells k cs) ≡ suc (cells_size cs)
more_cells_length k [] = refl
more_cells_length k (c ∷ cs) =
    let e = length-append (cell_tokens k c) (more_cells (k + 1) cs) in
    let h = cell_length k c in
    let i = more_cells_length (k + 1) cs in
    let j = cells_more c cs in
    omega arith

init_length : (cs : List Cell) → length (init_tokens cs) ≡ init_size cs
init_length [] = refl
init_length (c ∷ cs) =
    let e = length-append (cell_tokens 0 c) (more_cells 1 cs) in
    let h = cell_length 0 c in
    let i = more_cells_length 1 cs in
    let j = cells_more c cs in
    omega arith

start_length : (b : Bool) (x : Option Excess) → length (global_start b x) ≡ start_size b
start_length true x = refl
start_length false x = refl

global_length : (k : ℕ) (g : PlainGlobal) → length (global_line k g) ≡ global_size g
global_length k g =
    let x : Option Excess = counted k global_limit limit.Global None in
    let t : Line = name g.name ∷ plain (Sign Colon) ∷ type_tokens None 0 g.ty in
    let d = length-append (global_start g.constant x ++ t) (init_tokens g.init) in
    let e = length-append (global_start g.constant x) t in
    let h = start_length g.constant x in
    let i = type_length None 0 g.ty in
    let j = init_length g.init in
    omega arith

-- ---- instructions

more_arguments_length : (k : ℕ) (as_ : List (List ℕ)) → length (more_arguments k as_) ≡ suc (2 * length as_)
more_arguments_length k [] = refl
more_arguments_length k (a ∷ as_) = let i = more_arguments_length (k + 1) as_ in omega arith

closed_double : (n : ℕ) → closed (2 * suc n) ≡ suc (suc (2 * n))
closed_double n = let e : 2 * suc n ≡ suc (suc (2 * n)) = omega arith in ap closed e

arguments_length : (as_ : List (List ℕ)) → length (arguments as_) ≡ 1 + closed (2 * length as_)
arguments_length [] = refl
arguments_length (a ∷ as_) = let i = more_arguments_length 1 as_ in let j = closed_double (length as_) in omega arith

kept_length : (x : Option Excess) (to : Option (List ℕ)) (t : Token) (l : Line) → length (kept x to t l) ≡ kept_size to + length l
kept_length x None t l = omega arith
kept_length x (Some to) t l = omega arith

call_length : (x : Option Excess) (to : Option (List ℕ)) (t : Token) (f : List ℕ) (as_ : List (List ℕ)) → length (kept x to t (name f ∷ arguments as_)) ≡ call_size to as_
call_length x to t f as_ = let h = kept_length x to t (name f ∷ arguments as_) in let i = arguments_length as_ in omega arith

pub inst_length : (x : Option Excess) (i : Inst) → length (inst_line x i) ≡ inst_size i
inst_length x (inst.Call to f as_) = call_length x to (Key key.Call) f as_
inst_length x (inst.ICall to f as_) = call_length x to (Key key.Icall) f as_
inst_length x _ = refl

term_length : (t : Term) → length (term_line t) ≡ term_size t
term_length (term.Ret None) = refl
term_length (term.Ret (Some r)) = refl
term_length _ = refl

-- ---- lists of lines

pub joined_append : (a b : List Line) → joined (a ++ b) ≡ joined a ++ joined b
joined_append [] b = refl
joined_append (l ∷ a) b = ap (λ z. l ++ z) (joined_append a b) ∙ sym (append_assoc l (joined a) (joined b))

pub count_append : (a b : List Line) → count (a ++ b) ≡ count a + count b
count_append a b = ap length (joined_append a b) ∙ length-append (joined a) (joined b)

pub count_more : (l : Line) (ls : List Line) → count (l ∷ ls) ≡ length l + count ls
count_more l ls = length-append l (joined ls)

count_one : (l : Line) → count (l ∷ []) ≡ length l
count_one l = ap length (append-nil l)

pub structs_count : (k : ℕ) (ss : List PlainStruct) → count (struct_lines k ss) ≡ sum_by struct_size ss
structs_count k [] = refl
structs_count k (s ∷ ss) =
    let e = count_more (struct_line k s) (struct_lines (k + 1) ss) in
    let h = struct_length k s in
    let i = structs_count (k + 1) ss in
    let j = sum_by-cons struct_size s ss in
    omega arith

pub periphs_count : (k : ℕ) (qs : List Peripheral) → count (periph_lines k qs) ≡ 4 * length qs
periphs_count k [] = refl
periphs_count k (q ∷ qs) = let i = periphs_count (k + 1) qs in omega arith

pub globals_count : (k : ℕ) (gs : List PlainGlobal) → count (global_lines k gs) ≡ sum_by global_size gs
globals_count k [] = refl
globals_count k (g ∷ gs) =
    let e = count_more (global_line k g) (global_lines (k + 1) gs) in
    let h = global_length k g in
    let i = globals_count (k + 1) gs in
    let j = sum_by-cons global_size g gs in
    omega arith

pub insts_count : (k : ℕ) (is : List Inst) → count (inst_lines k is) ≡ insts_size is
insts_count k [] = refl
insts_count k (i ∷ is) =
    let x : Option Excess = counted k instruction_limit limit.Instruction None in
    let e = count_more (inst_line x i) (inst_lines (k + 1) is) in
    let h = inst_length x i in
    let a = insts_count (k + 1) is in
    let j = sum_by-cons inst_size i is in
    omega arith

pub blocks_count : (k n : ℕ) (bs : List Block) → count (block_lines k n bs) ≡ sum_by block_size bs
blocks_count k n [] = refl
blocks_count k n (b ∷ bs) =
    let first : List Line = label_line k b.label ∷ inst_lines n b.insts in
    let later : List Line = block_lines (k + 1) (n + length b.insts) bs in
    let d = count_append (first ++ term_line b.term ∷ []) later in
    let e = count_append first (term_line b.term ∷ []) in
    let f = count_more (label_line k b.label) (inst_lines n b.insts) in
    let g = count_one (term_line b.term) in
    let h = insts_count n b.insts in
    let i = term_length b.term in
    let a = blocks_count (k + 1) (n + length b.insts) bs in
    let j = sum_by-cons block_size b bs in
    omega arith

locals_count : (k : ℕ) (ss : List PlainBinding) → count (local_lines k ss) ≡ lines_size ss
locals_count k [] = refl
locals_count k (s ∷ ss) =
    let e = length-append (type_tokens None 0 s.ty) (joined (local_lines (k + 1) ss)) in
    let h = type_length None 0 s.ty in
    let i = locals_count (k + 1) ss in
    let j = bindings_more s ss in
    omega arith

regs_count : (k : ℕ) (ss : List PlainBinding) → count (reg_lines k ss) ≡ lines_size ss
regs_count k [] = refl
regs_count k (s ∷ ss) =
    let e = length-append (type_tokens None 0 s.ty) (joined (reg_lines (k + 1) ss)) in
    let h = type_length None 0 s.ty in
    let i = regs_count (k + 1) ss in
    let j = bindings_more s ss in
    omega arith

-- ---- functions and files

head_length : (k : ℕ) (f : PlainFunc) → length (func_line k f) ≡ head_size f
head_length k f =
    let bindings : Line = bindings_tokens limit.Param parameter_limit f.params in
    let begin : Line = marked (Key key.Func) (counted k function_limit limit.Function None) ∷ name f.name ∷ plain (Sign Open) ∷ bindings in
    let outcome : Line = plain (Sign Close) ∷ result_tokens 0 f.outcome in
    let d = length-append (begin ++ outcome) (plain (Sign OpenBrace) ∷ []) in
    let e = length-append begin outcome in
    let g = length-append bindings (plain (Sign Close) ∷ []) in
    let h = bindings_closed limit.Param parameter_limit f.params (plain (Sign Close)) in
    let i = result_length 0 f.outcome in
    omega arith

pub front_count : (k n : ℕ) (f : PlainFunc) → count ((func_line k f ∷ local_lines 0 f.locals) ++ reg_lines n f.regs) ≡ front_size f
front_count k n f =
    let d = count_append (func_line k f ∷ local_lines 0 f.locals) (reg_lines n f.regs) in
    let e = count_more (func_line k f) (local_lines 0 f.locals) in
    let g = head_length k f in
    let h = locals_count 0 f.locals in
    let i = regs_count n f.regs in
    omega arith

func_count : (k : ℕ) (f : PlainFunc) → count (func_lines k f) ≡ func_size f
func_count k f =
    let front : List Line = (func_line k f ∷ local_lines 0 f.locals) ++ reg_lines (length f.params) f.regs in
    let d = count_append (front ++ block_lines 0 0 f.blocks) (close_line ∷ []) in
    let e = count_append front (block_lines 0 0 f.blocks) in
    let g = front_count k (length f.params) f in
    let h = blocks_count 0 0 f.blocks in
    omega arith

pub funcs_count : (k : ℕ) (fs : List PlainFunc) → count (funcs_lines k fs) ≡ funcs_size fs
funcs_count k [] = refl
funcs_count k (f ∷ fs) =
    let e = count_append (func_lines k f) (funcs_lines (k + 1) fs) in
    let h = func_count k f in
    let i = funcs_count (k + 1) fs in
    let j = sum_by-cons func_size f fs in
    omega arith

pub files_count : (k n : ℕ) (fs : List PlainFile) → count (file_lines k n fs) ≡ sum_by file_size fs
files_count k n [] = refl
files_count k n (f ∷ fs) =
    let funcs : List Line = funcs_lines n f.funcs in
    let later : List Line = file_lines (k + 1) (n + length f.funcs) fs in
    let d = count_append (funcs ++ close_line ∷ []) later in
    let e = count_append funcs (close_line ∷ []) in
    let h = funcs_count n f.funcs in
    let i = files_count (k + 1) (n + length f.funcs) fs in
    let j = sum_by-cons file_size f fs in
    omega arith

pub func_before_count : (k : ℕ) (fs : List PlainFile) → count (func_before k fs) ≡ func_start k fs
func_before_count k [] = refl
func_before_count k (f ∷ fs) = by_test (nat_lt k (length f.funcs)) (func_before_count (k - length f.funcs) fs)
  where
    by_test : (b : Bool) → count (func_before (k - length f.funcs) fs) ≡ func_start (k - length f.funcs) fs
        → count (if b then file_line f ∷ funcs_lines 0 (take k f.funcs) else file_lines 0 0 (f ∷ []) ++ func_before (k - length f.funcs) fs)
        ≡ (if b then 3 + funcs_size (take k f.funcs) else file_size f + func_start (k - length f.funcs) fs)
    by_test true ih = let h = funcs_count 0 (take k f.funcs) in omega arith
    by_test false ih =
        let d = count_append (file_lines 0 0 (f ∷ [])) (func_before (k - length f.funcs) fs) in
        let h = files_count 0 0 (f ∷ []) in
        let j = sum_by-cons file_size f [] in
        let z : sum_by file_size [] ≡ 0 = refl in
        omega arith

place_before_count : (i : ℕ) (bs : List Block) → count (place_before i bs) ≡ place_start i bs
place_before_count i [] = refl
place_before_count i (b ∷ bs) = let h = insts_count 0 (take i b.insts) in omega arith

pub code_before_count : (b i : ℕ) (fs : List PlainFunc) → count (code_before b i fs) ≡ code_start b i fs
code_before_count b i [] = refl
code_before_count b i (f ∷ fs) =
    let front : List Line = (func_line 0 f ∷ local_lines 0 f.locals) ++ reg_lines 0 f.regs in
    let blocks : List Line = block_lines 0 0 (take b f.blocks) in
    let d = count_append (front ++ blocks) (place_before i (drop b f.blocks)) in
    let e = count_append front blocks in
    let g = front_count 0 0 f in
    let h = blocks_count 0 0 (take b f.blocks) in
    let j = place_before_count i (drop b f.blocks) in
    omega arith

-- ---- a whole firmware

three_count : (a b c : List Line) → count (a ++ b ++ c) ≡ count a + (count b + count c)
three_count a b c = let d = count_append (a ++ b) c in let e = count_append a b in omega arith

pub declarations_count : (w : PlainFirmware) → count (declaration_lines w) ≡ declarations_size w
declarations_count w =
    let d = three_count (struct_lines 0 w.structs) (periph_lines 0 w.periphs) (global_lines 0 w.globals) in
    let s = structs_count 0 w.structs in
    let p = periphs_count 0 w.periphs in
    let g = globals_count 0 w.globals in
    omega arith

pub before_count : (w : PlainFirmware) (i : Item) → tokens_before w i ≡ size_before w i
unfolding tokens_before
before_count w item.Whole = refl
before_count w (item.Struct k) = structs_count 0 (take k w.structs)
before_count w (item.Periph k) =
    let d = count_append (struct_lines 0 w.structs) (periph_lines 0 (take k w.periphs)) in
    let s = structs_count 0 w.structs in
    let p = periphs_count 0 (take k w.periphs) in
    omega arith
before_count w (item.Global k) =
    let d = three_count (struct_lines 0 w.structs) (periph_lines 0 w.periphs) (global_lines 0 (take k w.globals)) in
    let s = structs_count 0 w.structs in
    let p = periphs_count 0 w.periphs in
    let g = globals_count 0 (take k w.globals) in
    omega arith
before_count w (item.File k) =
    let d = count_append (declaration_lines w) (file_lines 0 0 (take k w.files)) in
    let h = declarations_count w in
    let f = files_count 0 0 (take k w.files) in
    omega arith
before_count w (item.Func k) =
    let d = count_append (declaration_lines w) (func_before k w.files) in
    let h = declarations_count w in
    let f = func_before_count k w.files in
    omega arith
before_count w (item.Code k b i) =
    let d = three_count (declaration_lines w) (func_before k w.files) (code_before b i (drop k (funcs_of w))) in
    let h = declarations_count w in
    let f = func_before_count k w.files in
    let g = code_before_count b i (drop k (funcs_of w)) in
    omega arith
