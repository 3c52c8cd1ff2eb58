-- What may stand where something is expected: the marked tokens of each symbol.
use Rattle.std.proofs.Common.{◌≡◌, ℕ, ◌+◌, [], ◌∷◌, ◌++◌, List, Bool, true, false, append-nil, Option, Some, None, length, not, ◌&&◌, nat_eq, if◌then◌else◌}
use Rattle.ir_model.specs.declared.firmware.BinOp.{BinOp}
use Rattle.ir_model.specs.declared.firmware.CmpOp.{CmpOp}
use Rattle.ir_model.specs.declared.firmware.Block.{Block}
use Rattle.ir_model.specs.declared.firmware.Cell.{Cell}
use Rattle.ir_model.specs.declared.firmware.Inst.{Inst}
use Rattle.ir_model.specs.declared.firmware.Term.{Term}
use Rattle.ir_model.specs.declared.firmware.Peripheral.{Peripheral}
use Rattle.ir_model.specs.declared.token.Excess.{Excess}
use Rattle.ir_model.specs.declared.token.Keyword.{Keyword}
use Rattle.ir_model.specs.declared.token.Keyword.TheVariants as key
use Rattle.ir_model.specs.declared.token.Mark.{Mark}
use Rattle.ir_model.specs.declared.token.Mark.TheVariants as mark
use Rattle.ir_model.specs.declared.token.TextLimit.TheVariants as limit
use Rattle.ir_model.specs.Types.{PlainType, PlainTypes, PlainResult}
use Rattle.ir_model.specs.Plain.{PlainBinding, PlainStruct, PlainGlobal, PlainFunc, PlainFile}
use Rattle.ir_model.specs.Tokens.{Name, Number, Key, Operation, Comparison, Sign, Marked}
use Rattle.ir_model.specs.Lines.{Line, marked, plain, name, number, word_excess, length_excess, or_else, type_tokens, row_tokens, more_tokens, result_tokens, more_bindings, bindings_tokens, cell_tokens, more_cells, init_tokens, more_arguments, inst_lines, term_line, block_lines, local_lines, reg_lines, close_line, funcs_lines, file_lines, struct_lines, periph_lines, global_lines}
use Rattle.ir_model.specs.Texts.{joined, tokens, begins_colon}
use Rattle.ir_reader.specs.Machine
use Rattle.ir_reader.specs.Machine.{Symbol, Go, move, is_last}
use Rattle.ir_reader.specs.Reading.{HasFields}
use Rattle.ir_reader.specs.Parts.{HasBlocks, AllHaveBlocks}

-- a function behind its parameters
abbrev pub behind_params : (params : ℕ) → PlainResult → List PlainBinding → List PlainBinding → Block → List Block → Line
behind_params p r ls rs b bs =
    plain (Sign mark.Close) ∷ (result_tokens 0 r ++ plain (Sign mark.OpenBrace) ∷ joined (local_lines 0 ls ++ (reg_lines p rs ++ (block_lines 0 0 (b ∷ bs) ++ close_line ∷ []))))

abbrev pub ret_tail : Option (List ℕ) → Line
ret_tail None = []
ret_tail (Some r) = name r ∷ []

abbrev pub args_tokens : List (List ℕ) → Line
args_tokens [] = plain (Sign mark.Close) ∷ []
args_tokens (a ∷ as_) = name a ∷ more_arguments 1 as_

abbrev pub call_tokens : List ℕ → List (List ℕ) → Line
call_tokens f as_ = name f ∷ plain (Sign mark.Open) ∷ args_tokens as_

abbrev pub two : List ℕ → List ℕ → Line
two a b = name a ∷ plain (Sign mark.Comma) ∷ name b ∷ []

-- what a symbol stands for
pub data Lang : Symbol → Line → Type 0 where
  word_is : (x : Option Excess) (w : List ℕ) → Lang (Machine.Word x) (marked (Name w) (or_else x (word_excess w)) ∷ [])
  mark_is : (m : Mark) → Lang (Machine.Mk m) (plain (Sign m) ∷ [])
  key_is : (k : Keyword) → Lang (Machine.Kw k) (plain (Key key.Global) ∷ [])
  num_is : (n : ℕ) → Lang Machine.Num (number n ∷ [])
  len_is : (n : ℕ) → Lang Machine.Len (marked (Number n) (length_excess n) ∷ [])
  type_is : (x : Option Excess) (d : ℕ) (t : PlainType) → Lang (Machine.Ty x d) (type_tokens x d t)
  row_is : (d : ℕ) (ts : PlainTypes) (r : PlainResult) → Lang (Machine.Row d) (row_tokens d ts ++ result_tokens d r)
  more_row_is : (d k : ℕ) (ts : PlainTypes) (r : PlainResult) → Lang (Machine.MoreRow d k) (more_tokens d k ts ++ result_tokens d r)
  gives_is : (d : ℕ) (r : PlainResult) → Lang (Machine.Gives d) (result_tokens d r)
  more_fields_is : (k : ℕ) (ss : List PlainBinding) → Lang (Machine.MoreFields k) (more_bindings limit.Field k 64 ss ++ plain (Sign mark.CloseBrace) ∷ [])
  params_is : (ps : List PlainBinding) (r : PlainResult) (ls rs : List PlainBinding) (b : Block) (bs : List Block) → Lang Machine.Params (bindings_tokens limit.Param 4 ps ++ behind_params (length ps) r ls rs b bs)
  more_params_is : (k : ℕ) (ps : List PlainBinding) (n : ℕ) (r : PlainResult) (ls rs : List PlainBinding) (b : Block) (bs : List Block) → n ≡ k + length ps
      → Lang (Machine.MoreParams k) (more_bindings limit.Param k 4 ps ++ behind_params n r ls rs b bs)
  locals_is : (k p : ℕ) (ls rs : List PlainBinding) (b : Block) (bs : List Block) → Lang (Machine.Locals k p) (joined (local_lines k ls ++ (reg_lines p rs ++ (block_lines 0 0 (b ∷ bs) ++ close_line ∷ []))))
  regs_is : (k : ℕ) (rs : List PlainBinding) (b : Block) (bs : List Block) → Lang (Machine.Regs k) (joined (reg_lines k rs ++ (block_lines 0 0 (b ∷ bs) ++ close_line ∷ [])))
  first_is : (k n : ℕ) (b : Block) (bs : List Block) → Lang (Machine.First k n) (joined (block_lines k n (b ∷ bs) ++ close_line ∷ []))
  insts_is : (k n : ℕ) (is : List Inst) (t : Term) (bs : List Block) (m : ℕ) → m ≡ n + length is → Lang (Machine.Insts k n) (joined (inst_lines n is ++ (term_line t ∷ (block_lines k m bs ++ close_line ∷ []))))
  after_ret_is : (k n : ℕ) (r : Option (List ℕ)) (bs : List Block) → Lang (Machine.AfterRet k n) (ret_tail r ++ joined (block_lines k n bs ++ close_line ∷ []))
  blocks_is : (k n : ℕ) (bs : List Block) → Lang (Machine.Blocks k n) (joined (block_lines k n bs ++ close_line ∷ []))
  const_is : (n : ℕ) → Lang Machine.Value (number n ∷ [])
  move_is : (w : List ℕ) → Lang Machine.Value (name w ∷ [])
  bin_is : (op : BinOp) (a b : List ℕ) → Lang Machine.Value (plain (Operation op) ∷ two a b)
  cmp_is : (op : CmpOp) (a b : List ℕ) → Lang Machine.Value (plain (Comparison op) ∷ two a b)
  addr_is : (a : List ℕ) → Lang Machine.Value (plain (Key key.Addr) ∷ name a ∷ [])
  faddr_is : (a : List ℕ) → Lang Machine.Value (plain (Key key.Faddr) ∷ name a ∷ [])
  elem_is : (a b : List ℕ) → Lang Machine.Value (plain (Key key.Elem) ∷ two a b)
  field_is : (a b : List ℕ) → Lang Machine.Value (plain (Key key.Field) ∷ two a b)
  load_is : (a : List ℕ) → Lang Machine.Value (plain (Key key.Load) ∷ name a ∷ [])
  call_is : (f : List ℕ) (as_ : List (List ℕ)) → Lang Machine.Value (plain (Key key.Call) ∷ call_tokens f as_)
  icall_is : (f : List ℕ) (as_ : List (List ℕ)) → Lang Machine.Value (plain (Key key.Icall) ∷ call_tokens f as_)
  args_is : (as_ : List (List ℕ)) → Lang Machine.Args (args_tokens as_)
  more_args_is : (k : ℕ) (as_ : List (List ℕ)) → Lang (Machine.MoreArgs k) (more_arguments k as_)
  funcs_is : (k n : ℕ) (fs : List PlainFunc) (files : List PlainFile) (m : ℕ) → m ≡ n + length fs → HasBlocks fs → AllHaveBlocks files
      → Lang (Machine.Funcs k n) (joined (funcs_lines n fs ++ (close_line ∷ file_lines k m files)))
  files_is : (k n : ℕ) (files : List PlainFile) → AllHaveBlocks files → Lang (Machine.Files k n) (joined (file_lines k n files))
  globals_is : (k : ℕ) (gs : List PlainGlobal) (files : List PlainFile) → AllHaveBlocks files → Lang (Machine.Globals k) (joined (global_lines k gs ++ file_lines 0 0 files))
  init_is : (k : ℕ) (cs : List Cell) (gs : List PlainGlobal) (files : List PlainFile) → AllHaveBlocks files → Lang (Machine.Init k) (init_tokens cs ++ joined (global_lines k gs ++ file_lines 0 0 files))
  cell_is : (k : ℕ) (c : Cell) → Lang (Machine.CellAt k) (cell_tokens k c)
  more_cells_is : (k : ℕ) (cs : List Cell) → Lang (Machine.MoreCells k) (more_cells k cs)
  periphs_is : (k : ℕ) (ps : List Peripheral) (gs : List PlainGlobal) (files : List PlainFile) → AllHaveBlocks files
      → Lang (Machine.Periphs k) (joined (periph_lines k ps ++ (global_lines 0 gs ++ file_lines 0 0 files)))
  structs_is : (k : ℕ) (ss : List PlainStruct) (ps : List Peripheral) (gs : List PlainGlobal) (files : List PlainFile) → HasFields ss → AllHaveBlocks files
      → Lang (Machine.Structs k) (joined (struct_lines k ss ++ (periph_lines 0 ps ++ (global_lines 0 gs ++ file_lines 0 0 files))))

pub data Langs : List Symbol → Line → Type 0 where
  none : Langs [] []
  some : {s : Symbol} {st : List Symbol} {a b : Line} → Lang s a → Langs st b → Langs (s ∷ st) (a ++ b)

pub last : {s : Symbol} {a : Line} → Lang s a → Langs (s ∷ []) a
last {a = a} l = rw (← (append-nil a)) (some l none)

pub same : (st : List Symbol) (a b : Line) → Langs st a → a ≡ b → Langs st b
same st a b l e = let P : Line → Type 0 = λ z. Langs st z in rw (← e) l

-- what may stand alone below
abbrev pub at_bottom : Symbol → Bool
at_bottom (Machine.Funcs k n) = true
at_bottom (Machine.Files k n) = true
at_bottom (Machine.Globals k) = true
at_bottom (Machine.Init k) = true
at_bottom (Machine.Periphs k) = true
at_bottom (Machine.Structs k) = true
at_bottom _ = false

-- what an arrow may begin
abbrev pub takes_arrow : Symbol → Bool
takes_arrow (Machine.Gives d) = true
takes_arrow (Machine.Mk m) = nat_eq (Machine.mark_number m) 10
takes_arrow _ = false

-- what stands below the top: nothing that an arrow may begin, and at the bottom alone what may end a text
abbrev pub below : List Symbol → Bool
below [] = true
below (s ∷ []) = not (takes_arrow s)
below (s ∷ q ∷ st) = not (takes_arrow s) && (not (at_bottom s) && below (q ∷ st))

abbrev pub well : List Symbol → Bool
well [] = true
well (s ∷ []) = true
well (s ∷ q ∷ st) = not (at_bottom s) && below (q ∷ st)

-- the same, with nothing that may end a text
abbrev pub inner : List Symbol → Bool
inner [] = true
inner (s ∷ st) = not (takes_arrow s) && (not (at_bottom s) && inner st)

abbrev pub inner_top : List Symbol → Bool
inner_top [] = true
inner_top (s ∷ st) = not (at_bottom s) && inner st

-- what may come in the place of a symbol
abbrev pub fits : Symbol → List Symbol → Bool
fits s more = if at_bottom s then well more else inner_top more

-- what stands there agrees with the moves
pub data Follows (s : Symbol) : Line → Type 0 where
  next : (m : Marked) (ms : Line) (more : List Symbol) → ((b : Line) → move s m.token (begins_colon (tokens (ms ++ b))) ≡ Go m.excess more) → fits s more ≡ true → Langs more ms → Follows s (m ∷ ms)
  ends : at_bottom s ≡ true → is_last s ≡ true → Follows s []
  skips : (d : ℕ) → s ≡ Machine.Gives d → Follows s []
