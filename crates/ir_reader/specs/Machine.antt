-- Beyond the program's claim: only laws, proofs and functions inside the tool cite this file.
-- What may come next in a text, and what a token makes of it.
use Rattle.std.specs.Prelude.{ℕ, ◌+◌, List, [], ◌∷◌, ◌++◌, Option, Some, None, Bool, true, false, if◌then◌else◌, nat_eq}
use Rattle.ir_model.specs.declared.token.Excess.{Excess}
use Rattle.ir_model.specs.declared.token.Keyword.{Keyword}
use Rattle.ir_model.specs.declared.token.Keyword.TheVariants as key
use Rattle.ir_model.specs.declared.token.Mark.{Mark}
use Rattle.ir_model.specs.declared.token.Mark.TheVariants as mark
use Rattle.ir_model.specs.declared.token.TextLimit.TheVariants as limit
use Rattle.ir_model.specs.Tokens.{Token, Name, Number, Key, Operation, Comparison, Sign}
use Rattle.ir_model.specs.TextLimits.{struct_limit, field_limit, periph_limit, global_limit, cell_limit, file_limit, function_limit, parameter_limit, register_limit, local_limit, block_limit, instruction_limit}
use Rattle.ir_model.specs.Lines.{counted, word_excess, number_excess, length_excess, depth_excess, or_else}
use Rattle.ir_reader.specs.declared.error.Fault.{Fault}
use Rattle.ir_reader.specs.declared.error.FaultKind.TheVariants as kind
use Rattle.ir_reader.specs.Found.{Is, Bad, End, Placed, colon_first}

-- what may come next; a number is how many of a kind stand before
pub data Symbol : Type 0 where
  -- a name, whose token may pass something else first
  Word : (first : Option Excess) → Symbol
  Mk : (mark : Mark) → Symbol
  Kw : (word : Keyword) → Symbol
  Num : Symbol
  -- an array's length
  Len : Symbol
  -- a type in so many others
  Ty : (first : Option Excess) → (around : ℕ) → Symbol
  -- the types between brackets, the closing one, and what the function gives
  Row : (around : ℕ) → Symbol
  MoreRow : (around before : ℕ) → Symbol
  -- an arrow and a type, or nothing
  Gives : (around : ℕ) → Symbol
  -- the fields behind some, and the closing brace
  MoreFields : (before : ℕ) → Symbol
  -- the parameters, and all of the function behind them
  Params : Symbol
  MoreParams : (before : ℕ) → Symbol
  -- the locals behind some, and all of the function behind them
  Locals : (before params : ℕ) → Symbol
  Regs : (before : ℕ) → Symbol
  -- a block, and those behind it
  First : (blocks instructions : ℕ) → Symbol
  Insts : (blocks instructions : ℕ) → Symbol
  AfterRet : (blocks instructions : ℕ) → Symbol
  Blocks : (blocks instructions : ℕ) → Symbol
  -- what a register gets
  Value : Symbol
  Args : Symbol
  MoreArgs : (before : ℕ) → Symbol
  -- the functions of a file, the closing brace, and the files behind it
  Funcs : (files functions : ℕ) → Symbol
  Files : (files functions : ℕ) → Symbol
  Globals : (before : ℕ) → Symbol
  -- the first cells of a global, if the text says them, and all behind the global
  Init : (before : ℕ) → Symbol
  CellAt : (before : ℕ) → Symbol
  MoreCells : (before : ℕ) → Symbol
  Periphs : (before : ℕ) → Symbol
  Structs : (before : ℕ) → Symbol

-- a token stands for what is expected, with what it passes and what is expected behind it; or it cannot stand there; or
-- nothing stands there
pub data Move : Type 0 where
  Go : (excess : Option Excess) → (more : List Symbol) → Move
  Stop : Move
  Skip : Move

abbrev pub mark_number : Mark → ℕ
mark_number mark.OpenBrace = 0
mark_number mark.CloseBrace = 1
mark_number mark.Open = 2
mark_number mark.Close = 3
mark_number mark.OpenSquare = 4
mark_number mark.CloseSquare = 5
mark_number mark.Comma = 6
mark_number mark.Colon = 7
mark_number mark.Equal = 8
mark_number mark.Star = 9
mark_number mark.Arrow = 10

abbrev pub key_number : Keyword → ℕ
key_number key.Struct = 0
key_number key.Periph = 1
key_number key.Const = 2
key_number key.Global = 3
key_number key.File = 4
key_number key.Func = 5
key_number key.Local = 6
key_number key.Reg = 7
key_number key.Addr = 8
key_number key.Faddr = 9
key_number key.Elem = 10
key_number key.Field = 11
key_number key.Load = 12
key_number key.Store = 13
key_number key.Call = 14
key_number key.Icall = 15
key_number key.Jump = 16
key_number key.Branch = 17
key_number key.Ret = 18
key_number key.Fn = 19
key_number key.U8 = 20
key_number key.U16 = 21
key_number key.U32 = 22

abbrev pub only_mark : Mark → Mark → Move
only_mark m n = if nat_eq (mark_number m) (mark_number n) then Go None [] else Stop

abbrev pub only_global : Keyword → Move
only_global key.Global = Go None []
only_global _ = Stop

-- types

abbrev pub type_excess : Option Excess → ℕ → Option Excess
type_excess x d = or_else x (depth_excess d None)

abbrev pub type_key : Option Excess → ℕ → Keyword → Move
type_key x d key.U8 = Go (type_excess x d) []
type_key x d key.U16 = Go (type_excess x d) []
type_key x d key.U32 = Go (type_excess x d) []
type_key x d key.Fn = Go (type_excess x d) (Mk mark.Open ∷ Row (d + 1) ∷ [])
type_key x d _ = Stop

abbrev pub type_mark : Option Excess → ℕ → Mark → Move
type_mark x d mark.Star = Go (type_excess x d) (Ty None (d + 1) ∷ [])
type_mark x d mark.OpenSquare = Go (type_excess x d) (Len ∷ Mk mark.CloseSquare ∷ Ty None (d + 1) ∷ [])
type_mark x d _ = Stop

abbrev pub type_move : Option Excess → ℕ → Token → Move
type_move x d (Key k) = type_key x d k
type_move x d (Sign m) = type_mark x d m
type_move x d (Name w) = Go (or_else x (depth_excess d (word_excess w))) []
type_move x d _ = Stop

-- and more behind it
abbrev pub then_row : ℕ → Move → Move
then_row d (Go x more) = Go x (more ++ MoreRow d 1 ∷ [])
then_row d Stop = Stop
then_row d Skip = Skip

abbrev pub row_mark : ℕ → Mark → Move
row_mark d mark.Close = Go None (Gives d ∷ [])
row_mark d m = then_row d (type_mark None d m)

abbrev pub row_move : ℕ → Token → Move
row_move d (Sign m) = row_mark d m
row_move d (Key k) = then_row d (type_key None d k)
row_move d (Name w) = then_row d (Go (or_else None (depth_excess d (word_excess w))) [])
row_move d _ = Stop

abbrev pub more_row_mark : ℕ → ℕ → Mark → Move
more_row_mark d k mark.Comma = Go None (Ty (counted k parameter_limit limit.Param None) d ∷ MoreRow d (k + 1) ∷ [])
more_row_mark d k mark.Close = Go None (Gives d ∷ [])
more_row_mark d k _ = Stop

abbrev pub gives_mark : ℕ → Mark → Move
gives_mark d mark.Arrow = Go None (Ty None d ∷ [])
gives_mark d _ = Skip

-- lists in declarations

abbrev pub more_fields_mark : ℕ → Mark → Move
more_fields_mark k mark.Comma = Go None (Word (counted k field_limit limit.Field None) ∷ Mk mark.Colon ∷ Ty None 0 ∷ MoreFields (k + 1) ∷ [])
more_fields_mark k mark.CloseBrace = Go None []
more_fields_mark k _ = Stop

abbrev pub body : ℕ → List Symbol
body k = Gives 0 ∷ Mk mark.OpenBrace ∷ Locals 0 k ∷ []

abbrev pub params_mark : Mark → Move
params_mark mark.Close = Go None (body 0)
params_mark _ = Stop

abbrev pub more_params_mark : ℕ → Mark → Move
more_params_mark k mark.Comma = Go None (Word (counted k parameter_limit limit.Param None) ∷ Mk mark.Colon ∷ Ty None 0 ∷ MoreParams (k + 1) ∷ [])
more_params_mark k mark.Close = Go None (body k)
more_params_mark k _ = Stop

-- instructions and blocks

abbrev pub label_move : ℕ → ℕ → List ℕ → Move
label_move k n w = Go (or_else (counted k block_limit limit.Block None) (word_excess w)) (Mk mark.Colon ∷ Insts (k + 1) n ∷ [])

abbrev pub first_move : ℕ → ℕ → Token → Move
first_move k n (Name w) = label_move k n w
first_move k n _ = Stop

abbrev pub inst_excess : ℕ → Option Excess
inst_excess n = counted n instruction_limit limit.Instruction None

abbrev pub inst_key : ℕ → ℕ → Keyword → Move
inst_key k n key.Store = Go (inst_excess n) (Word None ∷ Mk mark.Comma ∷ Word None ∷ Insts k (n + 1) ∷ [])
inst_key k n key.Call = Go (inst_excess n) (Word None ∷ Mk mark.Open ∷ Args ∷ Insts k (n + 1) ∷ [])
inst_key k n key.Icall = Go (inst_excess n) (Word None ∷ Mk mark.Open ∷ Args ∷ Insts k (n + 1) ∷ [])
inst_key k n key.Jump = Go None (Word None ∷ Blocks k n ∷ [])
inst_key k n key.Branch = Go None (Word None ∷ Word None ∷ Word None ∷ Blocks k n ∷ [])
inst_key k n key.Ret = Go None (AfterRet k n ∷ [])
inst_key k n _ = Stop

abbrev pub inst_move : ℕ → ℕ → Token → Move
inst_move k n (Name w) = Go (or_else (inst_excess n) (word_excess w)) (Mk mark.Equal ∷ Value ∷ Insts k (n + 1) ∷ [])
inst_move k n (Key word) = inst_key k n word
inst_move k n _ = Stop

abbrev pub blocks_mark : Mark → Move
blocks_mark mark.CloseBrace = Go None []
blocks_mark _ = Stop

abbrev pub blocks_move : ℕ → ℕ → Token → Move
blocks_move k n (Name w) = label_move k n w
blocks_move k n (Sign m) = blocks_mark m
blocks_move k n _ = Stop

-- behind `ret` a name is a label where a colon follows it, and else a register
abbrev pub after_ret_move : ℕ → ℕ → Token → Bool → Move
after_ret_move k n (Name w) true = label_move k n w
after_ret_move k n (Name w) false = Go (word_excess w) (Blocks k n ∷ [])
after_ret_move k n (Sign m) _ = blocks_mark m
after_ret_move k n _ _ = Stop

abbrev pub two_words : List Symbol
two_words = Word None ∷ Mk mark.Comma ∷ Word None ∷ []

abbrev pub three_words : List Symbol
three_words = Word None ∷ Word None ∷ Word None ∷ []

abbrev pub call_rest : List Symbol
call_rest = Word None ∷ Mk mark.Open ∷ Args ∷ []

abbrev pub value_key : Keyword → Move
value_key key.Addr = Go None (Word None ∷ [])
value_key key.Faddr = Go None (Word None ∷ [])
value_key key.Elem = Go None two_words
value_key key.Field = Go None two_words
value_key key.Load = Go None (Word None ∷ [])
value_key key.Call = Go None call_rest
value_key key.Icall = Go None call_rest
value_key _ = Stop

abbrev pub value_move : Token → Move
value_move (Number n) = Go (number_excess n None) []
value_move (Name w) = Go (word_excess w) []
value_move (Operation op) = Go None two_words
value_move (Comparison op) = Go None two_words
value_move (Key k) = value_key k
value_move _ = Stop

abbrev pub args_mark : Mark → Move
args_mark mark.Close = Go None []
args_mark _ = Stop

abbrev pub args_move : Token → Move
args_move (Sign m) = args_mark m
args_move (Name w) = Go (word_excess w) (MoreArgs 1 ∷ [])
args_move _ = Stop

abbrev pub more_args_mark : ℕ → Mark → Move
more_args_mark k mark.Comma = Go None (Word (counted k parameter_limit limit.Param None) ∷ MoreArgs (k + 1) ∷ [])
more_args_mark k mark.Close = Go None []
more_args_mark k _ = Stop

-- declarations

abbrev pub regs_key : ℕ → Keyword → Move
regs_key k key.Reg = Go (counted k register_limit limit.Register None) (Word None ∷ Mk mark.Colon ∷ Ty None 0 ∷ Regs (k + 1) ∷ [])
regs_key k _ = Stop

abbrev pub regs_move : ℕ → Token → Move
regs_move k (Key w) = regs_key k w
regs_move k (Name w) = label_move 0 0 w
regs_move k _ = Stop

abbrev pub locals_key : ℕ → ℕ → Keyword → Move
locals_key k p key.Local = Go (counted k local_limit limit.Local None) (Word None ∷ Mk mark.Colon ∷ Ty None 0 ∷ Locals (k + 1) p ∷ [])
locals_key k p w = regs_key p w

abbrev pub locals_move : ℕ → ℕ → Token → Move
locals_move k p (Key w) = locals_key k p w
locals_move k p (Name w) = label_move 0 0 w
locals_move k p _ = Stop

abbrev pub funcs_key : ℕ → ℕ → Keyword → Move
funcs_key k n key.Func = Go (counted n function_limit limit.Function None) (Word None ∷ Mk mark.Open ∷ Params ∷ Funcs k (n + 1) ∷ [])
funcs_key k n _ = Stop

abbrev pub funcs_mark : ℕ → ℕ → Mark → Move
funcs_mark k n mark.CloseBrace = Go None (Files k n ∷ [])
funcs_mark k n _ = Stop

abbrev pub files_key : ℕ → ℕ → Keyword → Move
files_key k n key.File = Go (counted k file_limit limit.File None) (Word None ∷ Mk mark.OpenBrace ∷ Funcs (k + 1) n ∷ [])
files_key k n _ = Stop

abbrev pub global_excess : ℕ → Option Excess
global_excess k = counted k global_limit limit.Global None

-- what stands behind the first words of a declaration
abbrev pub global_rest : ℕ → List Symbol
global_rest k = Word None ∷ Mk mark.Colon ∷ Ty None 0 ∷ Init (k + 1) ∷ []

abbrev pub periph_rest : List Symbol
periph_rest = Word None ∷ Num ∷ Num ∷ []

abbrev pub struct_rest : List Symbol
struct_rest = Word None ∷ Mk mark.OpenBrace ∷ Word None ∷ Mk mark.Colon ∷ Ty None 0 ∷ MoreFields 1 ∷ []

abbrev pub func_rest : List Symbol
func_rest = Word None ∷ Mk mark.Open ∷ Params ∷ []

abbrev pub globals_key : ℕ → Keyword → Move
globals_key k key.Const = Go (global_excess k) (Kw key.Global ∷ Word None ∷ Mk mark.Colon ∷ Ty None 0 ∷ Init (k + 1) ∷ [])
globals_key k key.Global = Go (global_excess k) (Word None ∷ Mk mark.Colon ∷ Ty None 0 ∷ Init (k + 1) ∷ [])
globals_key k w = files_key 0 0 w

abbrev pub init_mark : ℕ → Mark → Move
init_mark k mark.Equal = Go None (Mk mark.OpenBrace ∷ CellAt 0 ∷ MoreCells 1 ∷ Globals k ∷ [])
init_mark k _ = Stop

abbrev pub cell_excess : ℕ → Option Excess
cell_excess k = counted k cell_limit limit.Cell None

abbrev pub cell_key : ℕ → Keyword → Move
cell_key k key.Fn = Go (cell_excess k) (Word None ∷ [])
cell_key k key.Addr = Go (cell_excess k) (Word None ∷ [])
cell_key k _ = Stop

abbrev pub cell_move : ℕ → Token → Move
cell_move k (Number n) = Go (number_excess n (cell_excess k)) []
cell_move k (Key w) = cell_key k w
cell_move k _ = Stop

abbrev pub more_cells_mark : ℕ → Mark → Move
more_cells_mark k mark.Comma = Go None (CellAt k ∷ MoreCells (k + 1) ∷ [])
more_cells_mark k mark.CloseBrace = Go None []
more_cells_mark k _ = Stop

abbrev pub periphs_key : ℕ → Keyword → Move
periphs_key k key.Periph = Go (counted k periph_limit limit.Periph None) (Word None ∷ Num ∷ Num ∷ Periphs (k + 1) ∷ [])
periphs_key k w = globals_key 0 w

abbrev pub structs_key : ℕ → Keyword → Move
structs_key k key.Struct = Go (counted k struct_limit limit.Struct None) (Word None ∷ Mk mark.OpenBrace ∷ Word None ∷ Mk mark.Colon ∷ Ty None 0 ∷ MoreFields 1 ∷ Structs (k + 1) ∷ [])
structs_key k w = periphs_key 0 w

-- what a token makes of what is expected, where a colon follows the token or does not
abbrev pub move : Symbol → Token → Bool → Move
move (Word x) (Name w) c = Go (or_else x (word_excess w)) []
move (Word x) _ c = Stop
move (Mk m) (Sign n) c = only_mark m n
move (Mk m) _ c = Stop
move (Kw k) (Key w) c = only_global w
move (Kw k) _ c = Stop
move Num (Number n) c = Go (number_excess n None) []
move Num _ c = Stop
move Len (Number n) c = Go (length_excess n) []
move Len _ c = Stop
move (Ty x d) t c = type_move x d t
move (Row d) t c = row_move d t
move (MoreRow d k) (Sign m) c = more_row_mark d k m
move (MoreRow d k) _ c = Stop
move (Gives d) (Sign m) c = gives_mark d m
move (Gives d) _ c = Skip
move (MoreFields k) (Sign m) c = more_fields_mark k m
move (MoreFields k) _ c = Stop
move Params (Sign m) c = params_mark m
move Params (Name w) c = Go (word_excess w) (Mk mark.Colon ∷ Ty None 0 ∷ MoreParams 1 ∷ [])
move Params _ c = Stop
move (MoreParams k) (Sign m) c = more_params_mark k m
move (MoreParams k) _ c = Stop
move (Locals k p) t c = locals_move k p t
move (Regs k) t c = regs_move k t
move (First k n) t c = first_move k n t
move (Insts k n) t c = inst_move k n t
move (AfterRet k n) t c = after_ret_move k n t c
move (Blocks k n) t c = blocks_move k n t
move Value t c = value_move t
move Args t c = args_move t
move (MoreArgs k) (Sign m) c = more_args_mark k m
move (MoreArgs k) _ c = Stop
move (Funcs k n) (Key w) c = funcs_key k n w
move (Funcs k n) (Sign m) c = funcs_mark k n m
move (Funcs k n) _ c = Stop
move (Files k n) (Key w) c = files_key k n w
move (Files k n) _ c = Stop
move (Globals k) (Key w) c = globals_key k w
move (Globals k) _ c = Stop
move (Init k) (Key w) c = globals_key k w
move (Init k) (Sign m) c = init_mark k m
move (Init k) _ c = Stop
move (CellAt k) t c = cell_move k t
move (MoreCells k) (Sign m) c = more_cells_mark k m
move (MoreCells k) _ c = Stop
move (Periphs k) (Key w) c = periphs_key k w
move (Periphs k) _ c = Stop
move (Structs k) (Key w) c = structs_key k w
move (Structs k) _ c = Stop

-- whether a text may end where this is expected
abbrev pub is_last : Symbol → Bool
is_last (Files k n) = true
is_last (Globals k) = true
is_last (Init k) = true
is_last (Periphs k) = true
is_last (Structs k) = true
is_last _ = false

abbrev pub may_end : List Symbol → Bool
may_end [] = true
may_end (Gives d ∷ st) = may_end st
may_end (s ∷ st) = is_last s

-- what a token makes of all that is expected
pub data Progress : Type 0 where
  To : (excess : Option Excess) → (stack : List Symbol) → Progress
  Stuck : Progress

abbrev pub step : List Symbol → Token → Bool → Progress
step [] t c = Stuck
step (s ∷ st) t c = elim (move s t c) [ Go x more ↦ To x (more ++ st) | Stop ↦ Stuck | Skip ↦ step st t c ]

abbrev pub fault_at : Placed → Excess → Fault
fault_at p x = record { kind = kind.Exceeds x; left = p.left }

abbrev pub syntax_at : Placed → Fault
syntax_at p = record { kind = kind.Syntax; left = p.left }

-- the first fault of tokens that stand where these are expected
abbrev pub fault : List Symbol → List Placed → Option Fault
fault st [] = None
fault st (p ∷ ps) =
    elim (p.found) [
      | Is t ↦ elim (step st t (colon_first ps)) [
        | To x more ↦ elim x [ None ↦ fault more ps | Some e ↦ Some (fault_at p e) ]
        | Stuck ↦ Some (syntax_at p)
      ]
      | Bad ↦ Some (syntax_at p)
      | End ↦ (if may_end st then None else Some (syntax_at p))
    ]
