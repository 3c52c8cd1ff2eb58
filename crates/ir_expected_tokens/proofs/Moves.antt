-- A token makes of what is expected the same in the table and in the machine that reads texts.
use Rattle.std.proofs.Common.{◌≡◌, ℕ, [], ◌∷◌, ◌++◌, List, Bool, true, false, refl, Option, Some, None}
use Rattle.ir_model.specs.declared.firmware.BinOp.{BinOp}
use Rattle.ir_model.specs.declared.firmware.CmpOp.{CmpOp}
use Rattle.ir_model.specs.declared.token.Excess.{Excess}
use Rattle.ir_model.specs.declared.token.Keyword.{Keyword}
use Rattle.ir_model.specs.declared.token.Keyword.TheVariants as key
use Rattle.ir_model.specs.declared.token.Mark.{Mark}
use Rattle.ir_model.specs.declared.token.Mark.TheVariants as mark
use Rattle.ir_model.specs.Tokens as model
use Rattle.ir_reader.specs.Machine
use Rattle.ir_reader.specs.Machine.{Move, Go, Stop, Skip, move, may_end}
use Rattle.ir_expected_tokens.specs.declared.grammar.Symbol.{Symbol}
use Rattle.ir_expected_tokens.specs.declared.grammar.Class.TheVariants as class
use Rattle.ir_expected_tokens.specs.declared.grammar.Symbol.TheVariants.{Token}
use Rattle.ir_expected_tokens.specs.Expected.{taken}
use Rattle.ir_expected_tokens.specs.Stuck.{token_class}
use Rattle.ir_expected_tokens.specs.Uncounted.{uncounted, all_uncounted}

-- what is taken, and what is where nothing stands for the first symbol, by a move of the machine before these symbols
abbrev pub Follows : Move → (all others : Option (List Symbol)) → List Symbol → Type 0
Follows (Go x more) all others us = all ≡ Some (all_uncounted more ++ us)
Follows Stop all others us = all ≡ None
Follows Skip all others us = all ≡ others

abbrev pub At : Machine.Symbol → model.Token → Bool → List Symbol → Type 0
At s t c us = Follows (move s t c) (taken (uncounted s ++ us) (token_class t) c) (taken us (token_class t) c) us

kw_key : (word : Keyword) (k : Keyword) (c : Bool) (us : List Symbol) → At (Machine.Kw word) (model.Key k) c us
kw_key word key.Struct c us = refl
kw_key word _ c us = refl

kw_mark : (word : Keyword) (m : Mark) (c : Bool) (us : List Symbol) → At (Machine.Kw word) (model.Sign m) c us
kw_mark word mark.OpenBrace c us = refl
kw_mark word _ c us = refl

num_key : (k : Keyword) (c : Bool) (us : List Symbol) → At Machine.Num (model.Key k) c us
num_key key.Struct c us = refl
num_key _ c us = refl

num_mark : (m : Mark) (c : Bool) (us : List Symbol) → At Machine.Num (model.Sign m) c us
num_mark mark.OpenBrace c us = refl
num_mark _ c us = refl

len_key : (k : Keyword) (c : Bool) (us : List Symbol) → At Machine.Len (model.Key k) c us
len_key key.Struct c us = refl
len_key _ c us = refl

len_mark : (m : Mark) (c : Bool) (us : List Symbol) → At Machine.Len (model.Sign m) c us
len_mark mark.OpenBrace c us = refl
len_mark _ c us = refl

word_key : (x : Option Excess) (k : Keyword) (c : Bool) (us : List Symbol) → At (Machine.Word x) (model.Key k) c us
word_key x key.Struct c us = refl
word_key x _ c us = refl

word_mark : (x : Option Excess) (m : Mark) (c : Bool) (us : List Symbol) → At (Machine.Word x) (model.Sign m) c us
word_mark x mark.OpenBrace c us = refl
word_mark x _ c us = refl

ty_key : (x : Option Excess) (d : ℕ) (k : Keyword) (c : Bool) (us : List Symbol) → At (Machine.Ty x d) (model.Key k) c us
ty_key x d key.Struct c us = refl
ty_key x d _ c us = refl

ty_mark : (x : Option Excess) (d : ℕ) (m : Mark) (c : Bool) (us : List Symbol) → At (Machine.Ty x d) (model.Sign m) c us
ty_mark x d mark.OpenBrace c us = refl
ty_mark x d _ c us = refl

row_key : (d : ℕ) (k : Keyword) (c : Bool) (us : List Symbol) → At (Machine.Row d) (model.Key k) c us
row_key d key.Struct c us = refl
row_key d _ c us = refl

row_mark : (d : ℕ) (m : Mark) (c : Bool) (us : List Symbol) → At (Machine.Row d) (model.Sign m) c us
row_mark d mark.OpenBrace c us = refl
row_mark d _ c us = refl

more_row_key : (d : ℕ) (n : ℕ) (k : Keyword) (c : Bool) (us : List Symbol) → At (Machine.MoreRow d n) (model.Key k) c us
more_row_key d n key.Struct c us = refl
more_row_key d n _ c us = refl

more_row_mark : (d : ℕ) (n : ℕ) (m : Mark) (c : Bool) (us : List Symbol) → At (Machine.MoreRow d n) (model.Sign m) c us
more_row_mark d n mark.OpenBrace c us = refl
more_row_mark d n _ c us = refl

gives_key : (d : ℕ) (k : Keyword) (c : Bool) (us : List Symbol) → At (Machine.Gives d) (model.Key k) c us
gives_key d key.Struct c us = refl
gives_key d _ c us = refl

gives_mark : (d : ℕ) (m : Mark) (c : Bool) (us : List Symbol) → At (Machine.Gives d) (model.Sign m) c us
gives_mark d mark.OpenBrace c us = refl
gives_mark d _ c us = refl

more_fields_key : (n : ℕ) (k : Keyword) (c : Bool) (us : List Symbol) → At (Machine.MoreFields n) (model.Key k) c us
more_fields_key n key.Struct c us = refl
more_fields_key n _ c us = refl

more_fields_mark : (n : ℕ) (m : Mark) (c : Bool) (us : List Symbol) → At (Machine.MoreFields n) (model.Sign m) c us
more_fields_mark n mark.OpenBrace c us = refl
more_fields_mark n _ c us = refl

params_key : (k : Keyword) (c : Bool) (us : List Symbol) → At Machine.Params (model.Key k) c us
params_key key.Struct c us = refl
params_key _ c us = refl

params_mark : (m : Mark) (c : Bool) (us : List Symbol) → At Machine.Params (model.Sign m) c us
params_mark mark.OpenBrace c us = refl
params_mark _ c us = refl

more_params_key : (n : ℕ) (k : Keyword) (c : Bool) (us : List Symbol) → At (Machine.MoreParams n) (model.Key k) c us
more_params_key n key.Struct c us = refl
more_params_key n _ c us = refl

more_params_mark : (n : ℕ) (m : Mark) (c : Bool) (us : List Symbol) → At (Machine.MoreParams n) (model.Sign m) c us
more_params_mark n mark.OpenBrace c us = refl
more_params_mark n _ c us = refl

locals_key : (n : ℕ) (p : ℕ) (k : Keyword) (c : Bool) (us : List Symbol) → At (Machine.Locals n p) (model.Key k) c us
locals_key n p key.Struct c us = refl
locals_key n p _ c us = refl

locals_mark : (n : ℕ) (p : ℕ) (m : Mark) (c : Bool) (us : List Symbol) → At (Machine.Locals n p) (model.Sign m) c us
locals_mark n p mark.OpenBrace c us = refl
locals_mark n p _ c us = refl

regs_key : (n : ℕ) (k : Keyword) (c : Bool) (us : List Symbol) → At (Machine.Regs n) (model.Key k) c us
regs_key n key.Struct c us = refl
regs_key n _ c us = refl

regs_mark : (n : ℕ) (m : Mark) (c : Bool) (us : List Symbol) → At (Machine.Regs n) (model.Sign m) c us
regs_mark n mark.OpenBrace c us = refl
regs_mark n _ c us = refl

first_key : (b : ℕ) (n : ℕ) (k : Keyword) (c : Bool) (us : List Symbol) → At (Machine.First b n) (model.Key k) c us
first_key b n key.Struct c us = refl
first_key b n _ c us = refl

first_mark : (b : ℕ) (n : ℕ) (m : Mark) (c : Bool) (us : List Symbol) → At (Machine.First b n) (model.Sign m) c us
first_mark b n mark.OpenBrace c us = refl
first_mark b n _ c us = refl

insts_key : (b : ℕ) (n : ℕ) (k : Keyword) (c : Bool) (us : List Symbol) → At (Machine.Insts b n) (model.Key k) c us
insts_key b n key.Struct c us = refl
insts_key b n _ c us = refl

insts_mark : (b : ℕ) (n : ℕ) (m : Mark) (c : Bool) (us : List Symbol) → At (Machine.Insts b n) (model.Sign m) c us
insts_mark b n mark.OpenBrace c us = refl
insts_mark b n _ c us = refl

after_ret_key : (b : ℕ) (n : ℕ) (k : Keyword) (c : Bool) (us : List Symbol) → At (Machine.AfterRet b n) (model.Key k) c us
after_ret_key b n key.Struct c us = refl
after_ret_key b n _ c us = refl

after_ret_mark : (b : ℕ) (n : ℕ) (m : Mark) (c : Bool) (us : List Symbol) → At (Machine.AfterRet b n) (model.Sign m) c us
after_ret_mark b n mark.OpenBrace c us = refl
after_ret_mark b n _ c us = refl

blocks_key : (b : ℕ) (n : ℕ) (k : Keyword) (c : Bool) (us : List Symbol) → At (Machine.Blocks b n) (model.Key k) c us
blocks_key b n key.Struct c us = refl
blocks_key b n _ c us = refl

blocks_mark : (b : ℕ) (n : ℕ) (m : Mark) (c : Bool) (us : List Symbol) → At (Machine.Blocks b n) (model.Sign m) c us
blocks_mark b n mark.OpenBrace c us = refl
blocks_mark b n _ c us = refl

value_key : (k : Keyword) (c : Bool) (us : List Symbol) → At Machine.Value (model.Key k) c us
value_key key.Struct c us = refl
value_key _ c us = refl

value_mark : (m : Mark) (c : Bool) (us : List Symbol) → At Machine.Value (model.Sign m) c us
value_mark mark.OpenBrace c us = refl
value_mark _ c us = refl

args_key : (k : Keyword) (c : Bool) (us : List Symbol) → At Machine.Args (model.Key k) c us
args_key key.Struct c us = refl
args_key _ c us = refl

args_mark : (m : Mark) (c : Bool) (us : List Symbol) → At Machine.Args (model.Sign m) c us
args_mark mark.OpenBrace c us = refl
args_mark _ c us = refl

more_args_key : (n : ℕ) (k : Keyword) (c : Bool) (us : List Symbol) → At (Machine.MoreArgs n) (model.Key k) c us
more_args_key n key.Struct c us = refl
more_args_key n _ c us = refl

more_args_mark : (n : ℕ) (m : Mark) (c : Bool) (us : List Symbol) → At (Machine.MoreArgs n) (model.Sign m) c us
more_args_mark n mark.OpenBrace c us = refl
more_args_mark n _ c us = refl

funcs_key : (f : ℕ) (n : ℕ) (k : Keyword) (c : Bool) (us : List Symbol) → At (Machine.Funcs f n) (model.Key k) c us
funcs_key f n key.Struct c us = refl
funcs_key f n _ c us = refl

funcs_mark : (f : ℕ) (n : ℕ) (m : Mark) (c : Bool) (us : List Symbol) → At (Machine.Funcs f n) (model.Sign m) c us
funcs_mark f n mark.OpenBrace c us = refl
funcs_mark f n _ c us = refl

files_key : (f : ℕ) (n : ℕ) (k : Keyword) (c : Bool) (us : List Symbol) → At (Machine.Files f n) (model.Key k) c us
files_key f n key.Struct c us = refl
files_key f n _ c us = refl

files_mark : (f : ℕ) (n : ℕ) (m : Mark) (c : Bool) (us : List Symbol) → At (Machine.Files f n) (model.Sign m) c us
files_mark f n mark.OpenBrace c us = refl
files_mark f n _ c us = refl

globals_key : (n : ℕ) (k : Keyword) (c : Bool) (us : List Symbol) → At (Machine.Globals n) (model.Key k) c us
globals_key n key.Struct c us = refl
globals_key n _ c us = refl

globals_mark : (n : ℕ) (m : Mark) (c : Bool) (us : List Symbol) → At (Machine.Globals n) (model.Sign m) c us
globals_mark n mark.OpenBrace c us = refl
globals_mark n _ c us = refl

init_key : (n : ℕ) (k : Keyword) (c : Bool) (us : List Symbol) → At (Machine.Init n) (model.Key k) c us
init_key n key.Struct c us = refl
init_key n _ c us = refl

init_mark : (n : ℕ) (m : Mark) (c : Bool) (us : List Symbol) → At (Machine.Init n) (model.Sign m) c us
init_mark n mark.OpenBrace c us = refl
init_mark n _ c us = refl

cell_at_key : (n : ℕ) (k : Keyword) (c : Bool) (us : List Symbol) → At (Machine.CellAt n) (model.Key k) c us
cell_at_key n key.Struct c us = refl
cell_at_key n _ c us = refl

cell_at_mark : (n : ℕ) (m : Mark) (c : Bool) (us : List Symbol) → At (Machine.CellAt n) (model.Sign m) c us
cell_at_mark n mark.OpenBrace c us = refl
cell_at_mark n _ c us = refl

more_cells_key : (n : ℕ) (k : Keyword) (c : Bool) (us : List Symbol) → At (Machine.MoreCells n) (model.Key k) c us
more_cells_key n key.Struct c us = refl
more_cells_key n _ c us = refl

more_cells_mark : (n : ℕ) (m : Mark) (c : Bool) (us : List Symbol) → At (Machine.MoreCells n) (model.Sign m) c us
more_cells_mark n mark.OpenBrace c us = refl
more_cells_mark n _ c us = refl

periphs_key : (n : ℕ) (k : Keyword) (c : Bool) (us : List Symbol) → At (Machine.Periphs n) (model.Key k) c us
periphs_key n key.Struct c us = refl
periphs_key n _ c us = refl

periphs_mark : (n : ℕ) (m : Mark) (c : Bool) (us : List Symbol) → At (Machine.Periphs n) (model.Sign m) c us
periphs_mark n mark.OpenBrace c us = refl
periphs_mark n _ c us = refl

structs_key : (n : ℕ) (k : Keyword) (c : Bool) (us : List Symbol) → At (Machine.Structs n) (model.Key k) c us
structs_key n key.Struct c us = refl
structs_key n _ c us = refl

structs_mark : (n : ℕ) (m : Mark) (c : Bool) (us : List Symbol) → At (Machine.Structs n) (model.Sign m) c us
structs_mark n mark.OpenBrace c us = refl
structs_mark n _ c us = refl

mk_name : (m : Mark) (w : List ℕ) (c : Bool) (us : List Symbol) → At (Machine.Mk m) (model.Name w) c us
mk_name mark.OpenBrace w c us = refl
mk_name _ w c us = refl

mk_number : (m : Mark) (n : ℕ) (c : Bool) (us : List Symbol) → At (Machine.Mk m) (model.Number n) c us
mk_number mark.OpenBrace n c us = refl
mk_number _ n c us = refl

mk_operation : (m : Mark) (o : BinOp) (c : Bool) (us : List Symbol) → At (Machine.Mk m) (model.Operation o) c us
mk_operation mark.OpenBrace o c us = refl
mk_operation _ o c us = refl

mk_comparison : (m : Mark) (o : CmpOp) (c : Bool) (us : List Symbol) → At (Machine.Mk m) (model.Comparison o) c us
mk_comparison mark.OpenBrace o c us = refl
mk_comparison _ o c us = refl

mk_key : (m : Mark) (k : Keyword) (c : Bool) (us : List Symbol) → At (Machine.Mk m) (model.Key k) c us
mk_key mark.OpenBrace key.Struct c us = refl
mk_key mark.OpenBrace _ c us = refl
mk_key mark.CloseBrace key.Struct c us = refl
mk_key mark.CloseBrace _ c us = refl
mk_key mark.Open key.Struct c us = refl
mk_key mark.Open _ c us = refl
mk_key mark.Close key.Struct c us = refl
mk_key mark.Close _ c us = refl
mk_key mark.OpenSquare key.Struct c us = refl
mk_key mark.OpenSquare _ c us = refl
mk_key mark.CloseSquare key.Struct c us = refl
mk_key mark.CloseSquare _ c us = refl
mk_key mark.Comma key.Struct c us = refl
mk_key mark.Comma _ c us = refl
mk_key mark.Colon key.Struct c us = refl
mk_key mark.Colon _ c us = refl
mk_key mark.Equal key.Struct c us = refl
mk_key mark.Equal _ c us = refl
mk_key mark.Star key.Struct c us = refl
mk_key mark.Star _ c us = refl
mk_key mark.Arrow key.Struct c us = refl
mk_key mark.Arrow _ c us = refl

mk_mark : (m n : Mark) (c : Bool) (us : List Symbol) → At (Machine.Mk m) (model.Sign n) c us
mk_mark mark.OpenBrace mark.OpenBrace c us = refl
mk_mark mark.OpenBrace _ c us = refl
mk_mark mark.CloseBrace mark.OpenBrace c us = refl
mk_mark mark.CloseBrace _ c us = refl
mk_mark mark.Open mark.OpenBrace c us = refl
mk_mark mark.Open _ c us = refl
mk_mark mark.Close mark.OpenBrace c us = refl
mk_mark mark.Close _ c us = refl
mk_mark mark.OpenSquare mark.OpenBrace c us = refl
mk_mark mark.OpenSquare _ c us = refl
mk_mark mark.CloseSquare mark.OpenBrace c us = refl
mk_mark mark.CloseSquare _ c us = refl
mk_mark mark.Comma mark.OpenBrace c us = refl
mk_mark mark.Comma _ c us = refl
mk_mark mark.Colon mark.OpenBrace c us = refl
mk_mark mark.Colon _ c us = refl
mk_mark mark.Equal mark.OpenBrace c us = refl
mk_mark mark.Equal _ c us = refl
mk_mark mark.Star mark.OpenBrace c us = refl
mk_mark mark.Star _ c us = refl
mk_mark mark.Arrow mark.OpenBrace c us = refl
mk_mark mark.Arrow _ c us = refl

pub move_follows : (s : Machine.Symbol) (t : model.Token) (c : Bool) (us : List Symbol) → At s t c us
move_follows (Machine.Mk m) (model.Name w) c us = mk_name m w c us
move_follows (Machine.Mk m) (model.Number n) c us = mk_number m n c us
move_follows (Machine.Mk m) (model.Key k) c us = mk_key m k c us
move_follows (Machine.Mk m) (model.Operation o) c us = mk_operation m o c us
move_follows (Machine.Mk m) (model.Comparison o) c us = mk_comparison m o c us
move_follows (Machine.Mk m) (model.Sign n) c us = mk_mark m n c us
move_follows (Machine.Kw word) (model.Name w) c us = refl
move_follows (Machine.Kw word) (model.Number i) c us = refl
move_follows (Machine.Kw word) (model.Key k) c us = kw_key word k c us
move_follows (Machine.Kw word) (model.Operation o) c us = refl
move_follows (Machine.Kw word) (model.Comparison o) c us = refl
move_follows (Machine.Kw word) (model.Sign m) c us = kw_mark word m c us
move_follows Machine.Num (model.Name w) c us = refl
move_follows Machine.Num (model.Number i) c us = refl
move_follows Machine.Num (model.Key k) c us = num_key k c us
move_follows Machine.Num (model.Operation o) c us = refl
move_follows Machine.Num (model.Comparison o) c us = refl
move_follows Machine.Num (model.Sign m) c us = num_mark m c us
move_follows Machine.Len (model.Name w) c us = refl
move_follows Machine.Len (model.Number i) c us = refl
move_follows Machine.Len (model.Key k) c us = len_key k c us
move_follows Machine.Len (model.Operation o) c us = refl
move_follows Machine.Len (model.Comparison o) c us = refl
move_follows Machine.Len (model.Sign m) c us = len_mark m c us
move_follows (Machine.Word x) (model.Name w) c us = refl
move_follows (Machine.Word x) (model.Number i) c us = refl
move_follows (Machine.Word x) (model.Key k) c us = word_key x k c us
move_follows (Machine.Word x) (model.Operation o) c us = refl
move_follows (Machine.Word x) (model.Comparison o) c us = refl
move_follows (Machine.Word x) (model.Sign m) c us = word_mark x m c us
move_follows (Machine.Ty x d) (model.Name w) c us = refl
move_follows (Machine.Ty x d) (model.Number i) c us = refl
move_follows (Machine.Ty x d) (model.Key k) c us = ty_key x d k c us
move_follows (Machine.Ty x d) (model.Operation o) c us = refl
move_follows (Machine.Ty x d) (model.Comparison o) c us = refl
move_follows (Machine.Ty x d) (model.Sign m) c us = ty_mark x d m c us
move_follows (Machine.Row d) (model.Name w) c us = refl
move_follows (Machine.Row d) (model.Number i) c us = refl
move_follows (Machine.Row d) (model.Key k) c us = row_key d k c us
move_follows (Machine.Row d) (model.Operation o) c us = refl
move_follows (Machine.Row d) (model.Comparison o) c us = refl
move_follows (Machine.Row d) (model.Sign m) c us = row_mark d m c us
move_follows (Machine.MoreRow d n) (model.Name w) c us = refl
move_follows (Machine.MoreRow d n) (model.Number i) c us = refl
move_follows (Machine.MoreRow d n) (model.Key k) c us = more_row_key d n k c us
move_follows (Machine.MoreRow d n) (model.Operation o) c us = refl
move_follows (Machine.MoreRow d n) (model.Comparison o) c us = refl
move_follows (Machine.MoreRow d n) (model.Sign m) c us = more_row_mark d n m c us
move_follows (Machine.Gives d) (model.Name w) c us = refl
move_follows (Machine.Gives d) (model.Number i) c us = refl
move_follows (Machine.Gives d) (model.Key k) c us = gives_key d k c us
move_follows (Machine.Gives d) (model.Operation o) c us = refl
move_follows (Machine.Gives d) (model.Comparison o) c us = refl
move_follows (Machine.Gives d) (model.Sign m) c us = gives_mark d m c us
move_follows (Machine.MoreFields n) (model.Name w) c us = refl
move_follows (Machine.MoreFields n) (model.Number i) c us = refl
move_follows (Machine.MoreFields n) (model.Key k) c us = more_fields_key n k c us
move_follows (Machine.MoreFields n) (model.Operation o) c us = refl
move_follows (Machine.MoreFields n) (model.Comparison o) c us = refl
move_follows (Machine.MoreFields n) (model.Sign m) c us = more_fields_mark n m c us
move_follows Machine.Params (model.Name w) c us = refl
move_follows Machine.Params (model.Number i) c us = refl
move_follows Machine.Params (model.Key k) c us = params_key k c us
move_follows Machine.Params (model.Operation o) c us = refl
move_follows Machine.Params (model.Comparison o) c us = refl
move_follows Machine.Params (model.Sign m) c us = params_mark m c us
move_follows (Machine.MoreParams n) (model.Name w) c us = refl
move_follows (Machine.MoreParams n) (model.Number i) c us = refl
move_follows (Machine.MoreParams n) (model.Key k) c us = more_params_key n k c us
move_follows (Machine.MoreParams n) (model.Operation o) c us = refl
move_follows (Machine.MoreParams n) (model.Comparison o) c us = refl
move_follows (Machine.MoreParams n) (model.Sign m) c us = more_params_mark n m c us
move_follows (Machine.Locals n p) (model.Name w) c us = refl
move_follows (Machine.Locals n p) (model.Number i) c us = refl
move_follows (Machine.Locals n p) (model.Key k) c us = locals_key n p k c us
move_follows (Machine.Locals n p) (model.Operation o) c us = refl
move_follows (Machine.Locals n p) (model.Comparison o) c us = refl
move_follows (Machine.Locals n p) (model.Sign m) c us = locals_mark n p m c us
move_follows (Machine.Regs n) (model.Name w) c us = refl
move_follows (Machine.Regs n) (model.Number i) c us = refl
move_follows (Machine.Regs n) (model.Key k) c us = regs_key n k c us
move_follows (Machine.Regs n) (model.Operation o) c us = refl
move_follows (Machine.Regs n) (model.Comparison o) c us = refl
move_follows (Machine.Regs n) (model.Sign m) c us = regs_mark n m c us
move_follows (Machine.First b n) (model.Name w) c us = refl
move_follows (Machine.First b n) (model.Number i) c us = refl
move_follows (Machine.First b n) (model.Key k) c us = first_key b n k c us
move_follows (Machine.First b n) (model.Operation o) c us = refl
move_follows (Machine.First b n) (model.Comparison o) c us = refl
move_follows (Machine.First b n) (model.Sign m) c us = first_mark b n m c us
move_follows (Machine.Insts b n) (model.Name w) c us = refl
move_follows (Machine.Insts b n) (model.Number i) c us = refl
move_follows (Machine.Insts b n) (model.Key k) c us = insts_key b n k c us
move_follows (Machine.Insts b n) (model.Operation o) c us = refl
move_follows (Machine.Insts b n) (model.Comparison o) c us = refl
move_follows (Machine.Insts b n) (model.Sign m) c us = insts_mark b n m c us
move_follows (Machine.AfterRet b n) (model.Name w) true us = refl
move_follows (Machine.AfterRet b n) (model.Name w) false us = refl
move_follows (Machine.AfterRet b n) (model.Number i) c us = refl
move_follows (Machine.AfterRet b n) (model.Key k) c us = after_ret_key b n k c us
move_follows (Machine.AfterRet b n) (model.Operation o) c us = refl
move_follows (Machine.AfterRet b n) (model.Comparison o) c us = refl
move_follows (Machine.AfterRet b n) (model.Sign m) c us = after_ret_mark b n m c us
move_follows (Machine.Blocks b n) (model.Name w) c us = refl
move_follows (Machine.Blocks b n) (model.Number i) c us = refl
move_follows (Machine.Blocks b n) (model.Key k) c us = blocks_key b n k c us
move_follows (Machine.Blocks b n) (model.Operation o) c us = refl
move_follows (Machine.Blocks b n) (model.Comparison o) c us = refl
move_follows (Machine.Blocks b n) (model.Sign m) c us = blocks_mark b n m c us
move_follows Machine.Value (model.Name w) c us = refl
move_follows Machine.Value (model.Number i) c us = refl
move_follows Machine.Value (model.Key k) c us = value_key k c us
move_follows Machine.Value (model.Operation o) c us = refl
move_follows Machine.Value (model.Comparison o) c us = refl
move_follows Machine.Value (model.Sign m) c us = value_mark m c us
move_follows Machine.Args (model.Name w) c us = refl
move_follows Machine.Args (model.Number i) c us = refl
move_follows Machine.Args (model.Key k) c us = args_key k c us
move_follows Machine.Args (model.Operation o) c us = refl
move_follows Machine.Args (model.Comparison o) c us = refl
move_follows Machine.Args (model.Sign m) c us = args_mark m c us
move_follows (Machine.MoreArgs n) (model.Name w) c us = refl
move_follows (Machine.MoreArgs n) (model.Number i) c us = refl
move_follows (Machine.MoreArgs n) (model.Key k) c us = more_args_key n k c us
move_follows (Machine.MoreArgs n) (model.Operation o) c us = refl
move_follows (Machine.MoreArgs n) (model.Comparison o) c us = refl
move_follows (Machine.MoreArgs n) (model.Sign m) c us = more_args_mark n m c us
move_follows (Machine.Funcs f n) (model.Name w) c us = refl
move_follows (Machine.Funcs f n) (model.Number i) c us = refl
move_follows (Machine.Funcs f n) (model.Key k) c us = funcs_key f n k c us
move_follows (Machine.Funcs f n) (model.Operation o) c us = refl
move_follows (Machine.Funcs f n) (model.Comparison o) c us = refl
move_follows (Machine.Funcs f n) (model.Sign m) c us = funcs_mark f n m c us
move_follows (Machine.Files f n) (model.Name w) c us = refl
move_follows (Machine.Files f n) (model.Number i) c us = refl
move_follows (Machine.Files f n) (model.Key k) c us = files_key f n k c us
move_follows (Machine.Files f n) (model.Operation o) c us = refl
move_follows (Machine.Files f n) (model.Comparison o) c us = refl
move_follows (Machine.Files f n) (model.Sign m) c us = files_mark f n m c us
move_follows (Machine.Globals n) (model.Name w) c us = refl
move_follows (Machine.Globals n) (model.Number i) c us = refl
move_follows (Machine.Globals n) (model.Key k) c us = globals_key n k c us
move_follows (Machine.Globals n) (model.Operation o) c us = refl
move_follows (Machine.Globals n) (model.Comparison o) c us = refl
move_follows (Machine.Globals n) (model.Sign m) c us = globals_mark n m c us
move_follows (Machine.Init n) (model.Name w) c us = refl
move_follows (Machine.Init n) (model.Number i) c us = refl
move_follows (Machine.Init n) (model.Key k) c us = init_key n k c us
move_follows (Machine.Init n) (model.Operation o) c us = refl
move_follows (Machine.Init n) (model.Comparison o) c us = refl
move_follows (Machine.Init n) (model.Sign m) c us = init_mark n m c us
move_follows (Machine.CellAt n) (model.Name w) c us = refl
move_follows (Machine.CellAt n) (model.Number i) c us = refl
move_follows (Machine.CellAt n) (model.Key k) c us = cell_at_key n k c us
move_follows (Machine.CellAt n) (model.Operation o) c us = refl
move_follows (Machine.CellAt n) (model.Comparison o) c us = refl
move_follows (Machine.CellAt n) (model.Sign m) c us = cell_at_mark n m c us
move_follows (Machine.MoreCells n) (model.Name w) c us = refl
move_follows (Machine.MoreCells n) (model.Number i) c us = refl
move_follows (Machine.MoreCells n) (model.Key k) c us = more_cells_key n k c us
move_follows (Machine.MoreCells n) (model.Operation o) c us = refl
move_follows (Machine.MoreCells n) (model.Comparison o) c us = refl
move_follows (Machine.MoreCells n) (model.Sign m) c us = more_cells_mark n m c us
move_follows (Machine.Periphs n) (model.Name w) c us = refl
move_follows (Machine.Periphs n) (model.Number i) c us = refl
move_follows (Machine.Periphs n) (model.Key k) c us = periphs_key n k c us
move_follows (Machine.Periphs n) (model.Operation o) c us = refl
move_follows (Machine.Periphs n) (model.Comparison o) c us = refl
move_follows (Machine.Periphs n) (model.Sign m) c us = periphs_mark n m c us
move_follows (Machine.Structs n) (model.Name w) c us = refl
move_follows (Machine.Structs n) (model.Number i) c us = refl
move_follows (Machine.Structs n) (model.Key k) c us = structs_key n k c us
move_follows (Machine.Structs n) (model.Operation o) c us = refl
move_follows (Machine.Structs n) (model.Comparison o) c us = refl
move_follows (Machine.Structs n) (model.Sign m) c us = structs_mark n m c us

mk_end : (m : Mark) (us : List Symbol) (c : Bool) → taken (Token (class.Mark m) ∷ us) class.End c ≡ None
mk_end mark.OpenBrace us c = refl
mk_end _ us c = refl

-- where no text ends in the machine, none does by the table
pub end_stops : (ss : List Machine.Symbol) (c : Bool) → may_end ss ≡ false → taken (all_uncounted ss) class.End c ≡ None
end_stops [] c h = cc
end_stops (Machine.Gives d ∷ ss) c h = end_stops ss c h
end_stops (Machine.Mk m ∷ ss) c h = mk_end m (all_uncounted ss) c
end_stops (Machine.Kw word ∷ ss) c h = refl
end_stops (Machine.Num ∷ ss) c h = refl
end_stops (Machine.Len ∷ ss) c h = refl
end_stops (Machine.Word x ∷ ss) c h = refl
end_stops (Machine.Ty x d ∷ ss) c h = refl
end_stops (Machine.Row d ∷ ss) c h = refl
end_stops (Machine.MoreRow d n ∷ ss) c h = refl
end_stops (Machine.MoreFields n ∷ ss) c h = refl
end_stops (Machine.Params ∷ ss) c h = refl
end_stops (Machine.MoreParams n ∷ ss) c h = refl
end_stops (Machine.Locals n p ∷ ss) c h = refl
end_stops (Machine.Regs n ∷ ss) c h = refl
end_stops (Machine.First b n ∷ ss) c h = refl
end_stops (Machine.Insts b n ∷ ss) c h = refl
end_stops (Machine.AfterRet b n ∷ ss) c h = refl
end_stops (Machine.Blocks b n ∷ ss) c h = refl
end_stops (Machine.Value ∷ ss) c h = refl
end_stops (Machine.Args ∷ ss) c h = refl
end_stops (Machine.MoreArgs n ∷ ss) c h = refl
end_stops (Machine.Funcs f n ∷ ss) c h = refl
end_stops (Machine.Files f n ∷ ss) c h = cc
end_stops (Machine.Globals n ∷ ss) c h = cc
end_stops (Machine.Init n ∷ ss) c h = cc
end_stops (Machine.CellAt n ∷ ss) c h = refl
end_stops (Machine.MoreCells n ∷ ss) c h = refl
end_stops (Machine.Periphs n ∷ ss) c h = cc
end_stops (Machine.Structs n ∷ ss) c h = cc
