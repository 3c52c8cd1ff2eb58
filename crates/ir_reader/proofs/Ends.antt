-- Where something that may stand or not, or once more or not, does not stand.
use Rattle.std.proofs.Common.{◌≡◌, ℕ, ◌+◌, [], ◌∷◌, List, Bool, true, false, refl, ap, Option, Some, None}
use Rattle.ir_model.specs.declared.token.Keyword.TheVariants as key
use Rattle.ir_model.specs.declared.token.Mark.TheVariants as mark
use Rattle.ir_model.specs.Tokens.{Name, Number, Key, Operation, Comparison, Sign}
use Rattle.ir_model.specs.Lines.{counted}
use Rattle.ir_model.specs.declared.token.TextLimit.TheVariants as limit
use Rattle.ir_reader.specs.Found.{Found, Is, Bad, End, Placed, colon_first}
use Rattle.ir_reader.specs.Machine
use Rattle.ir_reader.specs.declared.error.Fault.{Fault}
use Rattle.ir_reader.specs.Machine.{Symbol, Progress, To, Stuck, step, fault}
use Rattle.ir_reader.specs.Reading.{mark_first, is_found_mark, is_register, register_first, key_first, is_found_key}

-- what is expected may be said in two ways, where each token makes the same of both
abbrev Alike : List Symbol → List Symbol → Found → Type 0
Alike a b (Is t) = (c : Bool) → step a t c ≡ step b t c
Alike a b Bad = Unit {0}
Alike a b End = Machine.may_end a ≡ Machine.may_end b

-- the first fault from a place on, by what a step of the machine comes to there
abbrev pub fault_after : Placed → List Placed → Progress → Option Fault
fault_after p ps (To x more) = elim x [ None ↦ fault more ps | Some e ↦ Some (Machine.fault_at p e) ]
fault_after p ps Stuck = Some (Machine.syntax_at p)

alike : (a b : List Symbol) (p : Placed) (ps : List Placed) → Alike a b p.found → fault a (p ∷ ps) ≡ fault b (p ∷ ps)
alike a b p ps h = by_found p.found h
  where
    by_found : (f : Found) → Alike a b f → fault a (record { found = f; left = p.left } ∷ ps) ≡ fault b (record { found = f; left = p.left } ∷ ps)
    by_found (Is t) h = ap (fault_after (record { found = Is t; left = p.left }) ps) (h (colon_first ps))
    by_found Bad h = refl
    by_found End h = rw h refl

-- the same, at one token that a colon follows or does not
abbrev AlikeAt : List Symbol → List Symbol → Found → Bool → Type 0
AlikeAt a b (Is t) c = step a t c ≡ step b t c
AlikeAt a b Bad c = Unit {0}
AlikeAt a b End c = Machine.may_end a ≡ Machine.may_end b

alike_at : (a b : List Symbol) (p : Placed) (ps : List Placed) → AlikeAt a b p.found (colon_first ps) → fault a (p ∷ ps) ≡ fault b (p ∷ ps)
alike_at a b p ps h = by_found p.found h
  where
    by_found : (f : Found) → AlikeAt a b f (colon_first ps) → fault a (record { found = f; left = p.left } ∷ ps) ≡ fault b (record { found = f; left = p.left } ∷ ps)
    by_found (Is t) h = ap (fault_after (record { found = Is t; left = p.left }) ps) h
    by_found Bad h = refl
    by_found End h = rw h refl

gives_found : (d : ℕ) (st : List Symbol) (f : Found) → is_found_mark mark.Arrow f ≡ false → Alike (Machine.Gives d ∷ st) st f
gives_found d st (Is (Sign mark.Arrow)) h = cc
gives_found d st (Is (Sign mark.Colon)) h = λ c. refl
gives_found d st (Is (Sign _)) h = λ c. refl
gives_found d st (Is (Key k)) h = λ c. refl
gives_found d st (Is (Name w)) h = λ c. refl
gives_found d st (Is (Number n)) h = λ c. refl
gives_found d st (Is (Operation o)) h = λ c. refl
gives_found d st (Is (Comparison o)) h = λ c. refl
gives_found d st Bad h = tt
gives_found d st End h = refl

pub gives_ends : (d : ℕ) (st : List Symbol) (ps : List Placed) → mark_first mark.Arrow ps ≡ false → fault (Machine.Gives d ∷ st) ps ≡ fault st ps
gives_ends d st [] h = refl
gives_ends d st (p ∷ ps) h = alike (Machine.Gives d ∷ st) st p ps (gives_found d st p.found h)

row_found : (d : ℕ) (st : List Symbol) (f : Found) → is_found_mark mark.Close f ≡ false → Alike (Machine.Row d ∷ st) (Machine.Ty None d ∷ Machine.MoreRow d 1 ∷ st) f
row_found d st (Is (Sign mark.Close)) h = cc
row_found d st (Is (Sign mark.Star)) h = λ c. refl
row_found d st (Is (Sign _)) h = λ c. refl
row_found d st (Is (Key key.U8)) h = λ c. refl
row_found d st (Is (Key _)) h = λ c. refl
row_found d st (Is (Name w)) h = λ c. refl
row_found d st (Is (Number n)) h = λ c. refl
row_found d st (Is (Operation o)) h = λ c. refl
row_found d st (Is (Comparison o)) h = λ c. refl
row_found d st Bad h = tt
row_found d st End h = refl

pub row_begins : (d : ℕ) (st : List Symbol) (ps : List Placed) → mark_first mark.Close ps ≡ false → fault (Machine.Row d ∷ st) ps ≡ fault (Machine.Ty None d ∷ Machine.MoreRow d 1 ∷ st) ps
row_begins d st [] h = refl
row_begins d st (p ∷ ps) h = alike (Machine.Row d ∷ st) (Machine.Ty None d ∷ Machine.MoreRow d 1 ∷ st) p ps (row_found d st p.found h)

row_ends_found : (d k : ℕ) (st : List Symbol) (f : Found) → is_found_mark mark.Comma f ≡ false → Alike (Machine.MoreRow d k ∷ st) (Machine.Mk mark.Close ∷ Machine.Gives d ∷ st) f
row_ends_found d k st (Is (Sign mark.Comma)) h = cc
row_ends_found d k st (Is (Sign mark.Close)) h = λ c. refl
row_ends_found d k st (Is (Sign _)) h = λ c. refl
row_ends_found d k st (Is (Key key.U8)) h = λ c. refl
row_ends_found d k st (Is (Key _)) h = λ c. refl
row_ends_found d k st (Is (Name w)) h = λ c. refl
row_ends_found d k st (Is (Number n)) h = λ c. refl
row_ends_found d k st (Is (Operation o)) h = λ c. refl
row_ends_found d k st (Is (Comparison o)) h = λ c. refl
row_ends_found d k st Bad h = tt
row_ends_found d k st End h = refl

pub row_ends : (d k : ℕ) (st : List Symbol) (ps : List Placed) → mark_first mark.Comma ps ≡ false → fault (Machine.MoreRow d k ∷ st) ps ≡ fault (Machine.Mk mark.Close ∷ Machine.Gives d ∷ st) ps
row_ends d k st [] h = refl
row_ends d k st (p ∷ ps) h = alike (Machine.MoreRow d k ∷ st) (Machine.Mk mark.Close ∷ Machine.Gives d ∷ st) p ps (row_ends_found d k st p.found h)

fields_end_found : (k : ℕ) (st : List Symbol) (f : Found) → is_found_mark mark.Comma f ≡ false → Alike (Machine.MoreFields k ∷ st) (Machine.Mk mark.CloseBrace ∷ st) f
fields_end_found k st (Is (Sign mark.Comma)) h = cc
fields_end_found k st (Is (Sign mark.Close)) h = λ c. refl
fields_end_found k st (Is (Sign _)) h = λ c. refl
fields_end_found k st (Is (Key key.U8)) h = λ c. refl
fields_end_found k st (Is (Key _)) h = λ c. refl
fields_end_found k st (Is (Name w)) h = λ c. refl
fields_end_found k st (Is (Number n)) h = λ c. refl
fields_end_found k st (Is (Operation o)) h = λ c. refl
fields_end_found k st (Is (Comparison o)) h = λ c. refl
fields_end_found k st Bad h = tt
fields_end_found k st End h = refl

pub fields_end : (k : ℕ) (st : List Symbol) (ps : List Placed) → mark_first mark.Comma ps ≡ false → fault (Machine.MoreFields k ∷ st) ps ≡ fault (Machine.Mk mark.CloseBrace ∷ st) ps
fields_end k st [] h = refl
fields_end k st (p ∷ ps) h = alike (Machine.MoreFields k ∷ st) (Machine.Mk mark.CloseBrace ∷ st) p ps (fields_end_found k st p.found h)

params_begin_found : (st : List Symbol) (f : Found) → is_found_mark mark.Close f ≡ false → Alike (Machine.Params ∷ st) (Machine.Word None ∷ Machine.Mk mark.Colon ∷ Machine.Ty None 0 ∷ Machine.MoreParams 1 ∷ st) f
params_begin_found st (Is (Sign mark.Close)) h = cc
params_begin_found st (Is (Sign _)) h = λ c. refl
params_begin_found st (Is (Key key.U8)) h = λ c. refl
params_begin_found st (Is (Key _)) h = λ c. refl
params_begin_found st (Is (Name w)) h = λ c. refl
params_begin_found st (Is (Number n)) h = λ c. refl
params_begin_found st (Is (Operation o)) h = λ c. refl
params_begin_found st (Is (Comparison o)) h = λ c. refl
params_begin_found st Bad h = tt
params_begin_found st End h = refl

pub params_begin : (st : List Symbol) (ps : List Placed) → mark_first mark.Close ps ≡ false → fault (Machine.Params ∷ st) ps ≡ fault (Machine.Word None ∷ Machine.Mk mark.Colon ∷ Machine.Ty None 0 ∷ Machine.MoreParams 1 ∷ st) ps
params_begin st [] h = refl
params_begin st (p ∷ ps) h = alike (Machine.Params ∷ st) (Machine.Word None ∷ Machine.Mk mark.Colon ∷ Machine.Ty None 0 ∷ Machine.MoreParams 1 ∷ st) p ps (params_begin_found st p.found h)

params_end_found : (k : ℕ) (st : List Symbol) (f : Found) → is_found_mark mark.Comma f ≡ false → Alike (Machine.MoreParams k ∷ st) (Machine.Mk mark.Close ∷ Machine.Gives 0 ∷ Machine.Mk mark.OpenBrace ∷ Machine.Locals 0 k ∷ st) f
params_end_found k st (Is (Sign mark.Comma)) h = cc
params_end_found k st (Is (Sign mark.Close)) h = λ c. refl
params_end_found k st (Is (Sign _)) h = λ c. refl
params_end_found k st (Is (Key key.U8)) h = λ c. refl
params_end_found k st (Is (Key _)) h = λ c. refl
params_end_found k st (Is (Name w)) h = λ c. refl
params_end_found k st (Is (Number n)) h = λ c. refl
params_end_found k st (Is (Operation o)) h = λ c. refl
params_end_found k st (Is (Comparison o)) h = λ c. refl
params_end_found k st Bad h = tt
params_end_found k st End h = refl

pub params_end : (k : ℕ) (st : List Symbol) (ps : List Placed) → mark_first mark.Comma ps ≡ false → fault (Machine.MoreParams k ∷ st) ps ≡ fault (Machine.Mk mark.Close ∷ Machine.Gives 0 ∷ Machine.Mk mark.OpenBrace ∷ Machine.Locals 0 k ∷ st) ps
params_end k st [] h = refl
params_end k st (p ∷ ps) h = alike (Machine.MoreParams k ∷ st) (Machine.Mk mark.Close ∷ Machine.Gives 0 ∷ Machine.Mk mark.OpenBrace ∷ Machine.Locals 0 k ∷ st) p ps (params_end_found k st p.found h)

args_begin_found : (st : List Symbol) (f : Found) → is_found_mark mark.Close f ≡ false → Alike (Machine.Args ∷ st) (Machine.Word None ∷ Machine.MoreArgs 1 ∷ st) f
args_begin_found st (Is (Sign mark.Close)) h = cc
args_begin_found st (Is (Sign _)) h = λ c. refl
args_begin_found st (Is (Key key.U8)) h = λ c. refl
args_begin_found st (Is (Key _)) h = λ c. refl
args_begin_found st (Is (Name w)) h = λ c. refl
args_begin_found st (Is (Number n)) h = λ c. refl
args_begin_found st (Is (Operation o)) h = λ c. refl
args_begin_found st (Is (Comparison o)) h = λ c. refl
args_begin_found st Bad h = tt
args_begin_found st End h = refl

pub args_begin : (st : List Symbol) (ps : List Placed) → mark_first mark.Close ps ≡ false → fault (Machine.Args ∷ st) ps ≡ fault (Machine.Word None ∷ Machine.MoreArgs 1 ∷ st) ps
args_begin st [] h = refl
args_begin st (p ∷ ps) h = alike (Machine.Args ∷ st) (Machine.Word None ∷ Machine.MoreArgs 1 ∷ st) p ps (args_begin_found st p.found h)

args_end_found : (k : ℕ) (st : List Symbol) (f : Found) → is_found_mark mark.Comma f ≡ false → Alike (Machine.MoreArgs k ∷ st) (Machine.Mk mark.Close ∷ st) f
args_end_found k st (Is (Sign mark.Comma)) h = cc
args_end_found k st (Is (Sign mark.Close)) h = λ c. refl
args_end_found k st (Is (Sign _)) h = λ c. refl
args_end_found k st (Is (Key key.U8)) h = λ c. refl
args_end_found k st (Is (Key _)) h = λ c. refl
args_end_found k st (Is (Name w)) h = λ c. refl
args_end_found k st (Is (Number n)) h = λ c. refl
args_end_found k st (Is (Operation o)) h = λ c. refl
args_end_found k st (Is (Comparison o)) h = λ c. refl
args_end_found k st Bad h = tt
args_end_found k st End h = refl

pub args_end : (k : ℕ) (st : List Symbol) (ps : List Placed) → mark_first mark.Comma ps ≡ false → fault (Machine.MoreArgs k ∷ st) ps ≡ fault (Machine.Mk mark.Close ∷ st) ps
args_end k st [] h = refl
args_end k st (p ∷ ps) h = alike (Machine.MoreArgs k ∷ st) (Machine.Mk mark.Close ∷ st) p ps (args_end_found k st p.found h)

cells_end_found : (k : ℕ) (st : List Symbol) (f : Found) → is_found_mark mark.Comma f ≡ false → Alike (Machine.MoreCells k ∷ st) (Machine.Mk mark.CloseBrace ∷ st) f
cells_end_found k st (Is (Sign mark.Comma)) h = cc
cells_end_found k st (Is (Sign mark.Close)) h = λ c. refl
cells_end_found k st (Is (Sign _)) h = λ c. refl
cells_end_found k st (Is (Key key.U8)) h = λ c. refl
cells_end_found k st (Is (Key _)) h = λ c. refl
cells_end_found k st (Is (Name w)) h = λ c. refl
cells_end_found k st (Is (Number n)) h = λ c. refl
cells_end_found k st (Is (Operation o)) h = λ c. refl
cells_end_found k st (Is (Comparison o)) h = λ c. refl
cells_end_found k st Bad h = tt
cells_end_found k st End h = refl

pub cells_end : (k : ℕ) (st : List Symbol) (ps : List Placed) → mark_first mark.Comma ps ≡ false → fault (Machine.MoreCells k ∷ st) ps ≡ fault (Machine.Mk mark.CloseBrace ∷ st) ps
cells_end k st [] h = refl
cells_end k st (p ∷ ps) h = alike (Machine.MoreCells k ∷ st) (Machine.Mk mark.CloseBrace ∷ st) p ps (cells_end_found k st p.found h)

init_ends_found : (k : ℕ) (st : List Symbol) (f : Found) → is_found_mark mark.Equal f ≡ false → Alike (Machine.Init k ∷ st) (Machine.Globals k ∷ st) f
init_ends_found k st (Is (Sign mark.Equal)) h = cc
init_ends_found k st (Is (Sign mark.Close)) h = λ c. refl
init_ends_found k st (Is (Sign _)) h = λ c. refl
init_ends_found k st (Is (Key key.U8)) h = λ c. refl
init_ends_found k st (Is (Key _)) h = λ c. refl
init_ends_found k st (Is (Name w)) h = λ c. refl
init_ends_found k st (Is (Number n)) h = λ c. refl
init_ends_found k st (Is (Operation o)) h = λ c. refl
init_ends_found k st (Is (Comparison o)) h = λ c. refl
init_ends_found k st Bad h = tt
init_ends_found k st End h = refl

pub init_ends : (k : ℕ) (st : List Symbol) (ps : List Placed) → mark_first mark.Equal ps ≡ false → fault (Machine.Init k ∷ st) ps ≡ fault (Machine.Globals k ∷ st) ps
init_ends k st [] h = refl
init_ends k st (p ∷ ps) h = alike (Machine.Init k ∷ st) (Machine.Globals k ∷ st) p ps (init_ends_found k st p.found h)

structs_end_found : (k : ℕ) (st : List Symbol) (f : Found) → is_found_key key.Struct f ≡ false → Alike (Machine.Structs k ∷ st) (Machine.Periphs 0 ∷ st) f
structs_end_found k st (Is (Key key.Struct)) h = cc
structs_end_found k st (Is (Sign mark.Close)) h = λ c. refl
structs_end_found k st (Is (Sign _)) h = λ c. refl
structs_end_found k st (Is (Key key.U8)) h = λ c. refl
structs_end_found k st (Is (Key _)) h = λ c. refl
structs_end_found k st (Is (Name w)) h = λ c. refl
structs_end_found k st (Is (Number n)) h = λ c. refl
structs_end_found k st (Is (Operation o)) h = λ c. refl
structs_end_found k st (Is (Comparison o)) h = λ c. refl
structs_end_found k st Bad h = tt
structs_end_found k st End h = refl

pub structs_end : (k : ℕ) (st : List Symbol) (ps : List Placed) → key_first key.Struct ps ≡ false → fault (Machine.Structs k ∷ st) ps ≡ fault (Machine.Periphs 0 ∷ st) ps
structs_end k st [] h = refl
structs_end k st (p ∷ ps) h = alike (Machine.Structs k ∷ st) (Machine.Periphs 0 ∷ st) p ps (structs_end_found k st p.found h)

periphs_end_found : (k : ℕ) (st : List Symbol) (f : Found) → is_found_key key.Periph f ≡ false → Alike (Machine.Periphs k ∷ st) (Machine.Globals 0 ∷ st) f
periphs_end_found k st (Is (Key key.Periph)) h = cc
periphs_end_found k st (Is (Sign mark.Close)) h = λ c. refl
periphs_end_found k st (Is (Sign _)) h = λ c. refl
periphs_end_found k st (Is (Key key.U8)) h = λ c. refl
periphs_end_found k st (Is (Key _)) h = λ c. refl
periphs_end_found k st (Is (Name w)) h = λ c. refl
periphs_end_found k st (Is (Number n)) h = λ c. refl
periphs_end_found k st (Is (Operation o)) h = λ c. refl
periphs_end_found k st (Is (Comparison o)) h = λ c. refl
periphs_end_found k st Bad h = tt
periphs_end_found k st End h = refl

pub periphs_end : (k : ℕ) (st : List Symbol) (ps : List Placed) → key_first key.Periph ps ≡ false → fault (Machine.Periphs k ∷ st) ps ≡ fault (Machine.Globals 0 ∷ st) ps
periphs_end k st [] h = refl
periphs_end k st (p ∷ ps) h = alike (Machine.Periphs k ∷ st) (Machine.Globals 0 ∷ st) p ps (periphs_end_found k st p.found h)

locals_end_found : (k p : ℕ) (st : List Symbol) (f : Found) → is_found_key key.Local f ≡ false → Alike (Machine.Locals k p ∷ st) (Machine.Regs p ∷ st) f
locals_end_found k p st (Is (Key key.Local)) h = cc
locals_end_found k p st (Is (Sign mark.Close)) h = λ c. refl
locals_end_found k p st (Is (Sign _)) h = λ c. refl
locals_end_found k p st (Is (Key key.U8)) h = λ c. refl
locals_end_found k p st (Is (Key _)) h = λ c. refl
locals_end_found k p st (Is (Name w)) h = λ c. refl
locals_end_found k p st (Is (Number n)) h = λ c. refl
locals_end_found k p st (Is (Operation o)) h = λ c. refl
locals_end_found k p st (Is (Comparison o)) h = λ c. refl
locals_end_found k p st Bad h = tt
locals_end_found k p st End h = refl

pub locals_end : (k p : ℕ) (st : List Symbol) (ps : List Placed) → key_first key.Local ps ≡ false → fault (Machine.Locals k p ∷ st) ps ≡ fault (Machine.Regs p ∷ st) ps
locals_end k p st [] h = refl
locals_end k p st (q ∷ ps) h = alike (Machine.Locals k p ∷ st) (Machine.Regs p ∷ st) q ps (locals_end_found k p st q.found h)

regs_end_found : (k : ℕ) (st : List Symbol) (f : Found) → is_found_key key.Reg f ≡ false → Alike (Machine.Regs k ∷ st) (Machine.First 0 0 ∷ st) f
regs_end_found k st (Is (Key key.Reg)) h = cc
regs_end_found k st (Is (Sign mark.Close)) h = λ c. refl
regs_end_found k st (Is (Sign _)) h = λ c. refl
regs_end_found k st (Is (Key key.U8)) h = λ c. refl
regs_end_found k st (Is (Key _)) h = λ c. refl
regs_end_found k st (Is (Name w)) h = λ c. refl
regs_end_found k st (Is (Number n)) h = λ c. refl
regs_end_found k st (Is (Operation o)) h = λ c. refl
regs_end_found k st (Is (Comparison o)) h = λ c. refl
regs_end_found k st Bad h = tt
regs_end_found k st End h = refl

pub regs_end : (k : ℕ) (st : List Symbol) (ps : List Placed) → key_first key.Reg ps ≡ false → fault (Machine.Regs k ∷ st) ps ≡ fault (Machine.First 0 0 ∷ st) ps
regs_end k st [] h = refl
regs_end k st (p ∷ ps) h = alike (Machine.Regs k ∷ st) (Machine.First 0 0 ∷ st) p ps (regs_end_found k st p.found h)

funcs_end_found : (k n : ℕ) (st : List Symbol) (f : Found) → is_found_key key.Func f ≡ false → Alike (Machine.Funcs k n ∷ st) (Machine.Mk mark.CloseBrace ∷ Machine.Files k n ∷ st) f
funcs_end_found k n st (Is (Key key.Func)) h = cc
funcs_end_found k n st (Is (Sign mark.Close)) h = λ c. refl
funcs_end_found k n st (Is (Sign _)) h = λ c. refl
funcs_end_found k n st (Is (Key key.U8)) h = λ c. refl
funcs_end_found k n st (Is (Key _)) h = λ c. refl
funcs_end_found k n st (Is (Name w)) h = λ c. refl
funcs_end_found k n st (Is (Number m)) h = λ c. refl
funcs_end_found k n st (Is (Operation o)) h = λ c. refl
funcs_end_found k n st (Is (Comparison o)) h = λ c. refl
funcs_end_found k n st Bad h = tt
funcs_end_found k n st End h = refl

pub funcs_end : (k n : ℕ) (st : List Symbol) (ps : List Placed) → key_first key.Func ps ≡ false → fault (Machine.Funcs k n ∷ st) ps ≡ fault (Machine.Mk mark.CloseBrace ∷ Machine.Files k n ∷ st) ps
funcs_end k n st [] h = refl
funcs_end k n st (p ∷ ps) h = alike (Machine.Funcs k n ∷ st) (Machine.Mk mark.CloseBrace ∷ Machine.Files k n ∷ st) p ps (funcs_end_found k n st p.found h)

blocks_go_on_found : (k n : ℕ) (st : List Symbol) (f : Found) → is_found_mark mark.CloseBrace f ≡ false → Alike (Machine.Blocks k n ∷ st) (Machine.First k n ∷ st) f
blocks_go_on_found k n st (Is (Sign mark.CloseBrace)) h = cc
blocks_go_on_found k n st (Is (Sign mark.Close)) h = λ c. refl
blocks_go_on_found k n st (Is (Sign _)) h = λ c. refl
blocks_go_on_found k n st (Is (Key key.U8)) h = λ c. refl
blocks_go_on_found k n st (Is (Key _)) h = λ c. refl
blocks_go_on_found k n st (Is (Name w)) h = λ c. refl
blocks_go_on_found k n st (Is (Number m)) h = λ c. refl
blocks_go_on_found k n st (Is (Operation o)) h = λ c. refl
blocks_go_on_found k n st (Is (Comparison o)) h = λ c. refl
blocks_go_on_found k n st Bad h = tt
blocks_go_on_found k n st End h = refl

pub blocks_go_on : (k n : ℕ) (st : List Symbol) (ps : List Placed) → mark_first mark.CloseBrace ps ≡ false → fault (Machine.Blocks k n ∷ st) ps ≡ fault (Machine.First k n ∷ st) ps
blocks_go_on k n st [] h = refl
blocks_go_on k n st (p ∷ ps) h = alike (Machine.Blocks k n ∷ st) (Machine.First k n ∷ st) p ps (blocks_go_on_found k n st p.found h)

first_found : (k n : ℕ) (st : List Symbol) (f : Found) → Alike (Machine.First k n ∷ st) (Machine.Word (counted k 1024 limit.Block None) ∷ Machine.Mk mark.Colon ∷ Machine.Insts (k + 1) n ∷ st) f
first_found k n st (Is (Sign m)) = λ c. refl
first_found k n st (Is (Key _)) = λ c. refl
first_found k n st (Is (Name w)) = λ c. refl
first_found k n st (Is (Number m)) = λ c. refl
first_found k n st (Is (Operation o)) = λ c. refl
first_found k n st (Is (Comparison o)) = λ c. refl
first_found k n st Bad = tt
first_found k n st End = refl

-- a block begins with its label
pub first_is : (k n : ℕ) (st : List Symbol) (ps : List Placed) → fault (Machine.First k n ∷ st) ps ≡ fault (Machine.Word (counted k 1024 limit.Block None) ∷ Machine.Mk mark.Colon ∷ Machine.Insts (k + 1) n ∷ st) ps
first_is k n st [] = refl
first_is k n st (p ∷ ps) = alike (Machine.First k n ∷ st) (Machine.Word (counted k 1024 limit.Block None) ∷ Machine.Mk mark.Colon ∷ Machine.Insts (k + 1) n ∷ st) p ps (first_found k n st p.found)

globals_end_found : (k : ℕ) (st : List Symbol) (f : Found) → is_found_key key.Const f ≡ false → is_found_key key.Global f ≡ false → Alike (Machine.Globals k ∷ st) (Machine.Files 0 0 ∷ st) f
globals_end_found k st (Is (Key key.Const)) h i = cc
globals_end_found k st (Is (Key key.Global)) h i = cc
globals_end_found k st (Is (Key key.File)) h i = λ c. refl
globals_end_found k st (Is (Key _)) h i = λ c. refl
globals_end_found k st (Is (Sign m)) h i = λ c. refl
globals_end_found k st (Is (Name w)) h i = λ c. refl
globals_end_found k st (Is (Number m)) h i = λ c. refl
globals_end_found k st (Is (Operation o)) h i = λ c. refl
globals_end_found k st (Is (Comparison o)) h i = λ c. refl
globals_end_found k st Bad h i = tt
globals_end_found k st End h i = refl

pub globals_end : (k : ℕ) (st : List Symbol) (ps : List Placed) → key_first key.Const ps ≡ false → key_first key.Global ps ≡ false → fault (Machine.Globals k ∷ st) ps ≡ fault (Machine.Files 0 0 ∷ st) ps
globals_end k st [] h i = refl
globals_end k st (p ∷ ps) h i = alike (Machine.Globals k ∷ st) (Machine.Files 0 0 ∷ st) p ps (globals_end_found k st p.found h i)

-- behind `ret` no register stands
ret_found : (k n : ℕ) (st : List Symbol) (f : Found) (c : Bool) → is_register f c ≡ false → AlikeAt (Machine.AfterRet k n ∷ st) (Machine.Blocks k n ∷ st) f c
ret_found k n st (Is (Name w)) true h = refl
ret_found k n st (Is (Name w)) false h = cc
ret_found k n st (Is (Sign mark.CloseBrace)) c h = refl
ret_found k n st (Is (Sign _)) c h = refl
ret_found k n st (Is (Key key.U8)) c h = refl
ret_found k n st (Is (Key _)) c h = refl
ret_found k n st (Is (Number m)) c h = refl
ret_found k n st (Is (Operation o)) c h = refl
ret_found k n st (Is (Comparison o)) c h = refl
ret_found k n st Bad c h = tt
ret_found k n st End c h = refl

pub ret_ends : (k n : ℕ) (st : List Symbol) (ps : List Placed) → register_first ps ≡ false → fault (Machine.AfterRet k n ∷ st) ps ≡ fault (Machine.Blocks k n ∷ st) ps
ret_ends k n st [] h = refl
ret_ends k n st (p ∷ ps) h = alike_at (Machine.AfterRet k n ∷ st) (Machine.Blocks k n ∷ st) p ps (ret_found k n st p.found (colon_first ps) h)
