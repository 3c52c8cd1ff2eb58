-- The spelling of each part of a firmware, by how a token of it is put.
use Rattle.std.specs.Prelude.{ℕ, List, [], ◌∷◌, ◌++◌, flat_map, Bool, true, false, Option, Some, None}
use Rattle.ir_model.specs.declared.firmware.Inst.{Inst}
use Rattle.ir_model.specs.declared.firmware.Inst.TheVariants as inst
use Rattle.ir_model.specs.declared.firmware.Term.{Term}
use Rattle.ir_model.specs.declared.firmware.Term.TheVariants as term
use Rattle.ir_model.specs.declared.firmware.Block.{Block}
use Rattle.ir_model.specs.declared.firmware.Cell.{Cell}
use Rattle.ir_model.specs.declared.firmware.Cell.TheVariants.{Word, Function, Address}
use Rattle.ir_model.specs.declared.firmware.Peripheral.{Peripheral}
use Rattle.ir_model.specs.declared.token.Keyword.TheVariants as key
use Rattle.ir_model.specs.declared.token.Mark.TheVariants.{OpenBrace, CloseBrace, Open, Close, OpenSquare, CloseSquare, Comma, Colon, Equal, Star, Arrow}
use Rattle.ir_model.specs.Types.{PlainType, U8, U16, U32, Pointer, Array, Named, Callee, PlainTypes, none, more, PlainResult, nothing, gives}
use Rattle.ir_model.specs.Plain.{PlainBinding, PlainStruct, PlainGlobal, PlainFunc, PlainFile, PlainFirmware}
use Rattle.ir_model.specs.Tokens.{Token, Name, Number, Key, Operation, Comparison, Sign}

-- what is put for the first token of a line, for a token behind another, and for the ends of a line and of the text
pub record Glyphs (X : Type 0) : Type 0 where
  pub first : Token → List X
  pub next : Token → List X
  pub line_end : List X
  pub text_end : List X

module _ {X : Type 0} (g : Glyphs X) where
  -- things with a comma between two
  abbrev pub separated : {A : Type 0} → (A → List X) → List A → List X
  separated f [] = []
  separated f (x ∷ []) = f x
  separated f (x ∷ y ∷ ys) = f x ++ (g.next (Sign Comma) ++ separated f (y ∷ ys))

  -- Types.
  abbrev mutual
    pub spell_type : PlainType → List X
    spell_type U8 = g.next (Key key.U8)
    spell_type U16 = g.next (Key key.U16)
    spell_type U32 = g.next (Key key.U32)
    spell_type (Pointer t) = g.next (Sign Star) ++ spell_type t
    spell_type (Array n t) = g.next (Sign OpenSquare) ++ (g.next (Number n) ++ (g.next (Sign CloseSquare) ++ spell_type t))
    spell_type (Named w) = g.next (Name w)
    spell_type (Callee a r) = g.next (Key key.Fn) ++ (g.next (Sign Open) ++ (spell_row a ++ spell_gives r))

    -- the types between brackets, with the closing one
    pub spell_row : PlainTypes → List X
    spell_row none = g.next (Sign Close)
    spell_row (more t ts) = spell_type t ++ spell_more_row ts

    pub spell_more_row : PlainTypes → List X
    spell_more_row none = g.next (Sign Close)
    spell_more_row (more t ts) = g.next (Sign Comma) ++ (spell_type t ++ spell_more_row ts)

    pub spell_gives : PlainResult → List X
    spell_gives nothing = []
    spell_gives (gives t) = g.next (Sign Arrow) ++ spell_type t

  -- Declarations.
  abbrev pub spell_binding : PlainBinding → List X
  spell_binding s = g.next (Name s.name) ++ (g.next (Sign Colon) ++ spell_type s.ty)

  -- fields, the closing brace and the end of the line
  abbrev pub spell_fields : List PlainBinding → List X
  spell_fields ss = separated spell_binding ss ++ (g.next (Sign CloseBrace) ++ g.line_end)

  abbrev pub spell_struct : PlainStruct → List X
  spell_struct s = g.first (Key key.Struct) ++ (g.next (Name s.name) ++ (g.next (Sign OpenBrace) ++ spell_fields s.fields))

  abbrev pub spell_structs : List PlainStruct → List X
  spell_structs ss = flat_map spell_struct ss

  abbrev pub spell_periph : Peripheral → List X
  spell_periph p = g.first (Key key.Periph) ++ (g.next (Name p.name) ++ (g.next (Number p.base) ++ (g.next (Number p.size) ++ g.line_end)))

  abbrev pub spell_periphs : List Peripheral → List X
  spell_periphs ps = flat_map spell_periph ps

  abbrev pub spell_cell : Cell → List X
  spell_cell (Word n) = g.next (Number n)
  spell_cell (Function f) = g.next (Key key.Fn) ++ g.next (Name f)
  spell_cell (Address x) = g.next (Key key.Addr) ++ g.next (Name x)

  -- cells, the closing brace and the end of the line
  abbrev pub spell_cells : List Cell → List X
  spell_cells cs = separated spell_cell cs ++ (g.next (Sign CloseBrace) ++ g.line_end)

  abbrev pub spell_init : List Cell → List X
  spell_init [] = g.line_end
  spell_init (c ∷ cs) = g.next (Sign Equal) ++ (g.next (Sign OpenBrace) ++ spell_cells (c ∷ cs))

  abbrev pub spell_constant : Bool → List X
  spell_constant true = g.first (Key key.Const) ++ g.next (Key key.Global)
  spell_constant false = g.first (Key key.Global)

  abbrev pub spell_global : PlainGlobal → List X
  spell_global d = spell_constant d.constant ++ spell_binding (record { name = d.name; ty = d.ty }) ++ spell_init d.init

  abbrev pub spell_globals : List PlainGlobal → List X
  spell_globals ds = flat_map spell_global ds

  -- Instructions and the ends of blocks, with the ends of their lines.
  abbrev pub spell_word : List ℕ → List X
  spell_word w = g.next (Name w)

  abbrev pub spell_args : List (List ℕ) → List X
  spell_args as_ = separated spell_word as_ ++ (g.next (Sign Close) ++ g.line_end)

  abbrev pub spell_called : List ℕ → List (List ℕ) → List X
  spell_called f args = g.next (Name f) ++ (g.next (Sign Open) ++ spell_args args)

  abbrev pub spell_assigned : List ℕ → (behind : List X) → List X
  spell_assigned to behind = g.first (Name to) ++ (g.next (Sign Equal) ++ behind)

  -- a call, which may keep its result
  abbrev pub spell_kept : Option (List ℕ) → Token → (behind : List X) → List X
  spell_kept None t behind = g.first t ++ behind
  spell_kept (Some to) t behind = spell_assigned to (g.next t ++ behind)

  -- two names with a comma between them
  abbrev pub spell_two : List ℕ → List ℕ → List X
  spell_two a b = g.next (Name a) ++ (g.next (Sign Comma) ++ (g.next (Name b) ++ g.line_end))

  abbrev pub spell_one : List ℕ → List X
  spell_one a = g.next (Name a) ++ g.line_end

  abbrev pub spell_register : Option (List ℕ) → List X
  spell_register None = g.line_end
  spell_register (Some r) = spell_one r

  abbrev pub spell_inst : Inst → List X
  spell_inst (inst.Const to v) = spell_assigned to (g.next (Number v) ++ g.line_end)
  spell_inst (inst.Move to from) = spell_assigned to (spell_one from)
  spell_inst (inst.Bin op to a b) = spell_assigned to (g.next (Operation op) ++ spell_two a b)
  spell_inst (inst.Cmp op to a b) = spell_assigned to (g.next (Comparison op) ++ spell_two a b)
  spell_inst (inst.Addr to of) = spell_assigned to (g.next (Key key.Addr) ++ spell_one of)
  spell_inst (inst.FAddr to of) = spell_assigned to (g.next (Key key.Faddr) ++ spell_one of)
  spell_inst (inst.Elem to base index) = spell_assigned to (g.next (Key key.Elem) ++ spell_two base index)
  spell_inst (inst.Field to base field) = spell_assigned to (g.next (Key key.Field) ++ spell_two base field)
  spell_inst (inst.Load to from) = spell_assigned to (g.next (Key key.Load) ++ spell_one from)
  spell_inst (inst.Store to from) = g.first (Key key.Store) ++ spell_two to from
  spell_inst (inst.Call to f args) = spell_kept to (Key key.Call) (spell_called f args)
  spell_inst (inst.ICall to f args) = spell_kept to (Key key.Icall) (spell_called f args)

  abbrev pub spell_term : Term → List X
  spell_term (term.Jump b) = g.first (Key key.Jump) ++ spell_one b
  spell_term (term.Branch on a b) = g.first (Key key.Branch) ++ (g.next (Name on) ++ (g.next (Name a) ++ spell_one b))
  spell_term (term.Ret r) = g.first (Key key.Ret) ++ spell_register r

  -- Functions, files and the whole.
  abbrev pub spell_block : Block → List X
  spell_block b = g.first (Name b.label) ++ (g.next (Sign Colon) ++ (g.line_end ++ (flat_map spell_inst b.insts ++ spell_term b.term)))

  -- blocks and the line of the closing brace
  abbrev pub spell_blocks : List Block → List X
  spell_blocks bs = flat_map spell_block bs ++ (g.first (Sign CloseBrace) ++ g.line_end)

  abbrev pub spell_local : PlainBinding → List X
  spell_local s = g.first (Key key.Local) ++ (spell_binding s ++ g.line_end)

  abbrev pub spell_locals : List PlainBinding → List X
  spell_locals ss = flat_map spell_local ss

  abbrev pub spell_reg : PlainBinding → List X
  spell_reg s = g.first (Key key.Reg) ++ (spell_binding s ++ g.line_end)

  abbrev pub spell_regs : List PlainBinding → List X
  spell_regs ss = flat_map spell_reg ss

  -- the parameters and the closing bracket
  abbrev pub spell_params : List PlainBinding → List X
  spell_params ps = separated spell_binding ps ++ g.next (Sign Close)

  -- a function from its name to its opening brace, and behind it
  abbrev pub spell_head : List ℕ → List PlainBinding → PlainResult → List X
  spell_head name params outcome =
      g.next (Name name) ++ (g.next (Sign Open) ++ (spell_params params ++ (spell_gives outcome ++ (g.next (Sign OpenBrace) ++ g.line_end))))

  abbrev pub spell_body : List PlainBinding → List PlainBinding → List Block → List X
  spell_body locals regs blocks = spell_locals locals ++ (spell_regs regs ++ spell_blocks blocks)

  abbrev pub spell_func : PlainFunc → List X
  spell_func f = g.first (Key key.Func) ++ (spell_head f.name f.params f.outcome ++ spell_body f.locals f.regs f.blocks)

  -- functions and the line of the closing brace
  abbrev pub spell_funcs : List PlainFunc → List X
  spell_funcs fs = flat_map spell_func fs ++ (g.first (Sign CloseBrace) ++ g.line_end)

  abbrev pub spell_file : PlainFile → List X
  spell_file f = g.first (Key key.File) ++ (g.next (Name f.name) ++ (g.next (Sign OpenBrace) ++ (g.line_end ++ spell_funcs f.funcs)))

  -- files and the end of the text
  abbrev pub spell_files : List PlainFile → List X
  spell_files fs = flat_map spell_file fs ++ g.text_end

  abbrev pub spell_firmware : PlainFirmware → List X
  spell_firmware w = spell_structs w.structs ++ (spell_periphs w.periphs ++ (spell_globals w.globals ++ spell_files w.files))
