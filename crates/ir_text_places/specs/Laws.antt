-- Beyond the program's claim: only laws, proofs and functions inside the tool cite this file.
-- The law that the tokens before which the place of a fault stands begin as the item does that the fault names.
use Rattle.std.specs.Prelude.{◌≡◌, ◌≤◌, ◌⊎◌, ℕ, zero, suc, List, [], ◌∷◌, ◌++◌, length, drop, Some, None}
use Rattle.std.specs.List.{Contains}
use Rattle.ir_model.specs.declared.check.CheckPlace.{CheckPlace}
use Rattle.ir_model.specs.declared.check.CheckPlace.TheVariants as place
use Rattle.ir_model.specs.declared.firmware.Inst.{Inst}
use Rattle.ir_model.specs.declared.firmware.Term.{Term}
use Rattle.ir_model.specs.declared.firmware.Block.{Block}
use Rattle.ir_model.specs.declared.token.Keyword.TheVariants as key
use Rattle.ir_model.specs.Plain.{PlainFunc, PlainFirmware, funcs_of}
use Rattle.ir_model.specs.Tokens.{Token, Name, Key}
use Rattle.ir_model.specs.Lines.{Line, inst_line, term_line}
use Rattle.ir_model.specs.Texts.{tokens}
use Rattle.ir_model.specs.Typing.{Failing, fault_of}
use Rattle.ir_text_places.specs.Items.{tokens_before}
use Rattle.ir_text_places.specs.Faulty.{item_of}
use Rattle.ir_text_places.specs.Stands.{tokens_of}

-- tokens begin with these
abbrev pub BeginWith : (front ts : List Token) → Type 0
BeginWith front ts = (rest : List Token) × (ts ≡ front ++ rest)

-- the line of the instruction of this number, or of the end of a block
abbrev pub line_at : ℕ → List Inst → Term → Line
line_at i [] t = term_line t
line_at zero (j ∷ js) t = inst_line None j
line_at (suc i) (j ∷ js) t = line_at i js t

-- tokens begin with the line of a place of a block of this label, in a function of this name
pub record BeginInCode (w : PlainFirmware) (f l : List ℕ) (i : ℕ) (ts : List Token) : Type 0 where
  pub func : PlainFunc
  pub block : Block
  pub in_firmware : Contains (funcs_of w) func
  pub func_name : func.name ≡ f
  pub in_func : Contains func.blocks block
  pub label : block.label ≡ l
  pub in_block : i ≤ length block.insts
  pub begin : BeginWith (tokens (line_at i block.insts block.term)) ts

-- tokens begin as what stands at the place of a fault
abbrev pub BeginAs : PlainFirmware → CheckPlace → List Token → Type 0
BeginAs w place.Whole ts = Unit {0}
BeginAs w (place.Struct n) ts = BeginWith (Key key.Struct ∷ Name n ∷ []) ts
BeginAs w (place.Periph n) ts = BeginWith (Key key.Periph ∷ Name n ∷ []) ts
BeginAs w (place.Global n) ts = BeginWith (Key key.Global ∷ Name n ∷ []) ts ⊎ BeginWith (Key key.Const ∷ Key key.Global ∷ Name n ∷ []) ts
BeginAs w (place.File n) ts = BeginWith (Key key.File ∷ Name n ∷ []) ts
BeginAs w (place.Func n) ts = BeginWith (Key key.Func ∷ Name n ∷ []) ts
BeginAs w (place.Inst f l i) ts = BeginInCode w f l i ts

abbrev pub ItemsBegin : Type 0
ItemsBegin = (w : PlainFirmware) (e : Failing) → fault_of w ≡ Some e → BeginAs w e.place (drop (tokens_before w (item_of w e)) (tokens_of w))
