-- The numbers that names stand for. A name means the first that has it; one that is not there has the number behind the last.
use Rattle.std.specs.Prelude.{ℕ, suc, List, [], ◌∷◌, ◌++◌, length, replicate, map, if◌then◌else◌, Option, Some, None, bytes_eq, codes}
use Rattle.std.proofs.Math.ListN.{get_or}
use Rattle.base_names.specs.Numbers.{number_of, has}
use Rattle.ir_model.specs.declared.firmware.Inst.{Inst}
use Rattle.ir_model.specs.declared.firmware.Inst.TheVariants as named
use Rattle.ir_model.specs.declared.firmware.Term.{Term}
use Rattle.ir_model.specs.declared.firmware.Term.TheVariants as terms
use Rattle.ir_model.specs.declared.firmware.Block.{Block}
use Rattle.ir_model.specs.declared.firmware.Cell.{Cell}
use Rattle.ir_model.specs.declared.firmware.Cell.TheVariants.{Word, Function, Address}
use Rattle.ir_model.specs.declared.firmware.Peripheral.{Peripheral}
use Rattle.ir_model.specs.Types.{PlainType, U32, Named, Callee, PlainTypes, none, more, target_of, element_of, is_integer}
use Rattle.ir_model.specs.Plain.{PlainBinding, PlainFunc, PlainGlobal, PlainFile, PlainFirmware, names_of, types_of, funcs_of, regs_of}
use Rattle.ir_model.specs.Layout.{Known, known, Shape, shape, FieldPlace, fields_named, CellPlace}
use Rattle.ir_model.specs.Resolved.{OfGlobal, OfPeriph, Value, Number, Code, Null, At, TheGlobal, ThePeriph, TheLocal, NumberedInst, Const, Move, Bin, Cmp, Addr, FAddr, Elem, Field, Load, Store, Call, ICall, NumberedTerm, Jump, Branch, Ret, NumberedBlock, NumberedFunc, NumberedGlobal, NumberedWindow, Program}
use Rattle.ir_model.specs.Resolved as numbered

-- the names of a firmware
pub record Scope : Type 0 where
  pub known : List Known
  pub globals : List (List ℕ)
  pub periphs : List (List ℕ)
  pub funcs : List (List ℕ)

abbrev pub scope_of : PlainFirmware → Scope
scope_of w =
    record {
      known = known w.structs;
      globals = map (λ (g : PlainGlobal). g.name) w.globals;
      periphs = map (λ (p : Peripheral). p.name) w.periphs;
      funcs = map (λ (f : PlainFunc). f.name) (funcs_of w);
    }

abbrev pub row_from : List PlainBinding → PlainTypes
row_from [] = none
row_from (s ∷ ss) = more s.ty (row_from ss)

-- the type of a function
abbrev pub signature_of : PlainFunc → PlainType
signature_of f = Callee (row_from f.params) f.outcome

abbrev pub register_number : PlainFunc → List ℕ → ℕ
register_number f n = number_of (names_of (regs_of f)) n

abbrev pub type_named : PlainFunc → List ℕ → PlainType
type_named f n = get_or (types_of (regs_of f)) (register_number f n) U32

abbrev pub offset_named : List FieldPlace → List ℕ → ℕ
offset_named [] n = 0
offset_named (f ∷ fs) n = if bytes_eq f.name n then f.at else offset_named fs n

abbrev pub field_offset : Scope → PlainType → List ℕ → ℕ
field_offset s (Named n) f = offset_named (fields_named s.known n) f
field_offset s _ f = 0

-- what `addr` names: a local first
abbrev pub named_by : Scope → PlainFunc → List ℕ → numbered.Named
named_by s f n =
    if has (names_of f.locals) n then TheLocal (number_of (names_of f.locals) n)
    else if has s.periphs n then ThePeriph (number_of s.periphs n)
    else TheGlobal (number_of s.globals n)

abbrev pub optional : (List ℕ → ℕ) → Option (List ℕ) → Option ℕ
optional r None = None
optional r (Some n) = Some (r n)

abbrev pub resolved_inst : Scope → PlainFunc → Inst → NumberedInst
resolved_inst s f (named.Const to v) = Const (register_number f to) v
resolved_inst s f (named.Move to from) = Move (register_number f to) (register_number f from)
resolved_inst s f (named.Bin op to a b) = Bin op (register_number f to) (register_number f a) (register_number f b)
resolved_inst s f (named.Cmp op to a b) = Cmp op (register_number f to) (register_number f a) (register_number f b)
resolved_inst s f (named.Addr to of) = Addr (register_number f to) (named_by s f of)
resolved_inst s f (named.FAddr to of) = FAddr (register_number f to) (number_of s.funcs of)
resolved_inst s f (named.Elem to base index) =
    Elem (register_number f to) (register_number f base) (register_number f index) (shape s.known (element_of (target_of (type_named f base)))).size
resolved_inst s f (named.Field to base field) =
    Field (register_number f to) (register_number f base) (field_offset s (target_of (type_named f base)) field)
resolved_inst s f (named.Load to from) = Load (register_number f to) (register_number f from) (target_of (type_named f from))
resolved_inst s f (named.Store to from) = Store (register_number f to) (register_number f from) (target_of (type_named f to))
resolved_inst s f (named.Call to g args) = Call (optional (register_number f) to) (number_of s.funcs g) (map (register_number f) args)
resolved_inst s f (named.ICall to g args) = ICall (optional (register_number f) to) (register_number f g) (map (register_number f) args)

abbrev pub labels_of : PlainFunc → List (List ℕ)
labels_of f = map (λ (b : Block). b.label) f.blocks

abbrev pub resolved_term : PlainFunc → Term → NumberedTerm
resolved_term f (terms.Jump b) = Jump (number_of (labels_of f) b)
resolved_term f (terms.Branch on a b) = Branch (register_number f on) (number_of (labels_of f) a) (number_of (labels_of f) b)
resolved_term f (terms.Ret v) = Ret (optional (register_number f) v)

abbrev pub resolved_block : Scope → PlainFunc → Block → NumberedBlock
resolved_block s f b = record { insts = map (resolved_inst s f) b.insts; term = resolved_term f b.term }

abbrev pub resolved_func : Scope → PlainFunc → NumberedFunc
resolved_func s f =
    record {
      params = row_from f.params;
      outcome = f.outcome;
      regs = types_of (regs_of f);
      locals = map (λ (l : PlainBinding). shape s.known l.ty) f.locals;
      blocks = map (resolved_block s f) f.blocks;
    }

abbrev pub value_of : Scope → Cell → Value
value_of s (Word n) = Number n
value_of s (Function f) = Code (number_of s.funcs f)
value_of s (Address x) =
    if has s.periphs x then At (OfPeriph (number_of s.periphs x)) 0 else At (OfGlobal (number_of s.globals x)) 0

-- what a cell or a register holds before it is written
abbrev pub zero_of : PlainType → Value
zero_of t = if is_integer t then Number 0 else Null

abbrev pub filled : List CellPlace → List Value → List Value
filled [] vs = []
filled (c ∷ cs) [] = zero_of c.ty ∷ filled cs []
filled (c ∷ cs) (v ∷ vs) = v ∷ filled cs vs

abbrev pub resolved_global : Scope → PlainGlobal → NumberedGlobal
resolved_global s g =
    let it : Shape = shape s.known g.ty in
    record { constant = g.constant; shape = it; init = filled it.cells (map (value_of s) g.init) }

abbrev pub window_of : Peripheral → NumberedWindow
window_of p = record { base = p.base; size = p.size }

-- the number of the file of each function, for files from this number on
abbrev pub files_from : (file : ℕ) → List PlainFile → List ℕ
files_from k [] = []
files_from k (f ∷ fs) = replicate (length f.funcs) k ++ files_from (suc k) fs

abbrev pub main_name : List ℕ
main_name = codes "main"

unfoldable pub resolve : PlainFirmware → Program
resolve w =
    let s : Scope = scope_of w in
    record {
      globals = map (resolved_global s) w.globals;
      periphs = map window_of w.periphs;
      funcs = map (resolved_func s) (funcs_of w);
      files = files_from 0 w.files;
      main = number_of s.funcs main_name;
    }
