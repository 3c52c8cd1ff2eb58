-- The checks of a firmware, in the order in which they are made, each with its place. A firmware is typed where none
-- fails, and its fault is the first that fails.
use Rattle.std.specs.Prelude.{◌≡◌, ℕ, suc, ◌*◌, ◌^◌, List, [], ◌∷◌, ◌++◌, map, length, Bool, true, false, not, ◌&&◌, ◌||◌, Option, Some, None, nat_lt, nat_le, if◌then◌else◌}
use Rattle.std.specs.List.{list_all}
use Rattle.base_ranges.specs.Ranges.{are_apart, is_window_size, is_window_place}
use Rattle.ir_model.specs.declared.check.CheckKind.{CheckKind}
use Rattle.ir_model.specs.declared.check.CheckKind.TheVariants.{Unknown, Twice, IllTyped, NoMain, BadWindow, WindowOverlap, BadInit, ObjectTooLarge, FrameTooLarge}
use Rattle.ir_model.specs.declared.check.CheckPlace.{CheckPlace}
use Rattle.ir_model.specs.declared.check.CheckPlace.TheVariants as place
use Rattle.ir_model.specs.declared.firmware.Inst.{Inst}
use Rattle.ir_model.specs.declared.firmware.Inst.TheVariants as inst
use Rattle.ir_model.specs.declared.firmware.Term.{Term}
use Rattle.ir_model.specs.declared.firmware.Term.TheVariants as term
use Rattle.ir_model.specs.declared.firmware.Block.{Block}
use Rattle.ir_model.specs.declared.firmware.Cell.{Cell}
use Rattle.ir_model.specs.declared.firmware.Cell.TheVariants.{Word, Function, Address}
use Rattle.ir_model.specs.declared.firmware.Peripheral.{Peripheral}
use Rattle.ir_model.specs.Types.{PlainType, U8, U16, U32, Pointer, Array, Named, Callee, PlainTypes, none, more, PlainResult, nothing, gives, is_integer, is_register_type, width_of}
use Rattle.ir_model.specs.Plain.{PlainBinding, PlainStruct, PlainGlobal, PlainFunc, PlainFile, PlainFirmware, names_of, funcs_of, regs_of}
use Rattle.ir_model.specs.Layout.{Known, known, CellPlace, shape, laid_out, empty}
use Rattle.base_names.specs.Numbers.{has}
use Rattle.ir_model.specs.Resolve.{labels_of, main_name}
use Rattle.ir_model.specs.Frames.{frame_size}
use Rattle.ir_model.specs.Rules.{global_type, func_type, is_type, is_address, is_port, inst_fits, term_fits}

pub record Failing : Type 0 where
  pub kind : CheckKind
  pub place : CheckPlace

abbrev pub Checks : Type 0
Checks = List (Option Failing)

abbrev pub check : (holds : Bool) → CheckKind → CheckPlace → Option Failing
check true k p = None
check false k p = Some (record { kind = k; place = p })

abbrev pub first_failing : Checks → Option Failing
first_failing [] = None
first_failing (None ∷ cs) = first_failing cs
first_failing (Some e ∷ cs) = Some e

-- a name that is new among others
abbrev pub is_new : List (List ℕ) → List ℕ → CheckPlace → Option Failing
is_new seen n p = check (not (has seen n)) (Twice n) p

-- a name that is there
abbrev pub is_known : (there : Bool) → List ℕ → CheckPlace → Option Failing
is_known there n p = check there (Unknown n) p

-- the struct names of a type from left to right: each declared, and one behind no pointer and no `fn` declared earlier
abbrev mutual
  pub type_checks : (declared earlier : List (List ℕ)) → CheckPlace → PlainType → Checks
  type_checks ds es p U8 = []
  type_checks ds es p U16 = []
  type_checks ds es p U32 = []
  type_checks ds es p (Pointer t) = type_checks ds ds p t
  type_checks ds es p (Array n t) = type_checks ds es p t
  type_checks ds es p (Named n) = is_known (has es n) n p ∷ []
  type_checks ds es p (Callee a r) = row_checks ds p a ++ result_checks ds p r

  pub row_checks : (declared : List (List ℕ)) → CheckPlace → PlainTypes → Checks
  row_checks ds p none = []
  row_checks ds p (more t ts) = type_checks ds ds p t ++ row_checks ds p ts

  pub result_checks : (declared : List (List ℕ)) → CheckPlace → PlainResult → Checks
  result_checks ds p nothing = []
  result_checks ds p (gives t) = type_checks ds ds p t

abbrev pub object_limit : ℕ
object_limit = 65536

-- structs: the name, the fields, and after the last field the size
abbrev pub field_checks : (declared earlier : List (List ℕ)) → CheckPlace → (seen : List (List ℕ)) → List PlainBinding → Checks
field_checks ds es p seen [] = []
field_checks ds es p seen (s ∷ ss) =
    (is_new seen s.name p ∷ type_checks ds es p s.ty) ++ field_checks ds es p (seen ++ s.name ∷ []) ss

abbrev pub struct_checks : (declared : List (List ℕ)) → (earlier : List PlainStruct) → PlainStruct → Checks
struct_checks ds es s =
    let p : CheckPlace = place.Struct s.name in
    let before : List (List ℕ) = map (λ (e : PlainStruct). e.name) es in
    (is_new before s.name p ∷ field_checks ds before p [] s.fields) ++ check (nat_le (laid_out (known es) empty s.fields).size object_limit) ObjectTooLarge p ∷ []

abbrev pub structs_checks : (declared : List (List ℕ)) → (earlier structs : List PlainStruct) → Checks
structs_checks ds es [] = []
structs_checks ds es (s ∷ ss) = struct_checks ds es s ++ structs_checks ds (es ++ s ∷ []) ss

-- peripherals: each a window, apart from the earlier ones
abbrev pub is_window : Peripheral → Bool
is_window q = is_window_size q.size && is_window_place q.base q.size

abbrev pub is_apart : (earlier : List Peripheral) → Peripheral → Bool
is_apart es q = list_all (λ e. are_apart e.base e.size q.base q.size) es

abbrev pub periph_checks : (earlier periphs : List Peripheral) → Checks
periph_checks es [] = []
periph_checks es (q ∷ qs) =
    (is_new (map (λ (e : Peripheral). e.name) es) q.name (place.Periph q.name)
    ∷ check (is_window q) BadWindow (place.Periph q.name)
    ∷ check (is_apart es q) WindowOverlap (place.Periph q.name)
    ∷ []) ++ periph_checks (es ++ q ∷ []) qs

-- globals: the name, the type, the size, and the cells
abbrev pub cell_checks : PlainFirmware → CheckPlace → Cell → PlainType → Checks
cell_checks w p (Word n) t = check (is_integer t && nat_lt n (2 ^ (8 * width_of t))) BadInit p ∷ []
cell_checks w p (Function f) t =
    is_known (has (map (λ (g : PlainFunc). g.name) (funcs_of w)) f) f p ∷ check (is_type (func_type (funcs_of w) f) t) BadInit p ∷ []
cell_checks w p (Address x) t =
    let is_periph : Bool = has (map (λ (q : Peripheral). q.name) w.periphs) x in
    let is_global : Bool = has (map (λ (g : PlainGlobal). g.name) w.globals) x in
    is_known (is_periph || is_global) x p ∷ check (if is_periph then is_port t else is_address (global_type w.globals x) t) BadInit p ∷ []

abbrev pub init_checks : PlainFirmware → CheckPlace → List Cell → List CellPlace → Checks
init_checks w p [] ts = []
init_checks w p (c ∷ cs) [] = []
init_checks w p (c ∷ cs) (t ∷ ts) = cell_checks w p c t.ty ++ init_checks w p cs ts

abbrev pub global_checks : PlainFirmware → (seen : List (List ℕ)) → PlainGlobal → Checks
global_checks w seen g =
    let p : CheckPlace = place.Global g.name in
    let ks : List Known = known w.structs in
    let ds : List (List ℕ) = map (λ (s : PlainStruct). s.name) w.structs in
    (is_new seen g.name p ∷ type_checks ds ds p g.ty)
    ++ (check (nat_le (shape ks g.ty).size object_limit) ObjectTooLarge p ∷ check (nat_le (length g.init) (length (shape ks g.ty).cells)) BadInit p ∷ [])
    ++ init_checks w p g.init (shape ks g.ty).cells

abbrev pub globals_checks : PlainFirmware → (seen : List (List ℕ)) → List PlainGlobal → Checks
globals_checks w seen [] = []
globals_checks w seen (g ∷ gs) = global_checks w seen g ++ globals_checks w (seen ++ g.name ∷ []) gs

-- files and the names of their functions, in order of the text
abbrev pub func_name_checks : (seen : List (List ℕ)) → List PlainFunc → Checks
func_name_checks seen [] = []
func_name_checks seen (f ∷ fs) = is_new seen f.name (place.Func f.name) ∷ func_name_checks (seen ++ f.name ∷ []) fs

abbrev pub file_checks : (files seen : List (List ℕ)) → List PlainFile → Checks
file_checks es seen [] = []
file_checks es seen (f ∷ fs) =
    (is_new es f.name (place.File f.name) ∷ func_name_checks seen f.funcs)
    ++ file_checks (es ++ f.name ∷ []) (seen ++ map (λ (g : PlainFunc). g.name) f.funcs) fs

-- parameters and registers: the name, the type's names, a register's type
abbrev pub register_checks : (declared : List (List ℕ)) → CheckPlace → (seen : List (List ℕ)) → List PlainBinding → Checks
register_checks ds p seen [] = []
register_checks ds p seen (s ∷ ss) =
    (is_new seen s.name p ∷ type_checks ds ds p s.ty) ++ check (is_register_type s.ty) IllTyped p ∷ [] ++ register_checks ds p (seen ++ s.name ∷ []) ss

abbrev pub outcome_checks : (declared : List (List ℕ)) → CheckPlace → PlainResult → Checks
outcome_checks ds p nothing = []
outcome_checks ds p (gives t) = type_checks ds ds p t ++ check (is_register_type t) IllTyped p ∷ []

abbrev pub local_checks : PlainFirmware → (declared : List (List ℕ)) → CheckPlace → (seen : List (List ℕ)) → List PlainBinding → Checks
local_checks w ds p seen [] = []
local_checks w ds p seen (s ∷ ss) =
    (is_new seen s.name p ∷ type_checks ds ds p s.ty) ++ check (nat_le (shape (known w.structs) s.ty).size object_limit) ObjectTooLarge p ∷ [] ++ local_checks w ds p (seen ++ s.name ∷ []) ss

abbrev pub label_checks : CheckPlace → (seen : List (List ℕ)) → List Block → Checks
label_checks p seen [] = []
label_checks p seen (b ∷ bs) = is_new seen b.label p ∷ label_checks p (seen ++ b.label ∷ []) bs

-- the names of an instruction from left to right
abbrev pub registers_known : PlainFunc → CheckPlace → List (List ℕ) → Checks
registers_known f p [] = []
registers_known f p (r ∷ rs) = is_known (has (names_of (regs_of f)) r) r p ∷ registers_known f p rs

abbrev pub optional_name : Option (List ℕ) → List (List ℕ)
optional_name None = []
optional_name (Some n) = n ∷ []

abbrev pub has_address : PlainFirmware → PlainFunc → List ℕ → Bool
has_address w f x = has (names_of f.locals) x || (has (map (λ (q : Peripheral). q.name) w.periphs) x || has (map (λ (g : PlainGlobal). g.name) w.globals) x)

abbrev pub has_func : PlainFirmware → List ℕ → Bool
has_func w g = has (map (λ (f : PlainFunc). f.name) (funcs_of w)) g

abbrev pub inst_names : PlainFirmware → PlainFunc → CheckPlace → Inst → Checks
inst_names w f p (inst.Const to v) = registers_known f p (to ∷ [])
inst_names w f p (inst.Move to from) = registers_known f p (to ∷ from ∷ [])
inst_names w f p (inst.Bin op to a b) = registers_known f p (to ∷ a ∷ b ∷ [])
inst_names w f p (inst.Cmp op to a b) = registers_known f p (to ∷ a ∷ b ∷ [])
inst_names w f p (inst.Addr to x) = registers_known f p (to ∷ []) ++ is_known (has_address w f x) x p ∷ []
inst_names w f p (inst.FAddr to g) = registers_known f p (to ∷ []) ++ is_known (has_func w g) g p ∷ []
inst_names w f p (inst.Elem to base i) = registers_known f p (to ∷ base ∷ i ∷ [])
inst_names w f p (inst.Field to base field) = registers_known f p (to ∷ base ∷ [])
inst_names w f p (inst.Load to from) = registers_known f p (to ∷ from ∷ [])
inst_names w f p (inst.Store to from) = registers_known f p (to ∷ from ∷ [])
inst_names w f p (inst.Call to g args) = registers_known f p (optional_name to) ++ is_known (has_func w g) g p ∷ [] ++ registers_known f p args
inst_names w f p (inst.ICall to g args) = registers_known f p (optional_name to) ++ registers_known f p (g ∷ args)

abbrev pub label_known : PlainFunc → CheckPlace → List ℕ → Option Failing
label_known f p l = is_known (has (labels_of f) l) l p

abbrev pub term_names : PlainFunc → CheckPlace → Term → Checks
term_names f p (term.Jump b) = label_known f p b ∷ []
term_names f p (term.Branch on a b) = registers_known f p (on ∷ []) ++ label_known f p a ∷ label_known f p b ∷ []
term_names f p (term.Ret v) = registers_known f p (optional_name v)

-- a block, from the instruction of this number on
abbrev pub code_checks : PlainFirmware → PlainFunc → (label : List ℕ) → (number : ℕ) → List Inst → Term → Checks
code_checks w f l k [] t =
    let p : CheckPlace = place.Inst f.name l k in
    term_names f p t ++ check (term_fits f t) IllTyped p ∷ []
code_checks w f l k (i ∷ is) t =
    let p : CheckPlace = place.Inst f.name l k in
    inst_names w f p i ++ check (inst_fits w f i) IllTyped p ∷ [] ++ code_checks w f l (suc k) is t

abbrev pub blocks_checks : PlainFirmware → PlainFunc → List Block → Checks
blocks_checks w f [] = []
blocks_checks w f (b ∷ bs) = code_checks w f b.label 0 b.insts b.term ++ blocks_checks w f bs

abbrev pub frame_limit : ℕ
frame_limit = 992

-- a function: its bindings in order, its frame, its labels, and its code
abbrev pub func_checks : PlainFirmware → PlainFunc → Checks
func_checks w f =
    let p : CheckPlace = place.Func f.name in
    let ds : List (List ℕ) = map (λ (s : PlainStruct). s.name) w.structs in
    let n : ℕ = frame_size (known w.structs) f in
    register_checks ds p [] f.params
    ++ outcome_checks ds p f.outcome
    ++ local_checks w ds p (names_of f.params) f.locals
    ++ register_checks ds p (names_of f.params ++ names_of f.locals) f.regs
    ++ (check (nat_le n frame_limit) (FrameTooLarge n) p ∷ label_checks p [] f.blocks)
    ++ blocks_checks w f f.blocks

abbrev pub funcs_checks : PlainFirmware → List PlainFunc → Checks
funcs_checks w [] = []
funcs_checks w (f ∷ fs) = func_checks w f ++ funcs_checks w fs

-- `main` takes and gives nothing
abbrev pub has_main : PlainFirmware → Bool
has_main w = is_type (func_type (funcs_of w) main_name) (Callee none nothing)

-- the checks of all structs and peripherals, which come first
abbrev pub declared_checks : PlainFirmware → Checks
declared_checks w = structs_checks (map (λ (s : PlainStruct). s.name) w.structs) [] w.structs ++ periph_checks [] w.periphs

unfoldable pub checks : PlainFirmware → Checks
checks w =
    structs_checks (map (λ (s : PlainStruct). s.name) w.structs) [] w.structs
    ++ periph_checks [] w.periphs
    ++ globals_checks w (map (λ (q : Peripheral). q.name) w.periphs) w.globals
    ++ file_checks [] (map (λ (q : Peripheral). q.name) w.periphs ++ map (λ (g : PlainGlobal). g.name) w.globals) w.files
    ++ funcs_checks w (funcs_of w)
    ++ check (has_main w) NoMain place.Whole ∷ []

-- the first check that fails, if one does
unfoldable pub fault_of : PlainFirmware → Option Failing
fault_of w = first_failing (checks w)

abbrev pub IsTyped : PlainFirmware → Type 0
IsTyped w = fault_of w ≡ None
