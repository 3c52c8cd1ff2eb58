-- The typing rules of instructions and block ends, as tests.
use Rattle.std.specs.Prelude.{ℕ, List, [], ◌∷◌, map, Bool, true, false, ◌&&◌, Option, Some, None, if◌then◌else◌, bytes_eq}
use Rattle.ir_model.specs.declared.firmware.Inst.{Inst}
use Rattle.ir_model.specs.declared.firmware.Inst.TheVariants as inst
use Rattle.ir_model.specs.declared.firmware.Term.{Term}
use Rattle.ir_model.specs.declared.firmware.Term.TheVariants as term
use Rattle.ir_model.specs.declared.firmware.Peripheral.{Peripheral}
use Rattle.ir_model.specs.Types.{PlainType, U32, Pointer, Array, Named, Callee, PlainTypes, none, more, PlainResult, nothing, gives, same, same_result, is_integer, is_register_type}
use Rattle.ir_model.specs.Plain.{PlainBinding, PlainGlobal, PlainFunc, PlainFirmware, funcs_of, names_of}
use Rattle.ir_model.specs.Layout.{Known, FieldPlace, fields_named}
use Rattle.base_names.specs.Numbers.{has}
use Rattle.ir_model.specs.Resolve.{row_from, type_named, scope_of}

-- the first of a name
abbrev pub binding_type : List PlainBinding → List ℕ → Option PlainType
binding_type [] n = None
binding_type (s ∷ ss) n = if bytes_eq s.name n then Some s.ty else binding_type ss n

abbrev pub global_type : List PlainGlobal → List ℕ → Option PlainType
global_type [] n = None
global_type (g ∷ gs) n = if bytes_eq g.name n then Some g.ty else global_type gs n

abbrev pub field_type : List FieldPlace → List ℕ → Option PlainType
field_type [] n = None
field_type (f ∷ fs) n = if bytes_eq f.name n then Some f.ty else field_type fs n

abbrev pub func_type : List PlainFunc → List ℕ → Option PlainType
func_type [] n = None
func_type (f ∷ fs) n = if bytes_eq f.name n then Some (Callee (row_from f.params) f.outcome) else func_type fs n

-- a type that is there is this one
abbrev pub is_type : Option PlainType → PlainType → Bool
is_type None t = false
is_type (Some u) t = same u t

-- the address of something of this type
abbrev pub is_address : Option PlainType → PlainType → Bool
is_address None t = false
is_address (Some u) t = same (Pointer u) t

-- the address of a peripheral
abbrev pub is_port : PlainType → Bool
is_port (Pointer t) = is_integer t
is_port _ = false

-- the address that `addr` takes: of a local first
abbrev pub is_address_of : PlainFirmware → PlainFunc → List ℕ → PlainType → Bool
is_address_of w f x t =
    if has (names_of f.locals) x then is_address (binding_type f.locals x) t
    else if has (map (λ (p : Peripheral). p.name) w.periphs) x then is_port t
    else is_address (global_type w.globals x) t

-- the pointer to an element
abbrev pub is_element : (base to : PlainType) → Bool
is_element (Pointer (Array n t)) u = same (Pointer t) u
is_element (Pointer t) u = same (Pointer t) u
is_element _ u = false

-- the pointer to a field
abbrev pub is_field : List Known → (base : PlainType) → List ℕ → (to : PlainType) → Bool
is_field ks (Pointer (Named s)) f u = is_address (field_type (fields_named ks s) f) u
is_field ks _ f u = false

-- the register of a cell that is pointed to: an integer is widened
abbrev pub holds_cell : (pointer register : PlainType) → Bool
holds_cell (Pointer t) u = if is_integer t then same u U32 else (is_register_type t && same t u)
holds_cell _ u = false

-- arguments of these types
abbrev pub fit : (PlainTypes) → List PlainType → Bool
fit none [] = true
fit (more t ts) (u ∷ us) = same t u && fit ts us
fit _ _ = false

-- a result may be dropped, and is kept only where there is one
abbrev pub takes_result : PlainResult → Option PlainType → Bool
takes_result r None = true
takes_result r (Some t) = same_result r (gives t)

abbrev pub is_call : Option PlainType → (args : List PlainType) → (kept : Option PlainType) → Bool
is_call (Some (Callee a r)) us k = fit a us && takes_result r k
is_call _ us k = false

abbrev pub kept_type : PlainFunc → Option (List ℕ) → Option PlainType
kept_type f None = None
kept_type f (Some n) = Some (type_named f n)

abbrev pub is_number : PlainFunc → List ℕ → Bool
is_number f n = same (type_named f n) U32

unfoldable pub inst_fits : PlainFirmware → PlainFunc → Inst → Bool
inst_fits w f (inst.Const to v) = is_number f to
inst_fits w f (inst.Move to from) = same (type_named f to) (type_named f from)
inst_fits w f (inst.Bin op to a b) = is_number f to && (is_number f a && is_number f b)
inst_fits w f (inst.Cmp op to a b) = is_number f to && (is_number f a && is_number f b)
inst_fits w f (inst.Addr to x) = is_address_of w f x (type_named f to)
inst_fits w f (inst.FAddr to g) = is_type (func_type (funcs_of w) g) (type_named f to)
inst_fits w f (inst.Elem to base i) = is_number f i && is_element (type_named f base) (type_named f to)
inst_fits w f (inst.Field to base field) = is_field (scope_of w).known (type_named f base) field (type_named f to)
inst_fits w f (inst.Load to from) = holds_cell (type_named f from) (type_named f to)
inst_fits w f (inst.Store to from) = holds_cell (type_named f to) (type_named f from)
inst_fits w f (inst.Call to g args) = is_call (func_type (funcs_of w) g) (map (type_named f) args) (kept_type f to)
inst_fits w f (inst.ICall to g args) = is_call (Some (type_named f g)) (map (type_named f) args) (kept_type f to)

abbrev pub returned_type : PlainFunc → Option (List ℕ) → PlainResult
returned_type f None = nothing
returned_type f (Some r) = gives (type_named f r)

unfoldable pub term_fits : PlainFunc → Term → Bool
term_fits f (term.Jump b) = true
term_fits f (term.Branch on a b) = is_number f on
term_fits f (term.Ret v) = same_result f.outcome (returned_type f v)
