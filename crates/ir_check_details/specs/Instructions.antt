-- The lines of an instruction whose types do not fit: the first register that does not fit, as its rule goes from left to right, and what it had to be.
use Rattle.std.specs.Prelude.{ℕ, List, [], ◌∷◌, ◌++◌, map, codes, Bool, true, false, Option, Some, None, if◌then◌else◌}
use Rattle.ir_model.specs.declared.firmware.Peripheral.{Peripheral}
use Rattle.ir_model.specs.Types.{PlainType, U32, Pointer, Named, is_integer, is_register_type, element_of}
use Rattle.ir_model.specs.Plain.{PlainBinding, PlainStruct, PlainFunc, PlainFirmware}
use Rattle.base_names.specs.Numbers.{has}
use Rattle.ir_model.specs.Resolve.{type_named, signature_of}
use Rattle.ir_model.specs.Rules.{binding_type, global_type, is_number}
use Rattle.ir_check_details.specs.Words.{found, found_typed, expected, expected_type}
use Rattle.ir_check_details.specs.Found.{func_in, struct_named}

-- a register of a function, with its type
abbrev pub found_register : PlainFunc → (register : List ℕ) → List ℕ
found_register f r = found_typed r (type_named f r)

-- a register that had to be a number
abbrev pub number_lines : PlainFunc → (register : List ℕ) → List ℕ
number_lines f r = found_register f r ++ expected_type U32

-- the lines of the first that is no number, of three registers that had to be numbers
abbrev pub numbers_lines : PlainFunc → (to a b : List ℕ) → List ℕ
numbers_lines f to a b =
    if is_number f to then (if is_number f a then number_lines f b else number_lines f a) else number_lines f to

-- a copy of a register into another
abbrev pub move_lines : PlainFunc → (to from : List ℕ) → List ℕ
move_lines f to from = found_register f from ++ expected_type (type_named f to)

-- the address of a local, or of a peripheral, or of a global
abbrev pub expected_address : (local : Option PlainType) → (is_periph : Bool) → (global : Option PlainType) → List ℕ
expected_address (Some t) q g = expected_type (Pointer t)
expected_address None true g = expected (codes "* u8 or * u16 or * u32")
expected_address None false (Some t) = expected_type (Pointer t)
expected_address None false None = []

abbrev pub addr_lines : PlainFirmware → PlainFunc → (to of : List ℕ) → List ℕ
addr_lines w f to x =
    found_register f to ++ expected_address (binding_type f.locals x) (has (map (λ (q : Peripheral). q.name) w.periphs) x) (global_type w.globals x)

-- a function that is there
abbrev pub expected_func : Option PlainFunc → List ℕ
expected_func None = []
expected_func (Some g) = expected_type (signature_of g)

abbrev pub faddr_lines : PlainFirmware → PlainFunc → (to of : List ℕ) → List ℕ
faddr_lines w f to g = found_register f to ++ expected_func (func_in w.files g)

-- a base that is no pointer
abbrev pub no_pointer_lines : PlainFunc → (base : List ℕ) → List ℕ
no_pointer_lines f base = found_register f base ++ expected (codes "a pointer")

-- the pointer to an element, by the type of the base
abbrev pub element_lines : PlainFunc → (to base : List ℕ) → PlainType → List ℕ
element_lines f to base (Pointer t) = found_register f to ++ expected_type (Pointer (element_of t))
element_lines f to base _ = no_pointer_lines f base

abbrev pub elem_lines : PlainFunc → (to base index : List ℕ) → List ℕ
elem_lines f to base i = if is_number f i then element_lines f to base (type_named f base) else number_lines f i

-- names with `or` between two
abbrev pub or_more : List PlainBinding → List ℕ
or_more [] = []
or_more (s ∷ ss) = codes " or " ++ s.name ++ or_more ss

abbrev pub any_of : List PlainBinding → List ℕ
any_of [] = []
any_of (s ∷ ss) = s.name ++ or_more ss

-- a field that is not there
abbrev pub no_field_lines : (field : List ℕ) → (fields : List PlainBinding) → List ℕ
no_field_lines n ss = found n ++ expected (any_of ss)

-- the pointer to a field of a struct with these fields, by the type of the field if it is there
abbrev pub named_field_lines : PlainFunc → (to field : List ℕ) → (fields : List PlainBinding) → Option PlainType → List ℕ
named_field_lines f to n ss None = no_field_lines n ss
named_field_lines f to n ss (Some t) = found_register f to ++ expected_type (Pointer t)

abbrev pub struct_field_lines : PlainFunc → (to field : List ℕ) → (fields : List PlainBinding) → List ℕ
struct_field_lines f to n ss = named_field_lines f to n ss (binding_type ss n)

-- the same, where the struct is there
abbrev pub of_struct_lines : PlainFunc → (to field : List ℕ) → Option PlainStruct → List ℕ
of_struct_lines f to n None = []
of_struct_lines f to n (Some s) = struct_field_lines f to n s.fields

-- a base that is no pointer to a struct
abbrev pub no_struct_lines : PlainFunc → (base : List ℕ) → List ℕ
no_struct_lines f base = found_register f base ++ expected (codes "a pointer to a struct")

-- the pointer to a field, by the type of the base
abbrev pub field_lines : PlainFirmware → PlainFunc → (to base field : List ℕ) → PlainType → List ℕ
field_lines w f to base n (Pointer (Named s)) = of_struct_lines f to n (struct_named w.structs s)
field_lines w f to base n _ = no_struct_lines f base

-- a pointer to nothing that a register can hold
abbrev pub no_cell_lines : PlainFunc → (pointer : List ℕ) → List ℕ
no_cell_lines f p = found_register f p ++ expected (codes "a pointer to a number, a pointer or a function")

-- a load or a store, by the type of the pointer: an integer is widened
abbrev pub cell_lines : PlainFunc → (pointer register : List ℕ) → PlainType → List ℕ
cell_lines f p r (Pointer t) =
    if is_integer t then number_lines f r else if is_register_type t then found_register f r ++ expected_type t else no_cell_lines f p
cell_lines f p r _ = no_cell_lines f p

abbrev pub access_lines : PlainFunc → (pointer register : List ℕ) → List ℕ
access_lines f p r = cell_lines f p r (type_named f p)
