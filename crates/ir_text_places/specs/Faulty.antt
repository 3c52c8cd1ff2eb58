-- The item that a fault of a firmware names.
use Rattle.std.specs.Prelude.{ℕ, suc, ◌+◌, List, [], ◌∷◌, ◌++◌, map, drop, Bool, false, not, ◌&&◌, bytes_eq, if◌then◌else◌}
use Rattle.base_names.specs.Numbers.{has, number_of}
use Rattle.ir_model.specs.declared.check.CheckKind.{CheckKind}
use Rattle.ir_model.specs.declared.check.CheckKind.TheVariants.{Twice}
use Rattle.ir_model.specs.declared.check.CheckPlace.{CheckPlace}
use Rattle.ir_model.specs.declared.check.CheckPlace.TheVariants as place
use Rattle.ir_model.specs.declared.firmware.Peripheral.{Peripheral}
use Rattle.ir_model.specs.Plain.{PlainStruct, PlainGlobal, PlainFunc, PlainFile, PlainFirmware, names_of, funcs_of, func_names}
use Rattle.ir_model.specs.Resolve.{labels_of}
use Rattle.ir_model.specs.Typing.{Failing}
use Rattle.ir_text_places.specs.declared.item.Item.{Item}
use Rattle.ir_text_places.specs.declared.item.Item.TheVariants as item

abbrev pub Names : Type 0
Names = List (List ℕ)

-- the names behind the first that is this one
abbrev pub behind_first : Names → List ℕ → Names
behind_first ms n = drop (suc (number_of ms n)) ms

abbrev pub has_twice : Names → List ℕ → Bool
has_twice ms n = has (behind_first ms n) n

-- the number of the second that has a name, or of the first where there is no second
abbrev pub second_of : Names → List ℕ → ℕ
second_of ms n = if has_twice ms n then suc (number_of ms n) + number_of (behind_first ms n) n else number_of ms n

-- the number of an item by its name in a row, where a fault may be that its name is there again: then it is the second, unless something before
-- the row has the name already
abbrev pub number_in : (before row : Names) → (again : Bool) → List ℕ → ℕ
number_in before row again n = if again && not (has before n) then second_of row n else number_of row n

-- the fault is that something has this name again
abbrev pub is_again : CheckKind → List ℕ → Bool
is_again (Twice m) n = bytes_eq m n
is_again _ n = false

abbrev pub struct_row : PlainFirmware → Names
struct_row w = map (λ (s : PlainStruct). s.name) w.structs

abbrev pub periph_row : PlainFirmware → Names
periph_row w = map (λ (q : Peripheral). q.name) w.periphs

abbrev pub global_row : PlainFirmware → Names
global_row w = map (λ (g : PlainGlobal). g.name) w.globals

abbrev pub file_row : PlainFirmware → Names
file_row w = map (λ (f : PlainFile). f.name) w.files

-- the fields of the first of these structs, and the labels of the first of these functions
abbrev pub first_fields : List PlainStruct → Names
first_fields [] = []
first_fields (s ∷ ss) = names_of s.fields

abbrev pub first_labels : List PlainFunc → Names
first_labels [] = []
first_labels (f ∷ fs) = labels_of f

-- the first struct of a name has a field of that name again
abbrev pub is_of_field : PlainFirmware → List ℕ → Bool
is_of_field w n = has_twice (first_fields (drop (number_of (struct_row w) n) w.structs)) n

-- a place in the code of functions: in the first function of a name its first block of a label
abbrev pub code_at : List PlainFunc → (func block : List ℕ) → (place : ℕ) → Item
code_at fs f b i =
    let k : ℕ = number_of (func_names fs) f in
    item.Code k (number_of (first_labels (drop k fs)) b) i

abbrev pub item_at : PlainFirmware → CheckKind → CheckPlace → Item
item_at w k place.Whole = item.Whole
item_at w k (place.Struct n) = item.Struct (number_in [] (struct_row w) (is_again k n && not (is_of_field w n)) n)
item_at w k (place.Periph n) = item.Periph (number_in [] (periph_row w) (is_again k n) n)
item_at w k (place.Global n) = item.Global (number_in (periph_row w) (global_row w) (is_again k n) n)
item_at w k (place.File n) = item.File (number_in [] (file_row w) (is_again k n) n)
item_at w k (place.Func n) = item.Func (number_in (periph_row w ++ global_row w) (func_names (funcs_of w)) (is_again k n) n)
item_at w k (place.Inst f b i) = code_at (funcs_of w) f b i

unfoldable pub item_of : PlainFirmware → Failing → Item
item_of w e = item_at w e.kind e.place
