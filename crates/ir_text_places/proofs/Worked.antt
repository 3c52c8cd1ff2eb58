-- How many tokens stand before the items of a small firmware, counted by hand:
--
--     struct A { x: u32 }                 7 tokens
--     struct B { a: *A, y: u32 }         12
--     periph P 1073741824 256             4
--     global g: u32 = { 5 }               8
--     file m {                            3
--     func main() {                       5
--     reg r: u32                          4
--     b:                                  2
--     r = 1                               3
--     r = r                               3
--     ret
--     }
--     }
use Rattle.std.proofs.Common.{◌≡◌, refl, ℕ, [], ◌∷◌, None, false, codes}
use Rattle.ir_model.specs.declared.firmware.Inst.TheVariants as inst
use Rattle.ir_model.specs.declared.firmware.Term.TheVariants.{Ret}
use Rattle.ir_model.specs.declared.firmware.Cell.TheVariants.{Word}
use Rattle.ir_model.specs.declared.check.CheckKind.{CheckKind}
use Rattle.ir_model.specs.declared.check.CheckKind.TheVariants.{IllTyped, Twice}
use Rattle.ir_model.specs.declared.check.CheckPlace.{CheckPlace}
use Rattle.ir_model.specs.declared.check.CheckPlace.TheVariants as place
use Rattle.ir_model.specs.Types.{U32, Pointer, Named, nothing}
use Rattle.ir_model.specs.Plain.{PlainFirmware}
use Rattle.ir_text_places.specs.declared.item.Item.{Item}
use Rattle.ir_text_places.specs.declared.item.Item.TheVariants as item
use Rattle.ir_text_places.specs.Items.{tokens_before}
use Rattle.ir_text_places.specs.Faulty.{item_of}

abbrev small : PlainFirmware
small =
    record {
      structs =
          record { name = codes "A"; fields = record { name = codes "x"; ty = U32 } ∷ [] }
          ∷ record { name = codes "B"; fields = record { name = codes "a"; ty = Pointer (Named (codes "A")) } ∷ record { name = codes "y"; ty = U32 } ∷ [] }
          ∷ [];
      periphs = record { name = codes "P"; base = 1073741824; size = 256 } ∷ [];
      globals = record { name = codes "g"; constant = false; ty = U32; init = Word 5 ∷ [] } ∷ [];
      files =
          record {
            name = codes "m";
            funcs =
                record {
                  name = codes "main";
                  params = [];
                  outcome = nothing;
                  locals = [];
                  regs = record { name = codes "r"; ty = U32 } ∷ [];
                  blocks = record { label = codes "b"; insts = inst.Const (codes "r") 1 ∷ inst.Move (codes "r") (codes "r") ∷ []; term = Ret None } ∷ [];
                } ∷ [];
          } ∷ [];
    }

abbrev Counts : Item → ℕ → Type 0
Counts i n = tokens_before small i ≡ n

whole : Counts item.Whole 0
unfolding tokens_before
whole = refl

first_struct : Counts (item.Struct 0) 0
unfolding tokens_before
first_struct = refl

second_struct : Counts (item.Struct 1) 7
unfolding tokens_before
second_struct = refl

periph : Counts (item.Periph 0) 19
unfolding tokens_before
periph = refl

global : Counts (item.Global 0) 23
unfolding tokens_before
global = refl

file : Counts (item.File 0) 31
unfolding tokens_before
file = refl

func : Counts (item.Func 0) 34
unfolding tokens_before
func = refl

first_instruction : Counts (item.Code 0 0 0) 45
unfolding tokens_before
first_instruction = refl

second_instruction : Counts (item.Code 0 0 1) 48
unfolding tokens_before
second_instruction = refl

end_of_block : Counts (item.Code 0 0 2) 51
unfolding tokens_before
end_of_block = refl

-- which items faults name
abbrev Means : CheckKind → CheckPlace → Item → Type 0
Means k p i = item_of small (record { kind = k; place = p }) ≡ i

struct_named : Means IllTyped (place.Struct (codes "B")) (item.Struct 1)
unfolding item_of
struct_named = refl

code_named : Means IllTyped (place.Inst (codes "main") (codes "b") 1) (item.Code 0 0 1)
unfolding item_of
code_named = refl

-- a register `main` would be `main` again, and there is no second function of the name
func_named : Means (Twice (codes "main")) (place.Func (codes "main")) (item.Func 0)
unfolding item_of
func_named = refl
