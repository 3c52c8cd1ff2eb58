-- What an assembler holds. Addresses and sizes are in bytes.
use Rattle.std.specs.Prelude.{◌≡◌, ℕ, ◌+◌, ◌%◌, ◌<◌, ◌^◌, List, [], ◌∷◌, length, take, Option, Some, None, IsSome}
use Rattle.std.proofs.Math.ListN.{get_or}
use Rattle.machine_thumb.specs.Table.{InTable, encode, width_of}
use Rattle.machine_thumb_asm.specs.declared.item.BranchKind.{BranchKind}
use Rattle.machine_thumb_asm.specs.declared.item.BranchKind.TheVariants.{Cond, Short, Long, Link}
use Rattle.machine_thumb_asm.specs.declared.item.Item.{Item}
use Rattle.machine_thumb_asm.specs.declared.item.Item.TheVariants.{Plain, Branch, Half, Word}

-- the address of the first byte, the pieces in order, and the address of each label that was put
pub record Assembly : Type 0 where
  pub base : ℕ
  pub items : List Item
  pub places : List (Option ℕ)

abbrev pub branch_size : BranchKind → ℕ
branch_size (Cond c) = 2
branch_size Short = 2
branch_size Long = 4
branch_size Link = 4

abbrev pub size_of : Item → ℕ
size_of (Plain x) = width_of (encode x)
size_of (Branch kind to) = branch_size kind
size_of (Half h) = 2
size_of (Word w) = 4

abbrev pub total : List Item → ℕ
total [] = 0
total (i ∷ is) = size_of i + total is

-- the address of the next byte
abbrev pub here : Assembly → ℕ
here a = a.base + total a.items

-- where a label was put; 0 where it was not
abbrev pub put_at : Option ℕ → ℕ
put_at None = 0
put_at (Some p) = p

abbrev pub place_of : List (Option ℕ) → (label : ℕ) → ℕ
place_of places l = put_at (get_or places l None)

-- a condition that the instruction table has
abbrev pub HasCondition : BranchKind → Type 0
HasCondition (Cond c) = c < 14
HasCondition _ = Unit {0}

-- an instruction of the table, a branch to one of so many labels, or data
abbrev pub IsItem : (labels : ℕ) → Item → Type 0
IsItem n (Plain x) = InTable x
IsItem n (Branch kind to) = HasCondition kind × (to.number < n)
IsItem n (Half h) = h < 2 ^ 16
IsItem n (Word w) = w < 2 ^ 32

abbrev pub AreItems : (labels : ℕ) → List Item → Type 0
AreItems n [] = Unit {0}
AreItems n (i ∷ is) = IsItem n i × AreItems n is

-- each label that a branch goes to was put
abbrev pub ArePut : (places : List (Option ℕ)) → List Item → Type 0
ArePut places [] = Unit {0}
ArePut places (Branch kind to ∷ items) = IsSome (get_or places to.number None) × ArePut places items
ArePut places (item ∷ items) = ArePut places items

-- a branch at an address goes to a place at an even distance below 2^31
abbrev pub GoesSomewhere : (places : List (Option ℕ)) → (at : ℕ) → Item → Type 0
GoesSomewhere places at (Branch kind to) = (place_of places to.number % 2 ≡ at % 2) × (place_of places to.number < 2 ^ 31)
GoesSomewhere places at _ = Unit {0}

-- an address between two pieces
abbrev pub IsBetween : Assembly → ℕ → Type 0
IsBetween a p = (k : ℕ) × (p ≡ a.base + total (take k a.items))

pub record IsAssembly (a : Assembly) : Type 0 where
  pub items : AreItems (length a.places) a.items
  pub places : (l p : ℕ) → get_or a.places l None ≡ Some p → IsBetween a p
  pub room : here a < 2 ^ 31
