-- The bytes of an assembly, or the first branch that does not reach its label.
use Rattle.std.specs.Prelude.{◌≡◌, ℕ, ℤ, pos, ◌+◌, ◌-ℤ◌, ◌/◌, ◌%◌, ◌^◌, Bool, ◌&&◌, List, [], ◌∷◌, ◌++◌, Option, Some, None, Result, Ok, Err, nat_le, nat_lt, if◌then◌else◌}
use Rattle.machine_thumb.specs.declared.table.Instr.{Instr}
use Rattle.machine_thumb.specs.declared.table.Instr.TheVariants.{BranchConditional, CallBranch, BranchLink, BranchWide}
use Rattle.machine_thumb.specs.Table.{encode}
use Rattle.machine_thumb.specs.Bytes.{bytes_of_half, bytes_of_code}
use Rattle.machine_thumb_asm.specs.declared.item.BranchKind.{BranchKind}
use Rattle.machine_thumb_asm.specs.declared.item.BranchKind.TheVariants.{Cond, Short, Long, Link}
use Rattle.machine_thumb_asm.specs.declared.item.Item.{Item}
use Rattle.machine_thumb_asm.specs.declared.item.Item.TheVariants.{Plain, Branch, Half, Word}
use Rattle.machine_thumb_asm.specs.declared.refusal.AsmRefusal.{AsmRefusal}
use Rattle.machine_thumb_asm.specs.declared.refusal.AsmRefusal.TheVariants.{NoMemory, FarBranch}
use Rattle.machine_thumb_asm.specs.Assembly.{Assembly, branch_size, size_of, place_of}

-- a branch counts from its address plus 4 (A4.3.1, A5.1.2)
abbrev pub distance : (from to : ℕ) → ℤ
distance from to = pos to -ℤ pos (from + 4)

-- the instruction that branches from one address to another
abbrev pub branch : BranchKind → (from to : ℕ) → Instr
branch (Cond c) from to = BranchConditional c (distance from to)
branch Short from to = CallBranch 1 0 (distance from to)
branch Long from to = BranchWide (distance from to)
branch Link from to = BranchLink (distance from to)

-- distances are not below minus this, and below it
abbrev pub reach : BranchKind → ℕ
reach (Cond c) = 256
reach Short = 2048
reach Long = 2 ^ 24
reach Link = 2 ^ 24

abbrev pub is_near : (limit from to : ℕ) → Bool
is_near limit from to = nat_le (from + 4) (to + limit) && nat_lt to (from + 4 + limit)

-- the first branch that does not reach its label, as the refusal names it: its address and the label's
abbrev pub first_far : (places : List (Option ℕ)) → (at : ℕ) → List Item → Option AsmRefusal
first_far places at [] = None
first_far places at (Branch kind to ∷ items) =
    if is_near (reach kind) at (place_of places to.number) then first_far places (at + branch_size kind) items
    else Some (FarBranch at (place_of places to.number))
first_far places at (item ∷ items) = first_far places (at + size_of item) items

-- the bytes of a piece at an address; words with the lowest byte first
abbrev pub bytes_at : (places : List (Option ℕ)) → (at : ℕ) → Item → List ℕ
bytes_at places at (Plain x) = bytes_of_code (encode x)
bytes_at places at (Branch kind to) = bytes_of_code (encode (branch kind at (place_of places to.number)))
bytes_at places at (Half h) = bytes_of_half h
bytes_at places at (Word w) = bytes_of_half (w % 2 ^ 16) ++ bytes_of_half (w / 2 ^ 16)

abbrev pub bytes_from : (places : List (Option ℕ)) → (at : ℕ) → List Item → List ℕ
bytes_from places at [] = []
bytes_from places at (item ∷ items) = bytes_at places at item ++ bytes_from places (at + size_of item) items

-- what putting one piece behind others answers: the address behind it
abbrev pub Puts : (places : List (Option ℕ)) → (at : ℕ) → Item → (old new : List ℕ) → Result ℕ AsmRefusal → Type 0
Puts places at item old new (Ok next) =
    (first_far places at (item ∷ []) ≡ None) × (new ≡ old ++ bytes_at places at item) × (next ≡ at + size_of item)
Puts places at item old new (Err NoMemory) = Unit {0}
Puts places at item old new (Err e) = first_far places at (item ∷ []) ≡ Some e

-- whether all branches reach their labels, or which is the first that does not
abbrev pub Reaches : {T : Type 0} → Assembly → Result T AsmRefusal → Type 0
Reaches a (Ok bytes) = first_far a.places a.base a.items ≡ None
Reaches a (Err NoMemory) = Unit {0}
Reaches a (Err e) = first_far a.places a.base a.items ≡ Some e

-- the bytes of an assembly
abbrev pub assembled : Assembly → List ℕ
assembled a = bytes_from a.places a.base a.items
