-- Beyond the program's claim: only laws, proofs and functions inside the tool cite this file.
-- The bytes of an assembly decode to what was put into it.
use Rattle.std.specs.Prelude.{◌≡◌, ℕ, ◌+◌, ◌*◌, List, length, take, Option, Some, None, slice_get}
use Rattle.std.proofs.Math.ListN.{get_or}
use Rattle.machine_thumb.specs.declared.table.Instr.{Instr}
use Rattle.machine_thumb.specs.Decoded.{decoded}
use Rattle.machine_thumb_asm.specs.declared.item.Item.{Item}
use Rattle.machine_thumb_asm.specs.declared.item.Item.TheVariants.{Plain, Branch, Half, Word}
use Rattle.machine_thumb_asm.specs.Assembly.{Assembly, IsAssembly, ArePut, total, place_of}
use Rattle.machine_thumb_asm.specs.Finished.{branch, assembled, first_far}

-- the halfword at an offset
abbrev pub half_at : List ℕ → ℕ → ℕ
half_at bytes o = get_or bytes o 0 + 256 * get_or bytes (o + 1) 0

-- the instruction of a piece at an address; data has none
abbrev pub instruction_of : (places : List (Option ℕ)) → (at : ℕ) → Item → Option Instr
instruction_of places at (Plain x) = Some x
instruction_of places at (Branch kind to) = Some (branch kind at (place_of places to.number))
instruction_of places at (Half h) = None
instruction_of places at (Word w) = None

-- each instruction and each branch is decoded where it stands, and the branch is one to its label
abbrev pub BytesDecode : Type 0
BytesDecode =
    (a : Assembly) (k : ℕ) (item : Item) (x : Instr) → IsAssembly a → ArePut a.places a.items → first_far a.places a.base a.items ≡ None
    → slice_get a.items k ≡ Some item → instruction_of a.places (a.base + total (take k a.items)) item ≡ Some x
    → let bytes : List ℕ = assembled a in
    let o : ℕ = total (take k a.items) in
    decoded (half_at bytes o) (half_at bytes (o + 2)) ≡ Some x

-- as many bytes as the pieces take
abbrev pub BytesFill : Type 0
BytesFill = (a : Assembly) → IsAssembly a → length (assembled a) ≡ total a.items
