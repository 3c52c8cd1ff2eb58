-- Pieces that were put into an assembly: their instructions are in the table, and their bytes fill it.
use Rattle.std.proofs.Common.{◌≡◌, ℕ, ◌+◌, ◌%◌, ◌<◌, ◌^◌, List, [], ◌∷◌, length, None, IsSome, sym, ◌∙◌, subst, arith}
use Rattle.std.proofs.Math.ListN.{get_or}
use Rattle.machine_thumb_asm.specs.declared.item.Item.{Item}
use Rattle.machine_thumb_asm.specs.declared.item.Item.TheVariants.{Plain, Branch, Half, Word}
use Rattle.machine_thumb_asm.specs.Assembly.{Assembly, branch_size, size_of, total, here, place_of, AreItems, ArePut, IsAssembly}
use Rattle.machine_thumb_asm.specs.Finished.{first_far}
use Rattle.machine_model.specs.Code.{size}
use Rattle.machine_model.proofs.CodeParts.{width-encode}
use Rattle.code_effects.specs.Items.{InstructionsInTable}
use Rattle.base_laws.proofs.Options.{some_is}
use Rattle.machine_thumb_asm.proofs.Items.{branch_even}
use Rattle.machine_thumb_asm.proofs.Reaching.{even_place as place_is, near_first, size_even}
use Rattle.machine_thumb_asm.proofs.Decoded.{branch_in_table}

label_is : (a : Assembly) (l : ℕ) → IsAssembly a → IsSome (get_or a.places l None) → (place_of a.places l % 2 ≡ a.base % 2) × (place_of a.places l < 2 ^ 31)
label_is a l h p =
    let s = some_is (get_or a.places l None) p in
    let v = place_is a l s.0 h s.1 in
    rw s.1 v

-- ---- branches that reach their labels

-- ---- all pieces

pub in_table : (a : Assembly) → IsAssembly a → (xs : List Item) (at : ℕ) → at + total xs ≡ here a → at % 2 ≡ a.base % 2 → AreItems (length a.places) xs → ArePut a.places xs → first_far a.places at xs ≡ None →
    InstructionsInTable a.places at xs
in_table a h [] at room even items put far = tt
in_table a h (Plain x ∷ xs) at room even items put far =
    let w = width-encode x in
    let e = size_even (Plain x) in
    let z : at + size_of (Plain x) ≡ at + size x = omega arith in
    (items.0, subst (λ (n : ℕ). InstructionsInTable a.places n xs) z (in_table a h xs (at + size_of (Plain x)) (omega arith) (omega arith) items.1 put far))
in_table a h (Branch kind to ∷ xs) at room even items put far =
    let e = branch_even kind in
    let r = h.room in
    let f = near_first a.places at kind to xs far in
    let l = label_is a to.number h put.0 in
    (branch_in_table kind at (place_of a.places to.number) items.0.0 (omega arith) l.1 f.0 (l.0 ∙ sym even), in_table a h xs (at + branch_size kind) (omega arith) (omega arith) items.1 put.1 f.1)
in_table a h (Half v ∷ xs) at room even items put far = (items.0, in_table a h xs (at + 2) (omega arith) (omega arith) items.1 put far)
in_table a h (Word v ∷ xs) at room even items put far = (items.0, in_table a h xs (at + 4) (omega arith) (omega arith) items.1 put far)
