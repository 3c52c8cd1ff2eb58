-- Pieces of an assembly that have an encoding: their instructions are in the table, and their branches go wherever code of flash goes.
use Rattle.std.proofs.Common.{◌≡◌, ℕ, ◌+◌, ◌/◌, ◌%◌, ◌^◌, ◌<◌, true, List, [], ◌∷◌, ◌++◌, Option, None, sym, ◌∙◌, subst, arith}
use Rattle.std.proofs.lemmas.Bool.Decides.{nat_tests}
use Rattle.std.proofs.lemmas.Int.{ints}
use Rattle.base_laws.specs.Lists.{EachBelow}
use Rattle.machine_thumb.specs.declared.table.Instr.{Instr}
use Rattle.machine_thumb.specs.Table.{InTable, IsOffset, encode}
use Rattle.machine_thumb.specs.Bytes.{bytes_of_half, bytes_of_code, EachInTable}
use Rattle.machine_thumb.specs.Laws.{ShowsItsLength}
use Rattle.machine_thumb_asm.specs.declared.item.BranchKind.{BranchKind}
use Rattle.machine_thumb_asm.specs.declared.item.BranchKind.TheVariants.{Cond, Short, Long, Link}
use Rattle.machine_thumb_asm.specs.declared.item.Item.{Item}
use Rattle.machine_thumb_asm.specs.declared.item.Item.TheVariants.{Plain, Branch, Half, Word}
use Rattle.machine_thumb_asm.specs.Assembly.{branch_size, size_of, total, place_of}
use Rattle.machine_thumb_asm.specs.Finished.{distance, branch, reach, is_near, first_far, bytes_from}
use Rattle.machine_model.specs.Code.{size}
use Rattle.machine_model.proofs.CodeParts.{width-encode}
use Rattle.code_model.specs.Words.{plain}
use Rattle.code_effects.specs.Items.{InstructionsInTable}
use Rattle.image_promises.proofs.ByteLists.{below-append, half_below, encoded_below}
use Rattle.machine_thumb_asm.proofs.Items.{branch_even}
use Rattle.machine_thumb_asm.proofs.Reaching.{near_first, size_even}

abbrev IsLong : BranchKind → Type 0
IsLong Long = Unit {0}
IsLong _ = ⊥

abbrev pub Encodable : List Item → Type 0
Encodable [] = Unit {0}
Encodable (Plain x ∷ more) = InTable x × Encodable more
Encodable (Branch kind to ∷ more) = IsLong kind × Encodable more
Encodable (Half h ∷ more) = (h < 2 ^ 16) × Encodable more
Encodable (Word w ∷ more) = (w < 2 ^ 32) × Encodable more

pub encodable-append : (xs ys : List Item) → Encodable xs → Encodable ys → Encodable (xs ++ ys)
encodable-append [] ys a b = b
encodable-append (Plain x ∷ xs) ys a b = (a.0, encodable-append xs ys a.1 b)
encodable-append (Branch kind to ∷ xs) ys a b = (a.0, encodable-append xs ys a.1 b)
encodable-append (Half h ∷ xs) ys a b = (a.0, encodable-append xs ys a.1 b)
encodable-append (Word w ∷ xs) ys a b = (a.0, encodable-append xs ys a.1 b)

pub plain_encodable : (xs : List Instr) → EachInTable xs → Encodable (plain xs)
plain_encodable [] h = tt
plain_encodable (x ∷ xs) h = (h.0, plain_encodable xs h.1)

-- ---- sizes

-- ---- branches

-- from and to addresses in a MiB
pub offset_in : (from to : ℕ) → from < 2 ^ 31 → to < 2 ^ 31 → is_near (2 ^ 24) from to ≡ true → to % 2 ≡ from % 2 → IsOffset (2 ^ 24) (distance from to)
offset_in from to a t near even = grind (arith, ints, nat_tests)

-- labels lead to even addresses
abbrev pub LeadEven : List (Option ℕ) → Type 0
LeadEven labels = (l : ℕ) → (place_of labels l % 2 ≡ 0) × (place_of labels l < 2 ^ 31)

module _ (labels : List (Option ℕ)) (even : LeadEven labels) where
  branch_in : (kind : BranchKind) (at l : ℕ) → IsLong kind → at < 2 ^ 31 → at % 2 ≡ 0 → is_near (reach kind) at (place_of labels l) ≡ true → InTable (branch kind at (place_of labels l))
  branch_in (Cond c) at l k a e near = absurd k
  branch_in Short at l k a e near = absurd k
  branch_in Link at l k a e near = absurd k
  branch_in Long at l k a e near = let p = (even l).0 in offset_in at (place_of labels l) a (even l).1 near (p ∙ sym e)

  -- where no branch is far
  pub in_table : (xs : List Item) (at : ℕ) → Encodable xs → at % 2 ≡ 0 → at + total xs < 2 ^ 31 → first_far labels at xs ≡ None → InstructionsInTable labels at xs
  in_table [] at h e room far = tt
  in_table (Plain x ∷ xs) at h e room far =
      let w = width-encode x in
      let v = size_even (Plain x) in
      let z : at + size_of (Plain x) ≡ at + size x = omega (arith, w) in
      (h.0, subst (λ n. InstructionsInTable labels n xs) z (in_table xs (at + size_of (Plain x)) h.1 (omega (arith, e, v)) (omega (arith, room)) far))
  in_table (Branch kind to ∷ xs) at h e room far =
      let v = branch_even kind in
      let n = near_first labels at kind to xs far in
      (branch_in kind at to.number h.0 (omega (arith, room)) e n.0, in_table xs (at + branch_size kind) h.1 (omega (arith, e, v)) (omega (arith, room)) n.1)
  in_table (Half v ∷ xs) at h e room far = (h.0, in_table xs (at + 2) h.1 (omega (arith, e)) (omega (arith, room)) far)
  in_table (Word v ∷ xs) at h e room far = (h.0, in_table xs (at + 4) h.1 (omega (arith, e)) (omega (arith, room)) far)

-- ---- bytes

pub pieces_below : ShowsItsLength → (labels : List (Option ℕ)) (at : ℕ) (xs : List Item) → InstructionsInTable labels at xs → EachBelow 256 (bytes_from labels at xs)
pieces_below law labels at [] h = tt
pieces_below law labels at (Plain x ∷ xs) h =
    let w = width-encode x in
    let z : at + size x ≡ at + size_of (Plain x) = omega (arith, w) in
    below-append 256 (bytes_of_code (encode x)) (bytes_from labels (at + size_of (Plain x)) xs) (encoded_below (encode x) (law x h.0))
    (pieces_below law labels (at + size_of (Plain x)) xs (subst (λ n. InstructionsInTable labels n xs) z h.1))
pieces_below law labels at (Branch kind to ∷ xs) h =
    let x : Instr = branch kind at (place_of labels to.number) in
    below-append 256 (bytes_of_code (encode x)) (bytes_from labels (at + branch_size kind) xs) (encoded_below (encode x) (law x h.0)) (pieces_below law labels (at + branch_size kind) xs h.1)
pieces_below law labels at (Half v ∷ xs) h = below-append 256 (bytes_of_half v) (bytes_from labels (at + 2) xs) (half_below v h.0) (pieces_below law labels (at + 2) xs h.1)
pieces_below law labels at (Word v ∷ xs) h =
    let l = h.0 in
    below-append 256 (bytes_of_half (v % 2 ^ 16) ++ bytes_of_half (v / 2 ^ 16)) (bytes_from labels (at + 4) xs)
    (below-append 256 (bytes_of_half (v % 2 ^ 16)) (bytes_of_half (v / 2 ^ 16)) (half_below (v % 2 ^ 16) (omega arith)) (half_below (v / 2 ^ 16) (omega (arith, l))))
    (pieces_below law labels (at + 4) xs h.1)
