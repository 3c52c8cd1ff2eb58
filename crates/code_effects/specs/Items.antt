-- Beyond the program's claim: only laws, proofs and functions inside the tool cite this file.
-- Pieces of an assembly that stand in memory. `labels` has the address of each label that was put, and `at` is the first piece's.
use Rattle.std.specs.Prelude.{◌≡◌, ℕ, ◌+◌, ◌/◌, ◌%◌, ◌^◌, ◌<◌, ◌≤◌, List, [], ◌∷◌, ◌++◌, Option, true, None}
use Rattle.machine_thumb.specs.declared.table.Instr.{Instr}
use Rattle.machine_thumb.specs.Table.{InTable}
use Rattle.machine_thumb_asm.specs.declared.item.Item.{Item}
use Rattle.machine_thumb_asm.specs.declared.item.Item.TheVariants.{Plain, Branch, Half, Word}
use Rattle.machine_thumb_asm.specs.Assembly.{Assembly, branch_size, total, place_of, ArePut, IsAssembly}
use Rattle.machine_thumb_asm.specs.Finished.{branch, first_far, bytes_from}
use Rattle.machine_protection.specs.declared.region.Access.TheVariants.{Fetch}
use Rattle.machine_devices.specs.declared.image.Image.{Image}
use Rattle.machine_devices.specs.Rules.{ObeysRules}
use Rattle.machine_model.specs.declared.state.ProtectionState.{ProtectionState}
use Rattle.machine_model.specs.State.{PermissionTest}
use Rattle.machine_model.specs.Code.{size, HoldsHalf, Lies, Stands, CodeAt}
use Rattle.machine_model.specs.CodeBytes.{FlashHasBytes}
use Rattle.code_model.specs.Words.{plain}

-- flash holds them, and each branch is one to its label
abbrev pub ItemsIn : Image → (labels : List (Option ℕ)) → (at : ℕ) → List Item → Type 0
ItemsIn i labels at [] = Unit {0}
ItemsIn i labels at (Plain x ∷ more) = Lies i at x × ItemsIn i labels (at + size x) more
ItemsIn i labels at (Branch kind to ∷ more) = Lies i at (branch kind at (place_of labels to.number)) × ItemsIn i labels (at + branch_size kind) more
ItemsIn i labels at (Half h ∷ more) = HoldsHalf i at h × ItemsIn i labels (at + 2) more
ItemsIn i labels at (Word w ∷ more) = HoldsHalf i at (w % 2 ^ 16) × HoldsHalf i (at + 2) (w / 2 ^ 16) × ItemsIn i labels (at + 4) more

-- and their instructions may be fetched
abbrev pub ItemsAt : PermissionTest → Image → ProtectionState → (labels : List (Option ℕ)) → (at : ℕ) → List Item → Type 0
ItemsAt j i p labels at [] = Unit {0}
ItemsAt j i p labels at (Plain x ∷ more) = Stands j i p at x × ItemsAt j i p labels (at + size x) more
ItemsAt j i p labels at (Branch kind to ∷ more) = Stands j i p at (branch kind at (place_of labels to.number)) × ItemsAt j i p labels (at + branch_size kind) more
ItemsAt j i p labels at (Half h ∷ more) = HoldsHalf i at h × ItemsAt j i p labels (at + 2) more
ItemsAt j i p labels at (Word w ∷ more) = HoldsHalf i at (w % 2 ^ 16) × HoldsHalf i (at + 2) (w / 2 ^ 16) × ItemsAt j i p labels (at + 4) more

-- the instructions among them are in the table, the branches as they go to their labels
abbrev pub InstructionsInTable : (labels : List (Option ℕ)) → (at : ℕ) → List Item → Type 0
InstructionsInTable labels at [] = Unit {0}
InstructionsInTable labels at (Plain x ∷ more) = InTable x × InstructionsInTable labels (at + size x) more
InstructionsInTable labels at (Branch kind to ∷ more) = InTable (branch kind at (place_of labels to.number)) × InstructionsInTable labels (at + branch_size kind) more
InstructionsInTable labels at (Half h ∷ more) = (h < 2 ^ 16) × InstructionsInTable labels (at + 2) more
InstructionsInTable labels at (Word w ∷ more) = (w < 2 ^ 32) × InstructionsInTable labels (at + 4) more

pub record ItemsStand : Type 0 where
  -- the instructions of an assembly are in the table where all its branches reach their labels
  pub from_assembly : (a : Assembly) → IsAssembly a → ArePut a.places a.items → first_far a.places a.base a.items ≡ None → InstructionsInTable a.places a.base a.items
  -- pieces stand where flash holds their bytes
  pub from_bytes : (i : Image) (labels : List (Option ℕ)) (offset : ℕ) (items : List Item) → ObeysRules i → InstructionsInTable labels (i.flash_base + offset) items →
      FlashHasBytes i offset (bytes_from labels (i.flash_base + offset) items) → ItemsIn i labels (i.flash_base + offset) items
  -- and they may run where each of their bytes may be fetched
  pub may_run : (j : PermissionTest) (i : Image) (p : ProtectionState) (labels : List (Option ℕ)) (items : List Item) (at : ℕ) →
      ItemsIn i labels at items → ((a : ℕ) → at ≤ a → a < at + total items → j p Fetch a ≡ true) → ItemsAt j i p labels at items
  -- parts stand one behind the other
  pub parts_in : (i : Image) (labels : List (Option ℕ)) (xs ys : List Item) (at : ℕ) → ItemsIn i labels at (xs ++ ys) → ItemsIn i labels at xs × ItemsIn i labels (at + total xs) ys
  pub parts_at : (j : PermissionTest) (i : Image) (p : ProtectionState) (labels : List (Option ℕ)) (xs ys : List Item) (at : ℕ) →
      ItemsAt j i p labels at (xs ++ ys) → ItemsAt j i p labels at xs × ItemsAt j i p labels (at + total xs) ys
  -- instructions alone are code
  pub plain_code : (j : PermissionTest) (i : Image) (p : ProtectionState) (labels : List (Option ℕ)) (xs : List Instr) (at : ℕ) → ItemsAt j i p labels at (plain xs) → CodeAt j i p at xs
