-- Beyond the program's claim: only laws, proofs and functions inside the tool cite this file.
-- Code that stands as a compartment's own, where memory has the stack and the monitor's block, and the loans of a frame's locals.
use Rattle.std.specs.Prelude.{◌≡◌, ℕ, ◌+◌, ◌*◌, ◌%◌, ◌<◌, ◌≤◌, ◌⊎◌, List, [], ◌∷◌, length, Option}
use Rattle.std.proofs.Math.ListN.{get_or}
use Rattle.machine_thumb_asm.specs.declared.item.Item.{Item}
use Rattle.machine_devices.specs.Rules.{ObeysRules, block_size}
use Rattle.machine_model.specs.declared.state.ProtectionState.{ProtectionState}
use Rattle.machine_model.specs.State.{PermissionTest}
use Rattle.code_model.specs.Places.{Lend}
use Rattle.monitor_model.specs.Block.{MonitorBlock, Loan, lent}
use Rattle.monitor_model.specs.Setting.{Setting}
use Rattle.monitor_model.specs.Threads.{base, stack_end}
use Rattle.code_effects.specs.Items.{ItemsAt}

-- a judge that lets a compartment's own code be fetched
abbrev pub owner : Setting → (compartment : ℕ) → PermissionTest
owner g c = λ p kind a. g.has_code c a

-- these pieces stand in flash from an address on, and are code of a compartment
pub record Owns (g : Setting) (compartment : ℕ) (labels : List (Option ℕ)) (at : ℕ) (items : List Item) : Type 0 where
  pub stands : (p : ProtectionState) → ItemsAt (owner g compartment) g.image p labels at items

-- where the stack and the monitor's block lie in RAM
pub record MemoryRules (g : Setting) : Type 0 where
  pub image : ObeysRules g.image
  pub stack_aligned : g.stack % 8 ≡ 0
  pub eighth_aligned : g.eighth % 8 ≡ 0
  pub some : 0 < g.eighth
  pub fits : stack_end g ≤ g.image.ram_size
  pub block_fits : g.block + block_size ≤ g.image.ram_size
  pub apart : (g.block + block_size ≤ g.stack) ⊎ (stack_end g ≤ g.block)

module _ (g : Setting) where
  module _ (o : ℕ) where
    -- the loan of a local of a frame o bytes behind RAM's base
    abbrev pub loan_of : Lend → Loan
    loan_of d = record { address = base g + o + 4 * d.home; end = base g + o + 4 * d.home + get_or g.sizes d.number 0; number = d.number }

    abbrev pub all_lent : MonitorBlock → List Lend → MonitorBlock
    all_lent m [] = m
    all_lent m (d ∷ ds) = all_lent (lent m (loan_of d)) ds

  -- each lent local has a size, and lies in the frame below the return address, of so many words
  abbrev pub Lendable : (words : ℕ) → List Lend → Type 0
  Lendable w [] = Unit {0}
  Lendable w (d ∷ ds) = ((d.number < length g.sizes) × (4 * d.home + get_or g.sizes d.number 0 ≤ 4 * w)) × Lendable w ds
