-- The kinds of addresses that a run's steps may store to and load from: CUR, TOP and the loans are the words of the monitor's
-- block before the step.
use Rattle.std.specs.Prelude.{◌≡◌, ℕ, ◌+◌, ◌<◌, ◌≤◌, true}
use Rattle.std.specs.Int.{bit_at}
use Rattle.machine_protection.specs.declared.region.Region.{Region}
use Rattle.machine_protection.specs.Regions.{holds, permission}
use Rattle.machine_devices.specs.declared.image.Image.{Image}
use Rattle.machine_devices.specs.Rules.{block_size}
use Rattle.machine_bus.specs.Locations.{location, InFlash}
use Rattle.machine_model.specs.State.{State, Touched}
use Rattle.machine_model.specs.System.{in_system}
use Rattle.machine_model.specs.Confinement.{AnyOf}
use Rattle.monitor_model.specs.declared.tables.CompRecord.{CompRecord}
use Rattle.monitor_model.specs.declared.tables.InitRecord.{InitRecord}
use Rattle.monitor_model.specs.declared.tables.Tables.{Tables}
use Rattle.monitor_model.specs.Records.{compartment_at}
use Rattle.monitor_model.specs.BlockWords.{current, top, loan_count, loan_address, loan_end, loan_number}

-- every byte of an access
abbrev pub AllBytes : (ℕ → Type 0) → Touched → Type 0
AllBytes P x = (k : ℕ) → k < x.width → P (x.address + k)

abbrev pub InBlock : Tables → (address : ℕ) → Type 0
InBlock t a = (t.monitor ≤ a) × (a < t.monitor + block_size)

module _ (i : Image) (t : Tables) where
  -- the record of CUR
  abbrev pub running : State → CompRecord
  running s = compartment_at t (current i t s.ram)

  -- the stack below TOP
  abbrev pub InOpenStack : State → (address : ℕ) → Type 0
  InOpenStack s a = (t.stack.base ≤ a) × (a < top i t s.ram)

  -- live loan k, whose number a mask has, holds the address
  pub record IsInLoan (s : State) (mask k a : ℕ) : Type 0 where
    pub live : k < loan_count i t s.ram
    pub in_mask : bit_at mask (loan_number i t s.ram k) ≡ 1
    pub from_address : loan_address i t s.ram k ≤ a
    pub below_end : a < loan_end i t s.ram k

  pub data StoreKind (s : State) (a : ℕ) : Type 0 where
    -- a slot of CUR with AP 011, which all may write
    BySlot : AnyOf (λ (g : Region). (holds g a ≡ true) × (permission g ≡ 3)) (running s).slots → StoreKind s a
    ByStack : InOpenStack s a → StoreKind s a
    ByLoan : (k : ℕ) → IsInLoan s (running s).mask k a → StoreKind s a
    -- and in Handler mode alone
    ByBlock : s.protection.handler ≡ true → InBlock t a → StoreKind s a
    BySystem : s.protection.handler ≡ true → in_system a ≡ true → StoreKind s a

  -- where the board is closed
  pub data LoadKind (s : State) (a : ℕ) : Type 0 where
    OfFlash : (o : ℕ) → location i a ≡ InFlash o → LoadKind s a
    OfSlot : AnyOf (λ (g : Region). holds g a ≡ true) (running s).slots → LoadKind s a
    OfStack : InOpenStack s a → LoadKind s a
    OfLoan : (k : ℕ) → IsInLoan s (running s).reads k a → LoadKind s a
    OfBlock : s.protection.handler ≡ true → InBlock t a → LoadKind s a
    OfSystem : s.protection.handler ≡ true → in_system a ≡ true → LoadKind s a

-- start-up stores to the monitor's block, to system registers, and to the ranges of the init records
pub data StartKind (t : Tables) (a : ℕ) : Type 0 where
  ToBlock : InBlock t a → StartKind t a
  ToSystem : in_system a ≡ true → StartKind t a
  ToInit : AnyOf (λ (n : InitRecord). (n.at ≤ a) × (a < n.end)) t.inits → StartKind t a
