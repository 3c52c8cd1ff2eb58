-- Beyond the program's claim: only laws, proofs and functions inside the tool cite this file.
-- The places and forms of a sound image's tables, as the facts that proofs take of them.
use Rattle.std.specs.Prelude.{◌≡◌, ℕ, ◌+◌, ◌%◌, ◌<◌, ◌≤◌, [], ◌∷◌, length, true, false}
use Rattle.std.specs.Int.{IsPowerOfTwo}
use Rattle.machine_protection.specs.declared.region.Region.{Region}
use Rattle.machine_protection.specs.declared.region.Access.TheVariants.{Read, Write, Fetch}
use Rattle.machine_protection.specs.Regions.{holds, allows}
use Rattle.machine_protection.specs.Configured.{AreNumbered}
use Rattle.machine_devices.specs.declared.image.Image.{Image}
use Rattle.machine_devices.specs.Rules.{ObeysRules, IsStack, block_size}
use Rattle.base_laws.specs.Lists.{Each}
use Rattle.base_ranges.specs.Ranges.{IsInside, AreApart}
use Rattle.monitor_model.specs.declared.tables.CompRecord.{CompRecord}
use Rattle.monitor_model.specs.declared.tables.TargetRecord.{TargetRecord}
use Rattle.monitor_model.specs.declared.tables.Tables.{Tables}
use Rattle.monitor_model.specs.Records.{compartment_at, number_of_slots}
use Rattle.monitor_model.specs.Layout.{initial_word_count, tables_size}
use Rattle.monitor_model.specs.Area.{HasTables}
use Rattle.monitor_model.specs.MonitorCode.{MonitorCode}
use Rattle.monitor_model.specs.Sound.{Sound}
use Rattle.plan_model.specs.CompileLimits.{compartment_limit, lent_limit}

abbrev pub InFlashOf : Image → (address : ℕ) → Type 0
InFlashOf i a = IsInside a 1 i.flash_base (length i.flash)

-- region 2: all may read and fetch what it holds, none may write it, and it lies in flash
pub record IsCode (i : Image) (g : Region) : Type 0 where
  pub read_only : allows g true Write ≡ false
  pub readable : allows g true Read ≡ true
  pub runs : allows g true Fetch ≡ true
  pub in_flash : (a : ℕ) → holds g a ≡ true → InFlashOf i a

-- what a slot holds all may read and none may fetch; it is neither flash nor the stack nor the monitor's block. So the slots,
-- whose numbers are the highest, decide nothing about these, and code is fetched from flash alone
pub record IsSlotByte (i : Image) (t : Tables) (g : Region) (a : ℕ) : Type 0 where
  pub readable : allows g true Read ≡ true
  pub no_code : allows g true Fetch ≡ false
  pub off_flash : InFlashOf i a → ⊥
  pub off_stack : AreApart a 1 t.stack.base t.stack.size
  pub off_block : AreApart a 1 t.monitor block_size

abbrev pub IsSlot : Image → Tables → Region → Type 0
IsSlot i t g = (a : ℕ) → holds g a ≡ true → IsSlotByte i t g a

pub record IsCompartment (i : Image) (t : Tables) (c : CompRecord) : Type 0 where
  pub code : IsCode i c.code
  pub count : length c.slots ≡ number_of_slots t
  pub slots : Each (IsSlot i t) c.slots
  -- so that the writes of their words go to the regions of these numbers
  pub code_numbered : AreNumbered 2 (c.code ∷ [])
  pub slots_numbered : AreNumbered 4 c.slots

-- a function's entry, with bit 0 set, in the code of its compartment
pub record IsEntry (t : Tables) (entry compartment : ℕ) : Type 0 where
  pub odd : entry % 2 ≡ 1
  pub compartment_in : compartment < length t.comps
  pub in_code : holds (compartment_at t compartment).code entry ≡ true

pub record Placed (i : Image) (t : Tables) : Type 0 where
  pub rules : ObeysRules i
  pub is_closed : t.closed ≡ i.closed
  pub region_count : i.regions ≡ 4 + number_of_slots t
  -- the stack and the monitor's block, apart from each other
  pub stack_base : t.stack.base ≡ i.stack_base
  pub stack_size : t.stack.size ≡ i.stack_size
  pub stack : IsStack i
  pub is_monitor : t.monitor ≡ i.monitor
  pub block_aligned : t.monitor % block_size ≡ 0
  pub block_inside : IsInside t.monitor block_size i.ram_base i.ram_size
  pub apart : AreApart t.monitor block_size t.stack.base t.stack.size
  -- the tables' block, a region's, stands first in flash
  pub tables_first : t.base ≡ i.flash_base
  pub tables_power : IsPowerOfTwo (tables_size t)
  pub tables_least : 32 ≤ tables_size t
  pub tables_inside : tables_size t ≤ length i.flash
  pub word_count : length t.words ≡ initial_word_count t
  -- some compartment, and each in form
  pub some : 0 < length t.comps
  pub most : length t.comps ≤ compartment_limit
  pub comps : Each (IsCompartment i t) t.comps
  pub few_lends : length t.lends ≤ lent_limit
  pub targets : Each (λ (g : TargetRecord). IsEntry t g.entry g.compartment) t.targets
  pub main : IsEntry t t.main t.main_comp

-- whatever the monitor's code is: the checks of a sound image give them, and its flash has the words of the tables
abbrev pub SoundImagesArePlaced : Type 0
SoundImagesArePlaced = (code : MonitorCode) (i : Image) (t : Tables) → ObeysRules i → Sound code i t → Placed i t × HasTables i t
