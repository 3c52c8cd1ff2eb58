-- Beyond the program's claim: only laws, proofs and functions inside the tool cite this file.
-- That the tables of a compartment are written: what the protection unit holds behind the steps that do it, in start-up and in
-- both handlers alike.
use Rattle.std.specs.Prelude.{◌≡◌, ℕ, ◌+◌, ◌*◌, ◌/◌, ◌%◌, ◌^◌, ◌<◌, ◌≤◌, ◌↔◌, List, [], ◌∷◌, length, false}
use Rattle.std.specs.Int.{bit_at}
use Rattle.machine_protection.specs.declared.region.Region.{Region}
use Rattle.machine_protection.specs.Laws.{kept_region}
use Rattle.machine_protection.specs.Configured.{AreNumbered}
use Rattle.machine_devices.specs.declared.image.Image.{Image}
use Rattle.base_ranges.specs.Ranges.{IsPowerBetween, IsInside}
use Rattle.machine_devices.specs.Rules.{ObeysRules}
use Rattle.machine_model.specs.State.{by_mpu, is_unprivileged}
use Rattle.base_laws.specs.Lists.{Each}
use Rattle.monitor_steps.specs.Steps.{End}
use Rattle.monitor_steps.specs.Core.{Core, low_register}
use Rattle.monitor_steps.specs.Effect.{Went, effect}
use Rattle.monitor_steps.specs.Ticks.{ticks}
use Rattle.monitor_model.specs.declared.tables.CompRecord.{CompRecord}
use Rattle.monitor_model.specs.declared.tables.Tables.{Tables}
use Rattle.monitor_model.specs.Records.{number_of_slots, eighth}
use Rattle.monitor_model.specs.Area.{HasTables}
use Rattle.monitor_model.specs.Regions.{background, tables_region, stack_region, regions_for}
use Rattle.monitor_model.specs.Invariant.{IsTop}
use Rattle.monitor_program.specs.Constants.{constants_with}
use Rattle.monitor_program.specs.Opening.{tables_of}
use Rattle.plan_model.specs.CompileLimits.{compartment_limit}

-- as many slots as the others, and words that go to the regions of their numbers
pub record IsNumbered (t : Tables) (c : CompRecord) : Type 0 where
  pub count : length c.slots ≡ number_of_slots t
  pub code : AreNumbered 2 (c.code ∷ [])
  pub slots : AreNumbered 4 c.slots

-- what is asked of the tables: from 4 to 12 slots, the words first in flash, and a stack
pub record Writable (i : Image) (t : Tables) : Type 0 where
  pub rules : ObeysRules i
  pub first : t.base ≡ i.flash_base
  pub in_flash : HasTables i t
  pub least : 4 ≤ number_of_slots t
  pub most : number_of_slots t ≤ 12
  pub few : length t.comps ≤ compartment_limit
  pub comps : Each (IsNumbered t) t.comps
  pub stack_size : IsPowerBetween 9 16 t.stack.size
  pub stack_aligned : t.stack.base % t.stack.size ≡ 0
  pub stack_inside : IsInside t.stack.base t.stack.size i.ram_base i.ram_size

-- before: privileged code on the main stack, the unit off, regions 0 and 1 written; the compartment in r5, TOP in r3. The unit has as many regions
-- as there are slots, and four more
pub record MayWrite (i : Image) (t : Tables) (current top : ℕ) (c : Core) : Type 0 where
  pub low_count : length c.low ≡ 8
  pub current_is : low_register c 5 ≡ current
  pub top_is : low_register c 3 ≡ top
  pub current_in : current < length t.comps
  pub is_top : IsTop t 0 top
  pub privileged : is_unprivileged c.protection ≡ false
  pub on_msp : c.on_psp ≡ false
  pub off : c.protection.mpu.control ≡ 0
  pub others : List Region
  pub count : length others ≡ number_of_slots t + 2
  pub regions : c.protection.mpu.regions ≡ kept_region (background i) ∷ kept_region (tables_region t) ∷ others

-- behind it: the regions of the compartment and of TOP. Of all else r0, r2, r6 and r7 alone may differ, and which region the unit
-- has selected
pub record HasWritten (i : Image) (t : Tables) (current top : ℕ) (before after : Core) : Type 0 where
  pub regions : after.protection.mpu.regions ≡ regions_for i t current top
  pub control : after.protection.mpu.control ≡ 0
  pub handler : after.protection.handler ≡ before.protection.handler
  pub privileged : after.protection.unprivileged ≡ before.protection.unprivileged
  pub r1 : low_register after 1 ≡ low_register before 1
  pub r3 : low_register after 3 ≡ low_register before 3
  pub r4 : low_register after 4 ≡ low_register before 4
  pub r5 : low_register after 5 ≡ low_register before 5
  pub stacks : (after.sp ≡ before.sp) × (after.other_sp ≡ before.other_sp) × (after.on_psp ≡ before.on_psp)
  pub status : after.status ≡ before.status
  pub ram : after.ram ≡ before.ram

-- of the list, from the core before to one behind it, in so many steps at most
pub record Writes (i : Image) (t : Tables) (stub current top : ℕ) (before : Core) : Type 0 where
  pub after : Core
  pub goes : effect by_mpu i (tables_of (constants_with stub t) End) before ≡ Went after
  pub written : HasWritten i t current top before after
  pub within : ticks by_mpu i (tables_of (constants_with stub t) End) before ≤ 140

abbrev pub TablesAreWritten : Type 0
TablesAreWritten =
    (i : Image) (t : Tables) (stub current top : ℕ) (before : Core) → Writable i t → MayWrite i t current top before →
    Writes i t stub current top before

-- bit n of the stack region's SRD is set exactly where eighth n begins at TOP or above
abbrev pub StackIsClosedAboveTop : Type 0
StackIsClosedAboveTop =
    (t : Tables) (top n : ℕ) → IsPowerBetween 9 16 t.stack.size → IsTop t 0 top → n < 8 →
    (bit_at ((stack_region t top).rasr / 2 ^ 8 % 2 ^ 8) n ≡ 1) ↔ (top ≤ t.stack.base + n * eighth t)
