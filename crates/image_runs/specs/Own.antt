-- Whose the bytes in the slots are, padding too, in the tables of a planned firmware.
use Rattle.std.specs.Prelude.{◌≡◌, ℕ, ◌<◌, Bool, true, length}
use Rattle.machine_model.specs.Confinement.{AnyOf}
use Rattle.machine_protection.specs.declared.region.Region.{Region}
use Rattle.machine_protection.specs.Regions.{holds}
use Rattle.ir_model.specs.Plain.{PlainFirmware}
use Rattle.ir_model.specs.Resolve.{resolve}
use Rattle.plan_model.specs.declared.needs.Needs.{Needs}
use Rattle.plan_model.specs.declared.graph.Final.{Final}
use Rattle.plan_model.specs.declared.plan.Board.{Board}
use Rattle.plan_model.specs.Lists.{has}
use Rattle.plan_model.specs.Regions.{region_at, is_user}
use Rattle.plan_model.specs.RamBlocks.{ForRegion}
use Rattle.plan_layout_laws.specs.RamLaws.{HoldsAddress}
use Rattle.monitor_model.specs.declared.tables.Tables.{Tables}
use Rattle.monitor_model.specs.Records.{compartment_at}
use Rattle.image_promises.specs.Planned.{planned_tables}
use Rattle.plan.specs.PlannedFirmwares.{IsPlanned, plan}
use Rattle.monitor_runs.specs.Acts.{IsWritable}

module _ (w : PlainFirmware) (n : Needs) (f : Final) (b : Board) where
  abbrev t : Tables
  t = planned_tables w n f b

  -- the address lies in the block of a data region that passes a test
  pub record IsInRegion (passes : ℕ → Bool) (a : ℕ) : Type 0 where
    pub region : ℕ
    pub there : region < length f.regions
    pub mine : passes region ≡ true
    pub held : HoldsAddress (resolve w) f (plan w n f b) (ForRegion region) a

  -- the bytes that a slot holds below the peripherals' part of the memory map are of a data region's block alone: of a region of which the
  -- compartment is a writer, where all may write the slot; and of a region that it uses, for any slot
  pub record SlotsAreOwn : Type 0 where
    pub stores : (c a : ℕ) → IsWritable t c a → a < 0x40000000 → IsInRegion (λ r. has (region_at f.regions r).writers c) a
    pub loads : (c a : ℕ) → AnyOf (λ (g : Region). holds g a ≡ true) (compartment_at t c).slots → a < 0x40000000 → IsInRegion (λ r. is_user c (region_at f.regions r)) a

-- of each planned firmware
abbrev pub PlannedSlotsAreOwn : Type 0
PlannedSlotsAreOwn = (w : PlainFirmware) (n : Needs) (f : Final) (b : Board) → IsPlanned w n f b → SlotsAreOwn w n f b
