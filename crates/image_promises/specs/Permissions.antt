-- What the slots of a compartment hold in the tables of a planned firmware: bytes of objects of its permission, and padding. The
-- statement of a law.
use Rattle.std.specs.Prelude.{◌≡◌, ℕ, ◌+◌, ◌<◌, ◌≤◌, Bool, true, [], length, get_or}
use Rattle.machine_model.specs.Confinement.{AnyOf}
use Rattle.machine_protection.specs.declared.region.Region.{Region}
use Rattle.machine_protection.specs.Regions.{holds, permission}
use Rattle.ir_model.specs.declared.object.ObjId.{ObjId}
use Rattle.ir_model.specs.declared.object.ObjId.TheVariants.{Global, Periph}
use Rattle.ir_model.specs.Plain.{PlainFirmware}
use Rattle.ir_model.specs.Resolve.{resolve}
use Rattle.ir_model.specs.Resolved.{Program}
use Rattle.plan_model.specs.declared.needs.Needs.{Needs}
use Rattle.plan_model.specs.declared.graph.Cover.{Cover}
use Rattle.plan_model.specs.declared.graph.Final.{Final}
use Rattle.plan_model.specs.declared.plan.Board.{Board}
use Rattle.plan_model.specs.Regions.{global_size}
use Rattle.plan_model.specs.Covers.{end_of, is_inside}
use Rattle.plan_model.specs.InitialGraph.{cover_of}
use Rattle.plan_model.specs.RamBlocks.{RamUse, ForRegion}
use Rattle.plan_model.specs.Placement.{global_address}
use Rattle.plan_model.specs.Permission.{may_write, may_read}
use Rattle.plan_layout_laws.specs.RamLaws.{HoldsAddress}
use Rattle.monitor_model.specs.declared.tables.Tables.{Tables}
use Rattle.monitor_model.specs.Records.{compartment_at}
use Rattle.image_promises.specs.Planned.{planned_tables}
use Rattle.plan.specs.PlannedFirmwares.{IsPlanned, plan}

-- an address of a range
abbrev pub IsOf : Cover → (address : ℕ) → Type 0
IsOf d a = (d.base ≤ a) × (a < end_of d)

-- ---- of a firmware `w` with its needs, its final graph and a board

module _ (w : PlainFirmware) (n : Needs) (f : Final) (b : Board) where
  abbrev program : Program
  program = resolve w

  -- the address is one of a global's bytes
  abbrev pub IsByteOf : (global address : ℕ) → Type 0
  IsByteOf x a = (global_address program f (plan w n f b) x ≤ a) × (a < global_address program f (plan w n f b) x + global_size program x)

  -- the address is one of a range among those of peripherals; each declared peripheral that has an address in the range lies in it as a
  -- whole, and is one of the permission
  pub record IsOnPeripherals (may : ObjId → Bool) (a : ℕ) (range : Cover) : Type 0 where
    pub holds : IsOf range a
    pub from : 0x40000000 ≤ range.base
    pub to : end_of range ≤ 0x60000000
    pub whole : (q z : ℕ) → q < length program.periphs → IsOf (cover_of program q) z → IsOf range z → is_inside (cover_of program q) range ≡ true
    pub permitted : (q z : ℕ) → q < length program.periphs → IsOf (cover_of program q) z → IsOf range z → may (Periph q) ≡ true

  -- the address lies in RAM, in the block of a data region and in no other block of RAM; where it is one of a global's bytes, that
  -- global is one of the permission; an address that is of no global is padding
  pub record IsInData (may : ObjId → Bool) (a : ℕ) : Type 0 where
    pub from : b.ram_base ≤ a
    pub to : a < b.ram_base + b.ram_size
    pub region : ℕ
    pub there : region < length f.regions
    pub held : HoldsAddress program f (plan w n f b) (ForRegion region) a
    pub alone : (u : RamUse) → HoldsAddress program f (plan w n f b) u a → u ≡ ForRegion region
    pub permitted : (x : ℕ) → x < length program.globals → IsByteOf x a → may (Global x) ≡ true

  -- an address that lies on permitted peripherals or in permitted data
  pub data IsPermitted (may : ObjId → Bool) (compartment a : ℕ) : Type 0 where
    OnPeripherals : AnyOf (IsOnPeripherals may a) (get_or f.covers compartment []) → IsPermitted may compartment a
    InData : IsInData may a → IsPermitted may compartment a

  abbrev tables : Tables
  tables = planned_tables w n f b

  -- each address that a slot with AP 011, which all may write, holds is one of the permission to write; and each that any slot
  -- holds is one of the permission to read
  pub record SlotsArePermitted : Type 0 where
    pub stores : (c a : ℕ) → AnyOf (λ (g : Region). (holds g a ≡ true) × (permission g ≡ 3)) (compartment_at tables c).slots → IsPermitted (may_write program n f c) c a
    pub loads : (c a : ℕ) → AnyOf (λ (g : Region). holds g a ≡ true) (compartment_at tables c).slots → IsPermitted (may_read program n f c) c a

-- of each planned firmware
abbrev pub SlotsHoldPermissions : Type 0
SlotsHoldPermissions = (w : PlainFirmware) (n : Needs) (f : Final) (b : Board) → IsPlanned w n f b → SlotsArePermitted w n f b
