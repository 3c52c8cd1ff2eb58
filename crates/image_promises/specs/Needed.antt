-- Permissions from above: what a compartment may write, its functions need, or it is exposed. Of a planned firmware.
use Rattle.std.specs.Prelude.{◌≡◌, ℕ, ◌<◌, ◌⊎◌, length, true, Some, None, slice_get}
use Rattle.std.specs.Int.{bit_at}
use Rattle.ir_model.specs.declared.object.ObjId.TheVariants.{Global, Periph, Local}
use Rattle.ir_model.specs.Plain.{PlainFirmware}
use Rattle.ir_model.specs.Resolve.{resolve}
use Rattle.ir_model.specs.Resolved.{Program}
use Rattle.plan_model.specs.declared.needs.Needs.{Needs}
use Rattle.plan_model.specs.declared.graph.Final.{Final}
use Rattle.plan_model.specs.declared.plan.Board.{Board}
use Rattle.plan_model.specs.Boards.{slots_of}
use Rattle.plan_model.specs.Lists.{has}
use Rattle.plan_model.specs.Groups.{writes, uses}
use Rattle.plan_model.specs.Exposure.{never_written, exposed_to_writes}
use Rattle.plan_model.specs.InitialGraph.{initial_graph}
use Rattle.plan_model.specs.Lending.{lent}
use Rattle.plan_model.specs.Merging.{next}
use Rattle.plan_model.specs.Permission.{may_write}
use Rattle.plan_model.specs.Regions.{region_at, global_size}
use Rattle.monitor_model.specs.Records.{compartment_at}
use Rattle.image_promises.specs.Planned.{planned_tables}
use Rattle.plan.specs.PlannedFirmwares.{IsPlanned}

module _ (w : PlainFirmware) (n : Needs) (f : Final) (b : Board) where
  abbrev p : Program
  p = resolve w

  -- the global is in a region of which the compartment is a writer, though none of its functions writes the global
  pub record IsExposed (c x : ℕ) : Type 0 where
    pub region : ℕ
    pub there : region < length f.regions
    pub writer : has (region_at f.regions region).writers c ≡ true
    pub unneeded : has (never_written n f.groups c (region_at f.regions region)) x ≡ true

  pub record IsBoundedByNeeds : Type 0 where
    -- one of its functions writes a global that a compartment may write, or the global is exposed to the compartment
    pub globals : (c x : ℕ) → may_write p n f c (Global x) ≡ true → (writes n f.groups c (Global x) ≡ true) ⊎ IsExposed c x
    -- no global that has a byte is exposed, where a listing says `exposed 0`
    pub none : (c x : ℕ) → exposed_to_writes p n f.groups f.regions c ≡ 0 → 0 < global_size p x → may_write p n f c (Global x) ≡ true → writes n f.groups c (Global x) ≡ true
    -- one of its functions writes a lent local that it may write
    pub locals : (c g l : ℕ) → may_write p n f c (Local g l) ≡ true → writes n f.groups c (Local g l) ≡ true
    -- one of its functions uses a peripheral that it may use, where no compartment has more regions and windows than slots, so that
    -- nothing is joined
    pub periphs : next p (slots_of b) (initial_graph p n f.groups) ≡ None → (c q : ℕ) → q < length p.periphs → may_write p n f c (Periph q) ≡ true → uses n f.groups c q ≡ true

  -- a bit of the mask for stores is that of a lent local which some function of the compartment writes
  abbrev pub MasksAreNeeded : Type 0
  MasksAreNeeded =
      (c k : ℕ) → bit_at (compartment_at (planned_tables w n f b) c).mask k ≡ 1
      → (x : ℕ × ℕ) × (slice_get (lent n f.groups) k ≡ Some x) × (writes n f.groups c (Local x.0 x.1) ≡ true)

-- of each planned firmware
abbrev pub PlannedPermissionsAreBounded : Type 0
PlannedPermissionsAreBounded = (w : PlainFirmware) (n : Needs) (f : Final) (b : Board) → IsPlanned w n f b → IsBoundedByNeeds w n f b

abbrev pub PlannedMasksAreNeeded : Type 0
PlannedMasksAreNeeded = (w : PlainFirmware) (n : Needs) (f : Final) (b : Board) → IsPlanned w n f b → MasksAreNeeded w n f b
