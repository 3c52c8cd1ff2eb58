-- Where the accesses of devices lie, and that none is of a denied address: properties of a run, and the law of planned firmwares.
use Rattle.std.specs.Prelude.{◌≡◌, ℕ, ◌≤◌, List, true}
use Rattle.machine_protection.specs.declared.region.Region.{Region}
use Rattle.machine_protection.specs.Regions.{holds}
use Rattle.machine_devices.specs.declared.image.Image.{Image}
use Rattle.machine_model.specs.State.{State, by_mpu}
use Rattle.machine_model.specs.Confinement.{AnyOf}
use Rattle.machine_model.specs.Step.{turn}
use Rattle.base_laws.specs.Lists.{Each}
use Rattle.machine_model.specs.Reset.{EachRun}
use Rattle.monitor_model.specs.declared.tables.Tables.{Tables}
use Rattle.monitor_model.specs.Reach.{AllBytes, running}
use Rattle.monitor_model.specs.Confined.{later}
use Rattle.monitor_runs.specs.Acts.{Acts}
use Rattle.ir_model.specs.Plain.{PlainFirmware}
use Rattle.ir_model.specs.Resolve.{resolve}
use Rattle.plan_model.specs.declared.needs.Needs.{Needs}
use Rattle.plan_model.specs.declared.graph.Final.{Final}
use Rattle.plan_model.specs.declared.plan.Board.{Board}
use Rattle.image_promises.specs.Planned.{planned_image, planned_tables}
use Rattle.plan.specs.PlannedFirmwares.{IsPlanned}
use Rattle.image_runs.specs.OtherCode.{WithOtherCode}
use Rattle.plan_model.specs.declared.denied_ranges.Denied.{Denied}
use Rattle.plan_model.specs.Denied.{IsDenied, InDenied}
use Rattle.plan_denials.specs.Meetings.{KeepsOff}

module _ (i : Image) (t : Tables) (first : State) where
  abbrev at : ℕ → State
  at n = later i t first n

  -- each byte that an act's instruction loads or stores, a vector's and the pushes of an exception's entry included
  pub record OfEachByte (P : (step address : ℕ) → Type 0) : Type 0 where
    pub loads : (n : ℕ) → Acts i t first n → Each (AllBytes (P n)) (turn by_mpu i (at n)).loads
    pub stores : (n : ℕ) → Acts i t first n → Each (AllBytes (P n)) (turn by_mpu i (at n)).stores

  -- each byte from the peripherals' part of the memory map on lies in a slot of the acting compartment
  abbrev pub DevicesAreInSlots : Type 0
  DevicesAreInSlots = OfEachByte (λ n a. 0x40000000 ≤ a → AnyOf (λ (g : Region). holds g a ≡ true) (running i t (at n)).slots)

  -- each byte lies in no denied range
  abbrev pub NoneIsDenied : List Denied → Type 0
  NoneIsDenied ds = OfEachByte (λ n a. Each (λ d. InDenied d a → ⊥) ds)

-- each run of the image of a planned firmware that asks for nothing that is denied, whatever bytes stand in flash behind its tables
abbrev pub PlannedRunsKeepOff : Type 0
PlannedRunsKeepOff =
    (w : PlainFirmware) (n : Needs) (f : Final) (b : Board) → IsPlanned w n f b → (ds : List Denied) → Each IsDenied ds → KeepsOff ds (resolve w) f
    → WithOtherCode (λ (j : Image) (u : Tables). EachRun j (λ (first : State). NoneIsDenied j u first ds)) (planned_image w n f b) (planned_tables w n f b)
