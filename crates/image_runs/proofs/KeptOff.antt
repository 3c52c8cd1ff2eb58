-- No byte that a compartment's instruction loads or stores is denied.
use Rattle.std.proofs.Common.{◌≡◌, ℕ, ◌+◌, ◌<◌, ◌≤◌, ⊎_elim, true, List, [], ◌∷◌, arith}
use Rattle.std.proofs.lemmas.Bool.{cases_lt}
use Rattle.machine_protection.specs.declared.region.Region.{Region}
use Rattle.machine_protection.specs.Regions.{holds}
use Rattle.machine_devices.specs.declared.image.Image.{Image}
use Rattle.machine_devices.specs.Rules.{ObeysRules}
use Rattle.machine_model.specs.State.{State, by_mpu}
use Rattle.machine_model.specs.Step.{turn}
use Rattle.machine_model.specs.Confinement.{AnyOf}
use Rattle.base_laws.specs.Lists.{Each}
use Rattle.base_laws.proofs.Lists.{each_to}
use Rattle.machine_model.specs.Reset.{EachRun}
use Rattle.ir_model.specs.Resolve.{resolve}
use Rattle.monitor_model.specs.declared.tables.Tables.{Tables}
use Rattle.monitor_model.specs.BlockWords.{current}
use Rattle.monitor_model.specs.Promises.{OfSoundImages}
use Rattle.monitor_model.specs.Reach.{AllBytes, running}
use Rattle.monitor_model.specs.Confined.{later}
use Rattle.monitor_program.specs.TheCode.{monitor_code}
use Rattle.image_promises.specs.Laws.{OfPlanned}
use Rattle.image_promises.specs.Planned.{planned_image, planned_tables}
use Rattle.image_promises.specs.Whole.{PlannedImagesAreSound}
use Rattle.image_runs.specs.Laws.{SoundImagesStaySound}
use Rattle.image_promises.proofs.PlannedPremises.{PlannedPremises, planned_of}
use Rattle.image_runs.proofs.CodeStays.{with_other_code}
use Rattle.plan_model.specs.declared.denied_ranges.Denied.{Denied}
use Rattle.plan_model.specs.Denied.{IsDenied, InDenied}
use Rattle.plan_denials.specs.Meetings.{KeepsOff}
use Rattle.image_runs.specs.Denied.{DevicesAreInSlots, NoneIsDenied, PlannedRunsKeepOff}
use Rattle.image_promises.proofs.OneSlot.{OwnSlotLaws}
use Rattle.image_runs.proofs.Slots.{slot_is_allowed}

-- an address below devices is none of theirs
low : (ds : List Denied) → Each IsDenied ds → (a : ℕ) → a < 0x40000000 → Each (λ d. InDenied d a → ⊥) ds
low [] e a lt = tt
low (d ∷ ds) e a lt = ((λ x. let from = e.0.place.0 in let lo = x.0 in omega (arith, from, lo, lt)), low ds e.1 a lt)

module _ (law : OwnSlotLaws) (planned : PlannedPremises) (ds : List Denied) (are : Each IsDenied ds) (off : KeepsOff ds (resolve planned.firmware) planned.final)
    (i : Image) (first : State) (slots : DevicesAreInSlots i (planned_tables planned.firmware planned.needs planned.final planned.board) first) where
  open planned use {firmware as w, needs as n, final as f, board as b}

  abbrev t : Tables
  t = planned_tables w n f b

  allowed : (s : State) (a : ℕ) → (0x40000000 ≤ a → AnyOf (λ (g : Region). holds g a ≡ true) (running i t s).slots) → Each (λ d. InDenied d a → ⊥) ds
  allowed s a h = ⊎_elim (λ lt. low ds are a lt) (λ high. slot_is_allowed law planned ds off (current i t s.ram) a high (h high)) (cases_lt a 0x40000000)

  pub none_is_denied : NoneIsDenied i t first ds
  none_is_denied = record {
    loads = λ k x. each_to (AllBytes (λ a. 0x40000000 ≤ a → AnyOf (λ (g : Region). holds g a ≡ true) (running i t (later i t first k)).slots)) (AllBytes (λ a. Each (λ d. InDenied d a → ⊥) ds)) (turn by_mpu i (later i t first k)).loads
        (λ y h j lt. allowed (later i t first k) (y.address + j) (h j lt)) (slots.loads k x);
    stores = λ k x. each_to (AllBytes (λ a. 0x40000000 ≤ a → AnyOf (λ (g : Region). holds g a ≡ true) (running i t (later i t first k)).slots)) (AllBytes (λ a. Each (λ d. InDenied d a → ⊥) ds)) (turn by_mpu i (later i t first k)).stores
        (λ y h j lt. allowed (later i t first k) (y.address + j) (h j lt)) (slots.stores k x);
  }

pub keep_off : OwnSlotLaws → SoundImagesStaySound → PlannedImagesAreSound → OfPlanned (λ i t. ObeysRules i)
    → OfSoundImages monitor_code (λ (i : Image) (t : Tables). EachRun i (DevicesAreInSlots i t)) → PlannedRunsKeepOff
keep_off law stay sound rules devices w n f b is ds are off flash keeps queues first reset =
    none_is_denied law (planned_of is) ds are off _ first
    (with_other_code (λ (i : Image) (t : Tables). EachRun i (DevicesAreInSlots i t)) stay devices (planned_image w n f b) (planned_tables w n f b) (rules w n f b is) (sound w n f b is) flash keeps queues first reset)
