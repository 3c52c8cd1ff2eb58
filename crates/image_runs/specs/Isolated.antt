-- Who changes which bytes and accesses which peripherals in a run of a planned firmware's image, in the firmware's own words.
use Rattle.std.specs.Prelude.{◌≡◌, ◌≢◌, ℕ, ◌+◌, ◌<◌, ◌≤◌, true, false, Some, length, slice_get}
use Rattle.machine_devices.specs.declared.image.Image.{Image}
use Rattle.machine_devices.specs.Rules.{ObeysRules}
use Rattle.base_events.specs.declared.event.Event.{Event}
use Rattle.machine_model.specs.State.{State, Touched, by_mpu}
use Rattle.machine_model.specs.Confinement.{AnyOf}
use Rattle.machine_model.specs.Step.{turn, event}
use Rattle.machine_model.specs.Reset.{EachRun}
use Rattle.ir_model.specs.declared.object.ObjId.TheVariants.{Global, Periph, Local}
use Rattle.ir_model.specs.Plain.{PlainFirmware}
use Rattle.ir_model.specs.Resolve.{resolve}
use Rattle.ir_model.specs.Resolved.{Program}
use Rattle.plan_model.specs.declared.needs.Needs.{Needs}
use Rattle.plan_model.specs.declared.graph.Final.{Final}
use Rattle.plan_model.specs.declared.plan.Board.{Board}
use Rattle.plan_model.specs.Groups.{writes}
use Rattle.plan_model.specs.Lists.{has}
use Rattle.plan_model.specs.Regions.{region_at}
use Rattle.plan_model.specs.RamBlocks.{ForRegion}
use Rattle.plan_layout_laws.specs.RamLaws.{HoldsAddress}
use Rattle.plan_model.specs.Lending.{lent}
use Rattle.plan_model.specs.Permission.{may_write, may_read}
use Rattle.monitor_model.specs.declared.tables.Tables.{Tables}
use Rattle.monitor_model.specs.BlockWords.{current, loan_number}
use Rattle.monitor_model.specs.Reach.{running, IsInLoan}
use Rattle.monitor_model.specs.Confined.{HasStarted, later}
use Rattle.image_promises.specs.Planned.{planned_image, planned_tables}
use Rattle.plan.specs.PlannedFirmwares.{IsPlanned, plan}
use Rattle.image_promises.specs.Permissions.{IsByteOf}
use Rattle.image_promises.specs.Whole.{IsForBoard}
use Rattle.monitor_runs.specs.Acts.{byte_at, OnStack, Acts, Rests}
use Rattle.monitor_runs.specs.Stays.{ClosedStackStays, ActsReadTheirOwn, MonitorReadsForActs, KeepsMemory}

-- ---- of a firmware `w` with its needs, its final graph and a board, which say where globals and regions lie and who may write them; and
-- of a run of an image with such tables from a first state

module _ (w : PlainFirmware) (n : Needs) (f : Final) (b : Board) (i : Image) (t : Tables) (first : State) where
  abbrev p : Program
  p = resolve w

  abbrev at : ℕ → State
  at k = later i t first k

  -- the compartment that acts
  abbrev acting : ℕ → ℕ
  acting k = current i t (at k).ram

  -- a byte of a global stays while no compartment acts that may write the global
  abbrev pub GlobalsStay : Type 0
  GlobalsStay =
      (x a from to : ℕ) → x < length p.globals → IsByteOf w n f b x a → Rests i t first from → Rests i t first to → from ≤ to
      → ((k : ℕ) → from ≤ k → k < to → Acts i t first k → may_write p n f (acting k) (Global x) ≡ false)
      → byte_at i (at to) a ≡ byte_at i (at from) a

  -- a compartment that may write the global has acted, where the byte has changed
  abbrev pub GlobalsChangeByTheirWriters : Type 0
  GlobalsChangeByTheirWriters =
      (x a from to : ℕ) → x < length p.globals → IsByteOf w n f b x a → Rests i t first from → Rests i t first to → from ≤ to
      → byte_at i (at to) a ≢ byte_at i (at from) a
      → (k : ℕ) × (from ≤ k) × (k < to) × Acts i t first k × (may_write p n f (acting k) (Global x) ≡ true)

  -- the same of any byte of a data region's block, padding too: it stays while none of the region's writers acts
  abbrev pub RegionsStay : Type 0
  RegionsStay =
      (r a from to : ℕ) → r < length f.regions → HoldsAddress p f (plan w n f b) (ForRegion r) a → Rests i t first from → Rests i t first to → from ≤ to
      → ((k : ℕ) → from ≤ k → k < to → Acts i t first k → has (region_at f.regions r).writers (acting k) ≡ false)
      → byte_at i (at to) a ≡ byte_at i (at from) a

  -- what is lent to the compartment that acts, so that it may write it, lies in the stack, and one of its functions writes that local
  abbrev pub LoansAreNeeded : Type 0
  LoansAreNeeded =
      (k l a : ℕ) → Acts i t first k → IsInLoan i t (at k) (running i t (at k)).mask l a
      → OnStack t a × (x : ℕ × ℕ) × (slice_get (lent n f.groups) (loan_number i t (at k).ram l) ≡ Some x) × (writes n f.groups (acting k) (Local x.0 x.1) ≡ true)

  -- each access of a peripheral, load or store, is the acting compartment's own, and of a peripheral that it may use
  abbrev pub AccessesArePermitted : Type 0
  AccessesArePermitted =
      (k : ℕ) (e : Event) → HasStarted i t first k → event i (at k) ≡ Some e
      → Acts i t first k × (e.compartment ≡ acting k) × (e.periph < length p.periphs) × (may_write p n f e.compartment (Periph e.periph) ≡ true)

  -- a step loads the byte at an address
  abbrev pub HasLoaded : (step address : ℕ) → Type 0
  HasLoaded k a = AnyOf (λ (y : Touched). (y.address ≤ a) × (a < y.address + y.width)) (turn by_mpu i (at k)).loads

  -- an act's instruction loads a byte of a global only if its compartment may read the global, where the board's reads are closed
  abbrev pub GlobalsAreReadByTheirReaders : Type 0
  GlobalsAreReadByTheirReaders =
      i.closed ≡ true → (x a k : ℕ) → x < length p.globals → IsByteOf w n f b x a → Acts i t first k → HasLoaded k a
      → may_read p n f (acting k) (Global x) ≡ true

  -- the monitor loads no byte of a global for an act, where the board's reads are closed
  abbrev pub MonitorReadsNoGlobal : Type 0
  MonitorReadsNoGlobal =
      i.closed ≡ true → (x a m k : ℕ) → x < length p.globals → IsByteOf w n f b x a → Acts i t first m → m < k
      → ((j : ℕ) → m < j → j ≤ k → (at j).protection.handler ≡ true) → HasLoaded k a → ⊥

  pub record IsIsolated : Type 0 where
    -- which bytes of data change
    pub globals_stay : GlobalsStay
    pub globals_change : GlobalsChangeByTheirWriters
    pub regions_stay : RegionsStay
    -- a byte of the stack stays while it is closed to each compartment that acts: not below TOP, not lent to it, and not in the word that its
    -- return hands back
    pub stack_stays : ClosedStackStays i t first
    pub loans : LoansAreNeeded
    -- which bytes are loaded on a board with closed reads, of globals and of all memory: by an act's instruction, and by the monitor for it
    pub globals_read : GlobalsAreReadByTheirReaders
    pub no_global_read : MonitorReadsNoGlobal
    pub reads : ActsReadTheirOwn i t first
    pub monitor_reads : MonitorReadsForActs i t first
    -- which peripherals are accessed
    pub accesses : AccessesArePermitted

-- a run of any image for the board with the planned tables, whatever code it has: where memory is kept, it is isolated
abbrev pub KeptRunsAreIsolated : Type 0
KeptRunsAreIsolated =
    (w : PlainFirmware) (n : Needs) (f : Final) (b : Board) → IsPlanned w n f b → (i : Image) → ObeysRules i → IsForBoard w b i
    → (first : State) → KeepsMemory i (planned_tables w n f b) first → IsIsolated w n f b i (planned_tables w n f b) first

-- each run of each planned firmware's image
abbrev pub PlannedRunsAreIsolated : Type 0
PlannedRunsAreIsolated =
    (w : PlainFirmware) (n : Needs) (f : Final) (b : Board) → IsPlanned w n f b
    → EachRun (planned_image w n f b) (IsIsolated w n f b (planned_image w n f b) (planned_tables w n f b))
