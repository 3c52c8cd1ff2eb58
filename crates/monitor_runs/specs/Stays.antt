-- What stays in RAM from one rest of a run to another, and which compartments access peripherals: properties of a run, and the laws
-- that each run of a sound image has them.
use Rattle.std.specs.Prelude.{◌≡◌, ◌≢◌, ℕ, ◌+◌, ◌<◌, ◌≤◌, true, false, Some, length}
use Rattle.machine_protection.specs.declared.region.Region.{Region}
use Rattle.machine_protection.specs.Regions.{holds}
use Rattle.machine_devices.specs.declared.image.Image.{Image}
use Rattle.machine_bus.specs.Locations.{location, InWindow}
use Rattle.base_events.specs.declared.event.Event.{Event}
use Rattle.machine_model.specs.Confinement.{AnyOf}
use Rattle.machine_model.specs.State.{State, by_mpu}
use Rattle.machine_model.specs.Exceptions.{frame_at}
use Rattle.machine_model.specs.Step.{turn, event}
use Rattle.base_laws.specs.Lists.{Each}
use Rattle.monitor_model.specs.declared.tables.Tables.{Tables}
use Rattle.monitor_model.specs.Records.{stack_end}
use Rattle.monitor_model.specs.Block.{MonitorBlock}
use Rattle.monitor_model.specs.BlockWords.{current, top, depth, loan_count, loan_address, loan_end}
use Rattle.monitor_model.specs.Reach.{AllBytes, running, IsInLoan}
use Rattle.monitor_model.specs.Confined.{IsSvc, HasStarted, AreNext, later}
use Rattle.monitor_model.specs.Invariant.{InvariantHolds}
use Rattle.monitor_model.specs.Handlers.{InWaitingFrame, LoadFor}
use Rattle.monitor_runs.specs.WhoRuns.{depth_at, HasKeptFrame, IsBehindCall}
use Rattle.monitor_runs.specs.Acts.{byte_at, IsOutside, OnStack, IsWritable, IsResult, MayChange, MayRead, Acts, Rests}

-- ---- of a state in which a compartment's instruction comes next

-- what bounds its reach: how many calls wait, how much of the stack is open, and what is lent
pub record IsBounded (i : Image) (t : Tables) (s : State) : Type 0 where
  pub runs : current i t s.ram < length t.comps
  pub waiting : depth i t s.ram ≤ 7
  pub some_open : t.stack.base < top i t s.ram
  pub most_open : top i t s.ram ≤ stack_end t
  pub few_lent : loan_count i t s.ram ≤ 32
  -- each live loan, whoever may use it, is part of the stack
  pub lent : (k a : ℕ) → k < loan_count i t s.ram → loan_address i t s.ram k ≤ a → a < loan_end i t s.ram k → OnStack t a
  -- the frame of the call that waits last is part of the stack too
  pub frame : (a : ℕ) → InWaitingFrame i t s a → OnStack t a

-- an address of the stack that its act does not change: it is not below TOP, not in what is lent to it, and not in the word that its
-- return hands back
pub record IsClosedTo (i : Image) (t : Tables) (s : State) (a : ℕ) : Type 0 where
  pub above : top i t s.ram ≤ a
  pub not_lent : (k : ℕ) → IsInLoan i t s (running i t s).mask k a → ⊥
  pub no_result : IsSvc i t 1 s → IsResult i t s a → ⊥

-- ---- of a run

module _ (i : Image) (t : Tables) (first : State) where
  abbrev at : ℕ → State
  at n = later i t first n

  -- of two acts that follow each other: what has changed is what the first one may change
  abbrev pub ActsChangeTheirOwn : Type 0
  ActsChangeTheirOwn =
      (m n a : ℕ) → Acts i t first m → AreNext i t first m n → IsOutside i t a → byte_at i (at n) a ≢ byte_at i (at m) a → MayChange i t (at m) a

  -- off the stack the instruction's own step has changed it, in a slot that the compartment may write. So no handler changes data
  abbrev pub DataChangesInOwnSteps : Type 0
  DataChangesInOwnSteps =
      (m n a : ℕ) → Acts i t first m → AreNext i t first m n → IsOutside i t a → (OnStack t a → ⊥) → byte_at i (at n) a ≢ byte_at i (at m) a
      → (n ≡ m + 1) × IsWritable t (current i t (at m).ram) a

  -- a byte stays while no compartment acts that may change it
  abbrev pub MemoryStays : Type 0
  MemoryStays =
      (from to a : ℕ) → Rests i t first from → Rests i t first to → from ≤ to → IsOutside i t a
      → ((k : ℕ) → from ≤ k → k < to → Acts i t first k → MayChange i t (at k) a → ⊥)
      → byte_at i (at to) a ≡ byte_at i (at from) a

  -- off the stack: a byte stays while no compartment acts that has it in a slot that it may write
  abbrev pub DataStays : Type 0
  DataStays =
      (from to a : ℕ) → Rests i t first from → Rests i t first to → from ≤ to → IsOutside i t a → (OnStack t a → ⊥)
      → ((k : ℕ) → from ≤ k → k < to → Acts i t first k → IsWritable t (current i t (at k).ram) a → ⊥)
      → byte_at i (at to) a ≡ byte_at i (at from) a

  -- a compartment that has the byte in such a slot has acted, where the byte has changed
  abbrev pub DataChangesByItsWriters : Type 0
  DataChangesByItsWriters =
      (from to a : ℕ) → Rests i t first from → Rests i t first to → from ≤ to → IsOutside i t a → (OnStack t a → ⊥)
      → byte_at i (at to) a ≢ byte_at i (at from) a
      → (k : ℕ) × (from ≤ k) × (k < to) × Acts i t first k × IsWritable t (current i t (at k).ram) a

  -- what one compartment alone may write stays while it does not act
  abbrev pub OwnDataStays : Type 0
  OwnDataStays =
      (c from to a : ℕ) → Rests i t first from → Rests i t first to → from ≤ to → IsOutside i t a → (OnStack t a → ⊥)
      → ((d : ℕ) → d ≢ c → IsWritable t d a → ⊥)
      → ((k : ℕ) → from ≤ k → k < to → Acts i t first k → current i t (at k).ram ≢ c)
      → byte_at i (at to) a ≡ byte_at i (at from) a

  -- on the stack: a byte stays while it is closed to each compartment that acts
  abbrev pub ClosedStackStays : Type 0
  ClosedStackStays =
      (from to a : ℕ) → Rests i t first from → Rests i t first to → from ≤ to → OnStack t a
      → ((k : ℕ) → from ≤ k → k < to → Acts i t first k → IsClosedTo i t (at k) a)
      → byte_at i (at to) a ≡ byte_at i (at from) a

  -- both words of a waiting caller's frame by which it goes on stay, where no live loan of a compartment that acts meanwhile holds one of
  -- the frame's 32 bytes. Step a of the caller makes the call, b is its callee's first one, c the last one before the depth is again what it
  -- was, and d the caller's next: it is behind its call, with its stack pointer
  abbrev pub FramesAreKept : Type 0
  FramesAreKept =
      (a b c d : ℕ) → HasStarted i t first a → AreNext i t first a b → b ≤ c → AreNext i t first c d
      → ((k : ℕ) → b ≤ k → k ≤ c → (at k).protection.handler ≡ false → depth_at i t first a < depth_at i t first k) → depth_at i t first d ≤ depth_at i t first a
      → ((k l o : ℕ) → b ≤ k → k < c → Acts i t first k → frame_at (at a).core.sp ≤ o → o < frame_at (at a).core.sp + 32 → IsInLoan i t (at k) (running i t (at k)).mask l o → ⊥)
      → HasKeptFrame i t first a b c × IsBehindCall i t first a d

  -- on a board with closed reads an act may read each byte that its instruction loads, a vector's included
  abbrev pub ActsReadTheirOwn : Type 0
  ActsReadTheirOwn = i.closed ≡ true → (n : ℕ) → Acts i t first n → Each (AllBytes (MayRead i t (at n))) (turn by_mpu i (at n)).loads

  -- each byte that the monitor's steps for an act load, as far as these steps go, is one that the monitor may load for it
  abbrev pub MonitorReadsForActs : Type 0
  MonitorReadsForActs =
      i.closed ≡ true → (n k : ℕ) → Acts i t first n → n < k → ((j : ℕ) → n < j → j ≤ k → (at j).protection.handler ≡ true)
      → Each (AllBytes (LoadFor i t (at n))) (turn by_mpu i (at k)).loads

  -- each access of a peripheral is made by the running compartment's own instruction, in one of its slots; a store in one that it may
  -- write
  pub record IsOwnAccess (n : ℕ) (e : Event) : Type 0 where
    pub acts : Acts i t first n
    pub compartment : e.compartment ≡ current i t (at n).ram
    pub address : ℕ
    pub there : location i address ≡ InWindow e.periph e.offset
    pub in_slot : AnyOf (λ (g : Region). holds g address ≡ true) (running i t (at n)).slots
    pub may_store : e.write ≡ true → IsWritable t (current i t (at n).ram) address

  abbrev pub AccessesAreOwn : Type 0
  AccessesAreOwn = (n : ℕ) (e : Event) → HasStarted i t first n → event i (at n) ≡ Some e → IsOwnAccess n e

  pub record KeepsMemory : Type 0 where
    pub acts_change : ActsChangeTheirOwn
    pub own_steps : DataChangesInOwnSteps
    pub stays : MemoryStays
    pub data_stays : DataStays
    pub changes : DataChangesByItsWriters
    pub own_stays : OwnDataStays
    pub stack_stays : ClosedStackStays
    pub frames : FramesAreKept
    pub reads : ActsReadTheirOwn
    pub monitor_reads : MonitorReadsForActs
    pub bounded : (n : ℕ) → Acts i t first n → IsBounded i t (at n)
    pub invariant : (n : ℕ) → Acts i t first n → (m : MonitorBlock) × InvariantHolds i t m (at n)
    pub accesses : AccessesAreOwn
