-- Who runs, in a whole run: statements of laws.
use Rattle.std.specs.Prelude.{◌≡◌, ℕ, ◌+◌, ◌-◌, ◌%◌, ◌<◌, ◌≤◌, ◌⊎◌, List, true, false, Some, None}
use Rattle.base_words.specs.Bytes.{read}
use Rattle.machine_devices.specs.declared.image.Image.{Image}
use Rattle.machine_model.specs.declared.state.End.{End}
use Rattle.machine_model.specs.State.{State}
use Rattle.machine_model.specs.Exceptions.{frame_at}
use Rattle.machine_model.specs.Step.{event}
use Rattle.machine_model.specs.Reset.{IsReset}
use Rattle.monitor_model.specs.declared.tables.Tables.{Tables}
use Rattle.monitor_model.specs.Records.{stack_end}
use Rattle.monitor_model.specs.Block.{MonitorBlock, first_block}
use Rattle.monitor_model.specs.BlockWords.{depth, IsBlock}
use Rattle.monitor_model.specs.Invariant.{IsOrderly}
use Rattle.monitor_model.specs.Confined.{StartUp, HasStarted, AreNext, later}
use Rattle.monitor_program.specs.TheCode.{monitor_code}
use Rattle.monitor_model.specs.Promises.{OfSoundImages}
use Rattle.monitor_runs.specs.BlockInRam.{block_of}
use Rattle.monitor_runs.specs.Moves.{Moves, GoesOnAt}

-- the lists of a block are those that its words say: there is one block
abbrev pub BlocksAreOne : Type 0
BlocksAreOne = (i : Image) (t : Tables) (ram : List ℕ) (m : MonitorBlock) → IsBlock i t ram m → m ≡ block_of i t ram

-- a thread goes on, or the machine has ended
abbrev pub IsBack : State → Type 0
IsBack u = (u.protection.handler ≡ false) ⊎ ((e : End) × (u.ending ≡ Some e))

module _ (i : Image) (t : Tables) (first : State) where
  -- at a step of the run
  abbrev pub block_at : ℕ → MonitorBlock
  block_at n = block_of i t (later i t first n).ram

  pub record WhoRuns : Type 0 where
    pub start_up : StartUp i t first
    -- at first `main`'s compartment, with the whole stack; no call waits, and nothing is lent
    pub begins : block_at start_up.count ≡ first_block t
    -- three steps later `main` begins; bit 0 of its entry is set
    pub at_main : (later i t first (start_up.count + 3)).core.pc + 1 ≡ t.main
    pub whole_stack : (later i t first (start_up.count + 3)).core.sp ≡ stack_end t
    -- instructions stand at even addresses
    pub even : (n : ℕ) → HasStarted i t first n → (later i t first n).protection.handler ≡ false → (later i t first n).core.pc % 2 ≡ 0
    -- DEPTH at most 7, LOANS at most 32, TOP a whole number of eighths above the stack's base; frames that wait lie above TOP, each in its
    -- own compartment's part, and loans lie in the stack
    pub orderly : (n : ℕ) → HasStarted i t first n → (later i t first n).protection.handler ≡ false → IsOrderly t (block_at n)
    pub moves : (m n : ℕ) → HasStarted i t first m → AreNext i t first m n → Moves i t (later i t first m) (later i t first n) (block_at m) (block_at n)
    -- a handler comes back, or ends the machine; it makes no access of a peripheral
    pub returns : (n : ℕ) → HasStarted i t first n → (k : ℕ) × (k ≤ 16000) × IsBack (later i t first (n + k))
    pub quiet : (n : ℕ) → HasStarted i t first n → (later i t first n).protection.handler ≡ true → event i (later i t first n) ≡ None

  -- the depth at a step: how many calls wait
  abbrev pub depth_at : ℕ → ℕ
  depth_at n = depth i t (later i t first n).ram

  -- both words by which the frame of the thread's step a returns are at step c as at step b
  abbrev pub HasKeptFrame : (a b c : ℕ) → Type 0
  HasKeptFrame a b c =
      (o : ℕ) → (o ≡ 24) ⊎ (o ≡ 28) →
      read 4 (frame_at (later i t first a).core.sp - i.ram_base + o) (later i t first c).ram ≡ read 4 (frame_at (later i t first a).core.sp - i.ram_base + o) (later i t first b).ram

  -- the caller is behind the SVC of its call and the number that follows it, with its stack pointer
  abbrev pub IsBehindCall : (a d : ℕ) → Type 0
  IsBehindCall a d = ((later i t first d).core.pc ≡ (later i t first a).core.pc + 4) × ((later i t first d).core.sp ≡ (later i t first a).core.sp)

  -- a call from the thread's step a, with b the first step of its callee and c the last one before the depth is again what it was. Then
  -- all of the block is what it was: whose code runs, up to where the stack is open, which calls wait, and what is lent. The caller goes on
  -- as its frame says, which is behind its call where nobody changed the frame meanwhile: a compartment may lend the place of its own
  abbrev pub CallsComeBack : Type 0
  CallsComeBack =
      (a b c d : ℕ) → HasStarted i t first a → AreNext i t first a b → b ≤ c → AreNext i t first c d
      → ((k : ℕ) → b ≤ k → k ≤ c → (later i t first k).protection.handler ≡ false → depth_at a < depth_at k) → depth_at d ≤ depth_at a
      → (block_at d ≡ block_at a) × GoesOnAt i (later i t first c).ram (frame_at (later i t first a).core.sp) (later i t first d) × (HasKeptFrame a b c → IsBehindCall a d)

-- calls come back where it is told who runs
abbrev pub WhoRunsComesBack : Type 0
WhoRunsComesBack = (i : Image) (t : Tables) (first : State) → WhoRuns i t first → CallsComeBack i t first

-- of every sound image, from whatever a reset leaves
abbrev pub SoundImagesTellWhoRuns : Type 0
SoundImagesTellWhoRuns =
    OfSoundImages monitor_code (λ i t. (queues : List (List ℕ)) (first : State) → IsReset i queues first → WhoRuns i t first)
