-- Beyond the program's claim: only laws, proofs and functions inside the tool cite this file.
-- Threads as a simulation of source runs sees them: over any invariant of the block's lists, and with all that a handler may
-- change told once, so that every rule of the law has one shape. Offsets are from RAM's base.
use Rattle.std.specs.Prelude.{◌≡◌, ℕ, ◌+◌, ◌-◌, ◌*◌, ◌/◌, ◌%◌, ◌^◌, ◌<◌, ◌≤◌, ◌⊎◌, List, [], length, Bool, true, false, nat_eq}
use Rattle.std.proofs.Math.ListN.{get_or}
use Rattle.base_words.specs.declared.conditions.Flags.{Flags}
use Rattle.base_words.specs.Bytes.{read, cut}
use Rattle.machine_thumb.specs.declared.table.Instr.{Instr}
use Rattle.machine_devices.specs.Rules.{block_size}
use Rattle.machine_model.specs.State.{State, by_mpu}
use Rattle.machine_model.specs.Exceptions.{is_thread}
use Rattle.machine_model.specs.Code.{Lies, Runs}
use Rattle.machine_model.specs.Confinement.{AnyOf}
use Rattle.base_laws.specs.Lists.{Each}
use Rattle.machine_model.specs.Shape.{StateFits}
use Rattle.machine_model.specs.RunningCode.{Context, works}
use Rattle.monitor_model.specs.declared.tables.InitRecord.{InitRecord}
use Rattle.monitor_model.specs.Block.{MonitorBlock, Loan}
use Rattle.monitor_model.specs.Setting.{Setting}

-- steps at most: of enter and leave, of lend and unlend, of an emulated access, and of start-up beside the initial words; each
-- with the exception's entry and its return
abbrev pub call_steps : ℕ
call_steps = 4096

abbrev pub lend_steps : ℕ
lend_steps = 256

abbrev pub access_steps : ℕ
access_steps = 16000

abbrev pub start_steps : ℕ
start_steps = 4352

module _ (g : Setting) where
  abbrev pub base : ℕ
  base = g.image.ram_base

  abbrev pub stack_end : ℕ
  stack_end = g.stack + 8 * g.eighth

  -- before `main`
  abbrev pub first_block : MonitorBlock
  first_block = record { current = g.main_compartment; top = base + stack_end; mark = 0; saved = []; loans = [] }

  -- an access keeps off what a handler may change: the stack below an offset, and the monitor's block
  abbrev pub KeepsOff : (below at width : ℕ) → Type 0
  KeepsOff below a w = ((a + w ≤ g.stack) ⊎ (below ≤ a)) × ((a + w ≤ g.block) ⊎ (g.block + block_size ≤ a))

  -- RAM stays, but for these
  pub record Stays (below : ℕ) (old new : List ℕ) : Type 0 where
    pub reads : (w a : ℕ) → KeepsOff below a w → read w a new ≡ read w a old
    pub as_long : length new ≡ length old

  -- RAM holds the initial words; the records have addresses
  abbrev pub Copied : (ram : List ℕ) → List InitRecord → Type 0
  Copied ram ns =
      Each (λ (n : InitRecord). (w a : ℕ) → n.at ≤ base + a → base + a + w ≤ n.end →
      read w a ram ≡ read w (n.from - g.image.flash_base + (base + a - n.at)) g.image.flash) ns

  -- a thread's stack pointer that leaves room for an exception
  pub record HasRoom (m : MonitorBlock) (o : ℕ) : Type 0 where
    pub aligned : o % 8 ≡ 0
    pub low : g.stack + 32 ≤ o
    pub high : base + o ≤ m.top

  -- an access keeps off the 32 bytes below a stack pointer, where an exception's entry pushes its frame. A load there would
  -- read the frame, and a store would change it: the thread would go on elsewhere
  abbrev pub OffFrame : (sp at width : ℕ) → Type 0
  OffFrame o a w = (a + w + 32 ≤ o) ⊎ (o ≤ a)

  -- a live loan that a mask has holds so many bytes from an address on
  abbrev pub IsLentTo : (has : ℕ → Bool) → MonitorBlock → (address width : ℕ) → Type 0
  IsLentTo has m a w = AnyOf (λ (l : Loan). (has l.number ≡ true) × (l.address ≤ a) × (a + w ≤ l.end)) m.loans

module _ (g : Setting) (Inv : MonitorBlock → Context → List ℕ → Type 0) where
  -- a thread of the invariant, with room for an exception, at an instruction. Its registers are words, else nothing can be said
  -- of code that saves and restores them; and its pc is even, as an exception's return drops bit 0
  pub record AtInstr (m : MonitorBlock) (x : Context) (low : List ℕ) (o lr pc : ℕ) (f : Flags) (ram : List ℕ) (queues : List (List ℕ)) (y : Instr) : Type 0 where
    pub invariant : Inv m x ram
    pub room : HasRoom g m o
    pub fits : StateFits g.image (works x low (base g + o) lr pc f ram queues)
    pub lies : Lies g.image pc y
    -- it is the running compartment's own
    pub owned : g.has_code m.current pc ≡ true

  -- the thread goes on there after at most so many steps without an event; RAM stays but for the monitor's block and the
  -- stack below an offset
  pub record Resumes (most : ℕ) (from : State) (m : MonitorBlock) (sp pc : ℕ) (below : ℕ) (ram : List ℕ) (queues : List (List ℕ)) : Type 0 where
    pub count : ℕ
    pub least : 1 ≤ count
    pub within : count ≤ most
    pub context : Context
    pub low : List ℕ
    pub lr : ℕ
    pub flags : Flags
    pub memory : List ℕ
    pub fits : StateFits g.image (works context low sp lr pc flags memory queues)
    pub runs : Runs by_mpu g.image count from (works context low sp lr pc flags memory queues) []
    pub invariant : Inv m context memory
    pub stays : Stays g below ram memory

  -- at a callee's entry: the arguments are there, it returns to the stub, and the call's frame waits
  pub record Enters (from : State) (m : MonitorBlock) (low : List ℕ) (o top entry ret : ℕ) (ram : List ℕ) (queues : List (List ℕ)) : Type 0 where
    pub resumes : Resumes call_steps from m (base g + top) entry o ram queues
    pub arguments : (k : ℕ) → k < 4 → get_or resumes.low k 0 ≡ cut 4 (get_or low k 0)
    pub link : resumes.lr ≡ g.stub + 1
    pub status : ℕ
    pub thread : is_thread status ≡ true
    pub no_pad : nat_eq (status / 2 ^ 9 % 2) 1 ≡ false
    pub saved_return : read 4 (o - 8) resumes.memory ≡ ret
    pub saved_status : read 4 (o - 4) resumes.memory ≡ status

  -- behind a crossing call: the result is there
  pub record Leaves (from : State) (m : MonitorBlock) (low : List ℕ) (o ret : ℕ) (ram : List ℕ) (queues : List (List ℕ)) : Type 0 where
    pub resumes : Resumes call_steps from m (base g + o) ret o ram queues
    pub result : get_or resumes.low 0 0 ≡ cut 4 (get_or low 0 0)

  -- at `main`, from reset
  pub record Begins (queues : List (List ℕ)) (first : State) : Type 0 where
    pub count : ℕ
    pub within : count ≤ start_steps + 64 * g.words
    pub context : Context
    pub low : List ℕ
    pub flags : Flags
    pub memory : List ℕ
    pub fits : StateFits g.image (works context low (base g + stack_end g) (g.stub + 1) g.main flags memory queues)
    pub runs : Runs by_mpu g.image count first (works context low (base g + stack_end g) (g.stub + 1) g.main flags memory queues) []
    pub invariant : Inv (first_block g) context memory
    pub copied : Copied g memory g.inits
