-- What the monitor's start-up leaves.
use Rattle.std.specs.Prelude.{◌≡◌, ℕ, ◌+◌, ◌-◌, ◌<◌, ◌≤◌, List, [], ◌∷◌, None}
use Rattle.base_words.specs.Bytes.{write_all}
use Rattle.machine_devices.specs.declared.image.Image.{Image}
use Rattle.machine_model.specs.State.{State}
use Rattle.machine_model.specs.Step.{event}
use Rattle.machine_model.specs.Stack.{words_at}
use Rattle.machine_model.specs.Reset.{IsReset}
use Rattle.monitor_model.specs.declared.tables.InitRecord.{InitRecord}
use Rattle.monitor_model.specs.declared.tables.Tables.{Tables}
use Rattle.monitor_model.specs.Records.{words_in, stack_end}
use Rattle.monitor_model.specs.Block.{first_block}
use Rattle.monitor_model.specs.Confined.{StartUp, later}
use Rattle.monitor_model.specs.Invariant.{InvariantHolds}
use Rattle.monitor_model.specs.MonitorLaw.{IsMemory}

-- RAM with the words of flash in a range; and in all ranges, one after another
abbrev pub with_words : Image → InitRecord → (ram : List ℕ) → List ℕ
with_words i n ram = write_all 4 (n.at - i.ram_base) (words_at (words_in n) (n.from - i.flash_base) i.flash) ram

abbrev pub with_all_words : Image → List InitRecord → (ram : List ℕ) → List ℕ
with_all_words i [] ram = ram
with_all_words i (n ∷ ns) ram = with_all_words i ns (with_words i n ram)

-- main's first instruction: lr leads to the leave stub, and the whole stack is open
pub record AtMain (t : Tables) (stub : ℕ) (s : State) : Type 0 where
  -- bit 0 of main's entry is set
  pub pc : s.core.pc + 1 ≡ t.main
  pub lr : s.core.lr ≡ stub + 1
  pub sp : s.core.sp ≡ stack_end t
  pub ending : s.ending ≡ None

module _ (i : Image) (t : Tables) (stub : ℕ) (first : State) where
  -- so many steps from a first state on: the invariant, RAM that is as before but for the monitor's block and the initial words,
  -- and no input taken
  pub record HasBegun (count : ℕ) : Type 0 where
    pub holds : InvariantHolds i t (first_block t) (later i t first count)
    pub memory : IsMemory i t 0 (with_all_words i t.inits first.ram) (later i t first count).ram
    pub queues : (later i t first count).queues ≡ first.queues

  pub record StartsFrom : Type 0 where
    -- confinement's first property
    pub start_up : StartUp i t first
    pub begun : HasBegun start_up.count
    -- CONTROL is written before the branch: three further steps, an ISB, a MOV and a BX, run unprivileged
    pub quiet : (n : ℕ) → start_up.count ≤ n → n < start_up.count + 3 → event i (later i t first n) ≡ None
    pub still_begun : HasBegun (start_up.count + 3)
    pub at_main : AtMain t stub (later i t first (start_up.count + 3))

-- for every recorded input, and whatever a reset leaves
abbrev pub Starts : Image → Tables → (stub : ℕ) → Type 0
Starts i t stub =
    (queues : List (List ℕ)) (first : State) → IsReset i queues first → StartsFrom i t stub first
