-- When compartments act in a run, and which bytes an act may change and read: its instruction, with all that the monitor does for it.
use Rattle.std.specs.Prelude.{◌≡◌, ℕ, ◌+◌, ◌-◌, ◌<◌, ◌≤◌, true, false}
use Rattle.base_words.specs.Bytes.{read}
use Rattle.machine_protection.specs.declared.region.Region.{Region}
use Rattle.machine_protection.specs.Regions.{holds, permission}
use Rattle.machine_devices.specs.declared.image.Image.{Image}
use Rattle.machine_model.specs.State.{State}
use Rattle.machine_model.specs.Confinement.{AnyOf}
use Rattle.monitor_model.specs.declared.tables.Tables.{Tables}
use Rattle.monitor_model.specs.Records.{compartment_at, stack_end}
use Rattle.monitor_model.specs.BlockWords.{current, depth, saved_psp}
use Rattle.monitor_model.specs.Reach.{running, InOpenStack, IsInLoan, InBlock}
use Rattle.monitor_model.specs.Confined.{IsSvc, HasStarted, later}
use Rattle.monitor_runs.specs.WhoRuns.{IsBack}

-- ---- addresses

-- the byte at an address of RAM
abbrev pub byte_at : Image → State → (address : ℕ) → ℕ
byte_at i s a = read 1 (a - i.ram_base) s.ram

-- an address from RAM's base on, outside the monitor's block
pub record IsOutside (i : Image) (t : Tables) (a : ℕ) : Type 0 where
  pub from_base : i.ram_base ≤ a
  pub off_block : InBlock t a → ⊥

abbrev pub OnStack : Tables → (address : ℕ) → Type 0
OnStack t a = (t.stack.base ≤ a) × (a < stack_end t)

-- a slot that a compartment may write holds the address
abbrev pub IsWritable : Tables → (compartment address : ℕ) → Type 0
IsWritable t c a = AnyOf (λ (g : Region). (holds g a ≡ true) × (permission g ≡ 3)) (compartment_at t c).slots

module _ (i : Image) (t : Tables) where
  -- ---- of a state in which a compartment's instruction comes next

  -- the stack pointer of the frame that waits last
  abbrev pub waiting_at : State → ℕ
  waiting_at s = saved_psp i t s.ram (depth i t s.ram - 1)

  -- the first word of the frame that waits for the return: the caller's r0
  abbrev pub IsResult : State → (address : ℕ) → Type 0
  IsResult s a =
      (0 < depth i t s.ram) × (waiting_at s ≤ a) × (a < waiting_at s + 4)

  -- all that it may change outside the monitor's block. CUR, TOP, DEPTH, the saved entries and the loans are those of this state
  pub data MayChange (s : State) (a : ℕ) : Type 0 where
    -- a slot of CUR that all may write
    InSlot : IsWritable t (current i t s.ram) a → MayChange s a
    -- the stack below TOP
    BelowTop : InOpenStack i t s a → MayChange s a
    -- a live loan whose number is in the mask of CUR
    InLoan : (k : ℕ) → IsInLoan i t s (running i t s).mask k a → MayChange s a
    -- and where its instruction is the SVC of a return, the word for its result
    InResult : IsSvc i t 1 s → IsResult s a → MayChange s a

  -- and all that the instruction itself may load where the board's reads are closed
  pub data MayRead (s : State) (a : ℕ) : Type 0 where
    ReadsSlot : AnyOf (λ (g : Region). holds g a ≡ true) (running i t s).slots → MayRead s a
    ReadsStack : InOpenStack i t s a → MayRead s a
    -- the mebibyte of flash
    ReadsFlash : i.flash_base ≤ a → a < i.flash_base + 0x100000 → MayRead s a

  -- ---- of a run

  module _ (first : State) where
    -- a compartment acts: start-up is over, and an instruction of the thread comes next
    pub record Acts (n : ℕ) : Type 0 where
      pub started : HasStarted i t first n
      pub thread : (later i t first n).protection.handler ≡ false

    -- between two acts, or at the machine's end: no handler is at work
    pub record Rests (n : ℕ) : Type 0 where
      pub started : HasStarted i t first n
      pub none_works : IsBack (later i t first n)
