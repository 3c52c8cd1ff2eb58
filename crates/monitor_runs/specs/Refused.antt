-- Beyond the program's claim: only laws, proofs and functions inside the tool cite this file.
-- Monitors that do not isolate, by what is found where compartments act in a run of theirs; and statements of laws that no such run tells
-- who runs, or keeps memory.
use Rattle.std.specs.Prelude.{◌≡◌, ◌≢◌, ℕ, ◌+◌, ◌<◌, ◌≤◌, ◌⊎◌, true, false, None}
use Rattle.machine_devices.specs.declared.image.Image.{Image}
use Rattle.machine_model.specs.State.{State, is_unprivileged, low_register}
use Rattle.machine_model.specs.Exceptions.{frame_at}
use Rattle.monitor_model.specs.declared.tables.Tables.{Tables}
use Rattle.monitor_model.specs.Records.{stack_end}
use Rattle.monitor_model.specs.BlockWords.{current, top, depth, saved_current, saved_top, loan_count, loan_address, loan_end}
use Rattle.monitor_model.specs.Reach.{running, IsInLoan}
use Rattle.monitor_model.specs.Confined.{IsSvc, HasStarted, AreNext, later}
use Rattle.monitor_runs.specs.WhoRuns.{WhoRuns}
use Rattle.monitor_runs.specs.Acts.{byte_at, IsOutside, OnStack, IsWritable, Acts}
use Rattle.monitor_runs.specs.Stays.{KeepsMemory}

module _ (i : Image) (t : Tables) (first : State) where
  abbrev at : ℕ → State
  at n = later i t first n

  -- an act, and the next one
  pub record TwoActs : Type 0 where
    pub before : ℕ
    pub after : ℕ
    pub acts : Acts i t first before
    pub next : AreNext i t first before after

  -- an SVC 9 that stores for whoever asks, under another CUR that it sets back: data has changed that the one who asked may not write
  pub record StoresForAnybody : Type 0 where
    pub two : TwoActs
    pub asks : IsSvc i t 9 (at two.before)
    pub sets_back : current i t (at two.after).ram ≡ current i t (at two.before).ram
    pub address : ℕ
    pub outside : IsOutside i t address
    pub off_stack : OnStack t address → ⊥
    pub not_its_own : IsWritable t (current i t (at two.before).ram) address → ⊥
    pub changes : byte_at i (at two.after) address ≢ byte_at i (at two.before) address

  -- a call that leaves all of the open stack to the callee
  pub record CallsAtFullStack : Type 0 where
    pub two : TwoActs
    pub calls : depth i t (at two.after).ram ≡ depth i t (at two.before).ram + 1
    pub keeps_top : top i t (at two.before).ram ≤ top i t (at two.after).ram

  -- one more loan, of a range that does not lie between the thread's frame and TOP
  pub record LendsAnything : Type 0 where
    pub two : TwoActs
    pub lends : loan_count i t (at two.after).ram ≡ loan_count i t (at two.before).ram + 1
    pub not_there : (loan_address i t (at two.after).ram (loan_count i t (at two.before).ram) < frame_at (at two.before).core.sp + 32)
        ⊎ (top i t (at two.before).ram < loan_end i t (at two.after).ram (loan_count i t (at two.before).ram))

  -- the first unprivileged step finds TOP beyond the stack
  pub record StartsBeyondTheStack : Type 0 where
    pub count : ℕ
    pub over : is_unprivileged (at count).protection ≡ true
    pub privileged : (k : ℕ) → k < count → is_unprivileged (at k).protection ≡ false
    pub beyond : stack_end t < top i t (at count).ram

  -- an SVC 9 behind which CUR, TOP and DEPTH are as before, and a call that waits returns to another compartment or to another TOP
  pub record RewritesCalls : Type 0 where
    pub two : TwoActs
    pub asks : IsSvc i t 9 (at two.before)
    pub same_current : current i t (at two.after).ram ≡ current i t (at two.before).ram
    pub same_top : top i t (at two.after).ram ≡ top i t (at two.before).ram
    pub same_depth : depth i t (at two.after).ram ≡ depth i t (at two.before).ram
    pub number : ℕ
    pub waits : number < depth i t (at two.before).ram
    pub changes : (saved_current i t (at two.after).ram number ≢ saved_current i t (at two.before).ram number)
        ⊎ (saved_top i t (at two.after).ram number ≢ saved_top i t (at two.before).ram number)

  -- a handler has worked, for no SVC and for no access of a loan at r1, and the thread goes on, wherever
  pub record SkipsRefusedAccess : Type 0 where
    pub two : TwoActs
    pub handled : two.before + 1 < two.after
    pub no_call : (k : ℕ) → IsSvc i t k (at two.before) → ⊥
    pub not_written : (k : ℕ) → IsInLoan i t (at two.before) (running i t (at two.before)).mask k (low_register (at two.before).core 1) → ⊥
    pub not_read : (k : ℕ) → IsInLoan i t (at two.before) (running i t (at two.before)).reads k (low_register (at two.before).core 1) → ⊥

  -- a handler that goes round for ever
  pub record LoopsInHandler : Type 0 where
    pub from : ℕ
    pub started : HasStarted i t first from
    pub works : (k : ℕ) → (at (from + k)).protection.handler ≡ true
    pub live : (k : ℕ) → (at (from + k)).ending ≡ None

-- ---- statements

-- no such run tells who runs
abbrev pub TellsOfNone : (Image → Tables → State → Type 0) → Type 0
TellsOfNone Wrong = (i : Image) (t : Tables) (first : State) → Wrong i t first → WhoRuns i t first → ⊥

-- no such run keeps memory
abbrev pub KeepsFromNone : (Image → Tables → State → Type 0) → Type 0
KeepsFromNone Wrong = (i : Image) (t : Tables) (first : State) → Wrong i t first → KeepsMemory i t first → ⊥
