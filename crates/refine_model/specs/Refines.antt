-- An image refines a firmware: whatever the device input, as long as the source run meets no fault and stays within its
-- stack limit, the machine makes the same accesses of peripherals, by the same compartments and in the same order, and ends
-- exactly when the source does.
use Rattle.std.specs.Prelude.{◌≡◌, ℕ, ◌+◌, ◌*◌, ◌≤◌, List, Option, Some, None}
use Rattle.machine_devices.specs.declared.image.Image.{Image}
use Rattle.machine_model.specs.declared.state.End.{End}
use Rattle.machine_model.specs.declared.state.End.TheVariants.{Halt, InputEnd}
use Rattle.machine_model.specs.State.{State}
use Rattle.machine_model.specs.Step.{step, event}
use Rattle.machine_model.specs.Reset.{IsReset}
use Rattle.base_words.specs.Runs.{run, events}
use Rattle.ir_model.specs.Plain.{PlainFirmware}
use Rattle.ir_model.specs.Resolved.{Program}
use Rattle.ir_model.specs.Resolve.{resolve}
use Rattle.ir_model.specs.State.{SourceState, Running, Ended, Returned, OutOfInput, Faulted}
use Rattle.ir_model.specs.Runs.{source_after, source_events}
use Rattle.plan_model.specs.declared.needs.Needs.{Needs}
use Rattle.plan_model.specs.declared.groups.Groups.{Groups}
use Rattle.refine_model.specs.StackLimit.{IsWithinStack}

abbrev pub HasFault : SourceState → Type 0
HasFault (Ended (Faulted f)) = Unit {0}
HasFault _ = ⊥

-- the machine has ended exactly where the source has: with halt 0 where the source returned, and by the end of input
-- where the source came to the end of input
abbrev pub EndsAlike : SourceState → Option End → Type 0
EndsAlike (Running frames m) e = e ≡ None
EndsAlike (Ended Returned) e = e ≡ Some (Halt 0)
EndsAlike (Ended OutOfInput) e = e ≡ Some InputEnd
EndsAlike (Ended (Faulted f)) e = ⊥

-- a source step takes at most so many machine steps
abbrev pub step_limit : ℕ
step_limit = 16384

-- start-up takes at most as many as a source step, and so many for each initial word
abbrev pub word_limit : ℕ
word_limit = 64

-- some number of machine steps does what n source steps do; `words` is the number of initial words
pub record Matched (p : Program) (compartments : List ℕ) (words : ℕ) (i : Image) (queues : List (List ℕ)) (first : State) (n : ℕ) : Type 0 where
  pub steps : ℕ
  pub least : n ≤ steps
  pub most : steps ≤ step_limit * (n + 1) + word_limit * words
  pub events : events (step i) (event i) steps first ≡ source_events p compartments queues n
  pub ends : EndsAlike (source_after p compartments queues n) (run (step i) steps first).ending

-- a source run of n steps that meets no fault and stays within its stack limit
pub record IsGood (p : Program) (needs : Needs) (groups : Groups) (stack : ℕ) (queues : List (List ℕ)) (n : ℕ) : Type 0 where
  pub no_fault : HasFault (source_after p groups.of queues n) → ⊥
  pub within : (j : ℕ) → j ≤ n → IsWithinStack p needs groups stack (source_after p groups.of queues j)

-- for every recorded input, whatever a reset leaves in registers and in RAM, and every number of steps.
-- `needs` are those of the firmware for the kind of board, and `stack` is the size of the board's stack
pub record Refines (w : PlainFirmware) (needs : Needs) (groups : Groups) (stack words : ℕ) (i : Image) : Type 0 where
  pub matched : (queues : List (List ℕ)) (first : State) (n : ℕ) → IsReset i queues first →
      IsGood (resolve w) needs groups stack queues n → Matched (resolve w) groups.of words i queues first n
