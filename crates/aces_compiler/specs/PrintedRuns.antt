-- That `run` prints of an image what `source` prints of its firmware.
use Rattle.std.specs.Prelude.{◌≡◌, ℕ, ◌+◌, ◌*◌, ◌≤◌, List, length}
use Rattle.machine_devices.specs.declared.image.Image.{Image}
use Rattle.machine_devices.specs.Rules.{ObeysRules}
use Rattle.machine_model.specs.State.{State}
use Rattle.machine_model.specs.Run.{start}
use Rattle.ir_model.specs.Plain.{PlainFirmware}
use Rattle.ir_model.specs.Resolve.{resolve}
use Rattle.ir_program.specs.Windows.{windows_of}
use Rattle.plan_model.specs.declared.groups.Groups.{Groups}
use Rattle.plan_model.specs.declared.needs.Needs.{Needs}
use Rattle.refine_model.specs.Refines.{Refines, IsGood, step_limit, word_limit}
use Rattle.ir_output.specs.SourceRuns as source
use Rattle.machine_output.specs.Runs as machine

-- an image on these words of device input before its first step, as `run` starts it
abbrev pub begin : Image → (queues : List (List ℕ)) → State
begin i queues = start i queues machine.fill

-- some number of machine steps prints the lines of so many source steps, that of the end included, and gives the same exit status;
-- `words` is the number of initial words
pub record IsAlike (w : PlainFirmware) (compartments : List ℕ) (words : ℕ) (i : Image) (queues : List (List ℕ)) (n : ℕ) : Type 0 where
  pub steps : ℕ
  pub least : n ≤ steps
  pub most : steps ≤ step_limit * (n + 1) + word_limit * words
  pub lines : machine.run_lines i steps (begin i queues) ≡ source.source_lines w compartments queues n
  pub status : machine.end_status (machine.end_of i steps (begin i queues)) ≡ source.source_status w compartments queues n

-- the runs of both are alike wherever the source run, in these compartments, meets no fault and stays within the stack's limit
abbrev pub RunsAreAlike : PlainFirmware → Needs → Groups → (stack words : ℕ) → Image → Type 0
RunsAreAlike w needs groups stack words i =
    (queues : List (List ℕ)) (n : ℕ) → length queues ≡ length (windows_of w) → IsGood (resolve w) needs groups stack queues n → IsAlike w groups.of words i queues n

-- the runs of every image that obeys the rules, has the firmware's windows and refines it are alike: the statement of a law
abbrev pub RefiningImagesAreAlike : Type 0
RefiningImagesAreAlike =
    (w : PlainFirmware) (needs : Needs) (groups : Groups) (stack words : ℕ) (i : Image)
    → ObeysRules i → i.windows ≡ windows_of w → Refines w needs groups stack words i → RunsAreAlike w needs groups stack words i
