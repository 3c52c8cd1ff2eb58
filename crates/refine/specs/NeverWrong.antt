-- An image does what its firmware says, or stops for want of stack: for every source run without a fault, whatever room its frames
-- take. Where the run stays within its stack limit, nothing stops it (`Refines`).
use Rattle.std.specs.Prelude.{◌≡◌, ℕ, ◌+◌, ◌*◌, ◌≤◌, ◌⊎◌, List, ◌++◌, Some}
use Rattle.machine_devices.specs.declared.image.Image.{Image}
use Rattle.base_events.specs.declared.event.Event.{Event}
use Rattle.machine_model.specs.declared.state.End.{End}
use Rattle.machine_model.specs.State.{State}
use Rattle.machine_model.specs.Step.{step, event}
use Rattle.base_words.specs.Runs.{run}
use Rattle.base_words.specs.Runs as runs
use Rattle.machine_model.specs.Reset.{IsReset}
use Rattle.ir_model.specs.Plain.{PlainFirmware}
use Rattle.ir_model.specs.Resolved.{Program}
use Rattle.ir_model.specs.Resolve.{resolve}
use Rattle.ir_model.specs.Runs.{source_after, source_events}
use Rattle.plan_model.specs.declared.groups.Groups.{Groups}
use Rattle.refine_model.specs.Refines.{HasFault, EndsAlike, Matched, step_limit, word_limit}
use Rattle.refine.specs.Ends.{NamesStack}

-- the machine has ended for want of stack, in a step behind the first `done` of the source, whose events it has made
pub record StopsShort (p : Program) (compartments : List ℕ) (words : ℕ) (i : Image) (queues : List (List ℕ)) (first : State) (n : ℕ) : Type 0 where
  pub steps : ℕ
  pub most : steps ≤ step_limit * (n + 2) + word_limit * words
  pub done : ℕ
  pub before : done ≤ n
  pub events : runs.events (step i) (event i) steps first ≡ source_events p compartments queues done
  pub end : End
  pub over : (run (step i) steps first).ending ≡ Some end
  pub names : NamesStack end

-- n source steps without a fault are done by some number of machine steps, or the machine stops before
pub record RefinesOrStops (w : PlainFirmware) (groups : Groups) (words : ℕ) (i : Image) : Type 0 where
  pub served : (queues : List (List ℕ)) (first : State) (n : ℕ) → IsReset i queues first → (HasFault (source_after (resolve w) groups.of queues n) → ⊥) →
      Matched (resolve w) groups.of words i queues first n ⊎ StopsShort (resolve w) groups.of words i queues first n

-- some list follows the first to make up the second
abbrev pub IsPrefix : List Event → List Event → Type 0
IsPrefix xs ys = (zs : List Event) × (ys ≡ xs ++ zs)

-- the same for every number of machine steps: m of them do at most m steps of the source
pub record IsNeverWrong (w : PlainFirmware) (groups : Groups) (i : Image) (queues : List (List ℕ)) (first : State) (m : ℕ) : Type 0 where
  pub events : IsPrefix (runs.events (step i) (event i) m first) (source_events (resolve w) groups.of queues m)
  -- halt 0 and the end of input come where the source has come to them, with all its events; every other end names the stack
  pub ends : (e : End) → (run (step i) m first).ending ≡ Some e →
      NamesStack e ⊎ (EndsAlike (source_after (resolve w) groups.of queues m) (Some e) × (runs.events (step i) (event i) m first ≡ source_events (resolve w) groups.of queues m))

-- of each run: for every recorded input, from whatever a reset leaves, and for every number of machine steps, where as many steps of
-- the source meet no fault
abbrev pub RunsAreNeverWrong : PlainFirmware → Groups → Image → Type 0
RunsAreNeverWrong w groups i =
    (queues : List (List ℕ)) (first : State) (m : ℕ) → IsReset i queues first → (HasFault (source_after (resolve w) groups.of queues m) → ⊥) →
    IsNeverWrong w groups i queues first m

abbrev pub ServedImagesAreNeverWrong : Type 0
ServedImagesAreNeverWrong = (w : PlainFirmware) (groups : Groups) (words : ℕ) (i : Image) → RefinesOrStops w groups words i → RunsAreNeverWrong w groups i
