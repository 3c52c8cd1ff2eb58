-- An image refines a firmware whole: as `Refines` of `refine_model` says it, with no premise on the stack.
use Rattle.std.specs.Prelude.{ℕ, List}
use Rattle.machine_devices.specs.declared.image.Image.{Image}
use Rattle.machine_model.specs.State.{State}
use Rattle.machine_model.specs.Reset.{IsReset}
use Rattle.ir_model.specs.Plain.{PlainFirmware}
use Rattle.ir_model.specs.Resolve.{resolve}
use Rattle.ir_model.specs.Runs.{source_after}
use Rattle.plan_model.specs.declared.groups.Groups.{Groups}
use Rattle.refine_model.specs.Refines.{HasFault, Matched}

-- for every recorded input, whatever a reset leaves in registers and in RAM, and every number of steps in which the source meets no fault
pub record RefinesWhole (w : PlainFirmware) (groups : Groups) (words : ℕ) (i : Image) : Type 0 where
  pub matched : (queues : List (List ℕ)) (first : State) (n : ℕ) → IsReset i queues first →
      (HasFault (source_after (resolve w) groups.of queues n) → ⊥) → Matched (resolve w) groups.of words i queues first n
