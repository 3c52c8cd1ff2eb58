-- Beyond the program's claim: only laws, proofs and functions inside the tool cite this file.
-- Steps that tell of an access of a window, and steps that end.
use Rattle.std.specs.Prelude.{◌≡◌, ℕ, List, true, false, Some}
use Rattle.base_words.specs.Bytes.{cut}
use Rattle.machine_devices.specs.declared.image.Image.{Image}
use Rattle.base_events.specs.declared.event.Event.{Event}
use Rattle.machine_model.specs.declared.state.End.{End}
use Rattle.machine_model.specs.State.{State, PermissionTest}
use Rattle.machine_bus.specs.Memory.{compartment_of}
use Rattle.machine_model.specs.Code.{next, event_of}

-- one step with this event
pub record StepsWith (j : PermissionTest) (i : Image) (s t : State) (e : Event) : Type 0 where
  pub leads : next j i s ≡ t
  pub tells : event_of j i s ≡ Some e

-- the events of a load whose word was this, and of a store of this value
abbrev pub input_event : Image → (ram : List ℕ) → (periph offset width value : ℕ) → Event
input_event i ram k o w v = record { compartment = compartment_of i ram; periph = k; offset = o; width = w; write = false; value = cut w v }

abbrev pub output_event : Image → (ram : List ℕ) → (periph offset width value : ℕ) → Event
output_event i ram k o w v = record { compartment = compartment_of i ram; periph = k; offset = o; width = w; write = true; value = cut w v }

abbrev pub ended : End → State → State
ended e s = record s { ending = Some e }
