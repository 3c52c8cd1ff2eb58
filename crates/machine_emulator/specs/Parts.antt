-- Beyond the program's claim: only laws, proofs and functions inside the tool cite this file.
-- The parts of a running machine as a state, and what code leaves of them.
use Rattle.std.specs.Prelude.{Option}
use Rattle.machine_devices.specs.declared.image.Image.{Image}
use Rattle.base_events.specs.declared.event.Event.{Event}
use Rattle.machine_emulator.specs.declared.parts.Parts.{Parts}
use Rattle.machine_model.specs.State.{State, Turn, by_mpu}
use Rattle.machine_model.specs.Act.{Act}
use Rattle.machine_model.specs.Perform.{perform}

abbrev pub state_of : Parts → State
state_of p = record {
  core = p.core;
  protection = p.protection;
  status = p.status;
  ram = p.bus.ram;
  queues = p.bus.queues;
  ending = p.ending;
}

-- an image, a state over it, and the event told on the way there
pub record Left : Type 0 where
  pub image : Image
  pub state : State
  pub event : Option Event

-- by code
abbrev pub left : Parts → Option Event → Left
left p e = record { image = p.bus.image; state = state_of p; event = e }

-- by a turn
abbrev pub left_by : Image → Turn → Left
left_by i t = record { image = i; state = t.to; event = t.event }

-- by what an instruction asks for
abbrev pub does : Act → Parts → Left
does a p = left_by p.bus.image (perform by_mpu p.bus.image a (state_of p))
