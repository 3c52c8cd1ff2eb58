-- One step: the fetch, and what the instruction asks for.
use Rattle.std.specs.Prelude.{ℕ, ◌+◌, Bool, true, false, Option, Some, None, nat_lt}
use Rattle.machine_thumb.specs.declared.table.Instr.{Instr}
use Rattle.machine_thumb.specs.Decoded.{decoded}
use Rattle.machine_protection.specs.declared.region.Access.TheVariants.{Fetch}
use Rattle.machine_devices.specs.declared.image.Image.{Image}
use Rattle.base_events.specs.declared.event.Event.{Event}
use Rattle.machine_bus.specs.Locations.{location}
use Rattle.machine_bus.specs.Bus.{fetch_at}
use Rattle.machine_model.specs.declared.state.End.{End}
use Rattle.machine_model.specs.declared.state.StopReason.TheVariants.{Bus, Undefined}
use Rattle.machine_model.specs.declared.answers.Fetched.{Fetched}
use Rattle.machine_model.specs.declared.answers.Fetched.TheVariants.{Took, NotAllowed, NotMapped}
use Rattle.machine_model.specs.State.{State, Turn, PermissionTest, by_mpu, calm, stops}
use Rattle.machine_model.specs.Instructions.{act}
use Rattle.machine_model.specs.Exceptions.{fetch_fault}
use Rattle.machine_model.specs.Perform.{perform}

abbrev pub second_half : (allowed : Bool) → Option ℕ → (first : ℕ) → Fetched
second_half false k h = NotAllowed
second_half true None h = NotMapped
second_half true (Some k) h = Took h k 4

-- a halfword that begins with 11101, 11110 or 11111 is followed by a second (A5.1)
abbrev pub by_size : (is_short : Bool) → (allowed : Bool) → Option ℕ → (first : ℕ) → Fetched
by_size true al k h = Took h 0 2
by_size false al k h = second_half al k h

abbrev pub first_half : (allowed : Bool) → Option ℕ → (second_allowed : Bool) → (second : Option ℕ) → Fetched
first_half false h al k = NotAllowed
first_half true None al k = NotMapped
first_half true (Some h) al k = by_size (nat_lt h 0xE800) al k h

unfoldable pub fetch : PermissionTest → Image → State → Fetched
fetch j i s =
    first_half (j s.protection Fetch s.core.pc) (fetch_at (location i s.core.pc) i s.ram) (j s.protection Fetch (s.core.pc + 2)) (fetch_at (location i (s.core.pc + 2)) i s.ram)

abbrev pub performed : Option Instr → PermissionTest → Image → (next : ℕ) → State → Turn
performed None j i next s = stops Undefined s
performed (Some x) j i next s = perform j i (act x next s.core) s

abbrev pub fetched : Fetched → PermissionTest → Image → State → Turn
fetched (Took h k size) j i s = performed (decoded h k) j i (s.core.pc + size) s
fetched NotAllowed j i s = fetch_fault j i s
fetched NotMapped j i s = stops Bus s

-- a machine that has ended stays as it is
abbrev pub running : Option End → PermissionTest → Image → State → Turn
running (Some e) j i s = calm s
running None j i s = fetched (fetch j i s) j i s

unfoldable pub turn : PermissionTest → Image → State → Turn
turn j i s = running s.ending j i s

-- the machine's own step, and its event
abbrev pub step : Image → State → State
step i s = (turn by_mpu i s).to

abbrev pub event : Image → State → Option Event
event i s = (turn by_mpu i s).event
