-- The start of a machine, and its runs.
use Rattle.std.specs.Prelude.{ℕ, ◌/◌, ◌*◌, List, false, None, replicate}
use Rattle.base_words.specs.Bytes.{read}
use Rattle.base_words.specs.Runs.{run, events}
use Rattle.machine_protection.specs.Registers.{at_reset}
use Rattle.machine_devices.specs.declared.image.Image.{Image}
use Rattle.base_events.specs.declared.event.Event.{Event}
use Rattle.machine_model.specs.State.{State}
use Rattle.machine_model.specs.Exceptions.{vector}
use Rattle.machine_model.specs.Step.{step, event}

-- reset (Armv7-M ARM, B1.5.5 TakeReset): Thread mode, privileged, on MSP; the unit has the image's number of regions;
-- RAM holds the fill byte
unfoldable pub start : Image → (queues : List (List ℕ)) → (fill : ℕ) → State
start i queues fill =
    record {
      core = record {
        low = replicate 8 0;
        high = replicate 5 0;
        sp = read 4 0 i.flash / 4 * 4;
        other_sp = 0;
        on_psp = false;
        lr = 0xFFFFFFFF;
        pc = vector i 1;
        flags = record { negative = false; is_zero = false; carry = false; overflow = false };
      };
      protection = record { handler = false; unprivileged = false; mpu = at_reset i.regions };
      status = record { shcsr = 0; cfsr = 0; mmfar = 0 };
      ram = replicate i.ram_size fill;
      queues = queues;
      ending = None;
    }

-- the machine after n steps, and the events of these steps
abbrev pub after : Image → (queues : List (List ℕ)) → (fill steps : ℕ) → State
after i queues fill n = run (step i) n (start i queues fill)

abbrev pub events_after : Image → (queues : List (List ℕ)) → (fill steps : ℕ) → List Event
events_after i queues fill n = events (step i) (event i) n (start i queues fill)
