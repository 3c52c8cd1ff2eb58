-- A bus as callers see it, and what its calls do to it.
use Rattle.std.specs.Prelude.{◌≡◌, ℕ, List, length, Option, Some, None, replicate, ◌-◌, nat_eq, if◌then◌else◌}
use Rattle.base_words.specs.Bytes.{read}
use Rattle.machine_devices.specs.declared.image.Image.{Image}
use Rattle.machine_bus.specs.declared.answer.Loaded.{Loaded}
use Rattle.machine_bus.specs.declared.answer.Loaded.TheVariants.{Value, Device, NoInput, Unmapped}
use Rattle.machine_bus.specs.Locations.{Location, InRam, InFlash, InWindow, Nowhere, location}
use Rattle.machine_devices.specs.Rules.{ObeysRules}
use Rattle.machine_bus.specs.Bus.{load_at, put_at}
use Rattle.machine_devices.specs.Input.{taken}

-- the image that the bus was made from, the bytes of RAM, and the recorded words that each window has left
pub record Memory : Type 0 where
  pub image : Image
  pub ram : List ℕ
  pub queues : List (List ℕ)

-- RAM has the image's size, and each window has a queue
pub record IsMemory (m : Memory) : Type 0 where
  pub rules : ObeysRules m.image
  pub ram : length m.ram ≡ m.image.ram_size
  pub queues : length m.queues ≡ length m.image.windows

-- RAM holds this byte everywhere
abbrev pub filled : Image → (queues : List (List ℕ)) → (byte : ℕ) → Memory
filled i queues b = record { image = i; ram = replicate i.ram_size b; queues = queues }

-- after a load with this answer: a word of a window is taken exactly where one was given
abbrev pub after_load : Loaded → Memory → Memory
after_load (Value v) m = m
after_load (Device k o v) m = record m { queues = taken m.queues k }
after_load NoInput m = m
after_load Unmapped m = m

abbrev pub load_from : Memory → (address width : ℕ) → Loaded
load_from m a w = load_at (location m.image a) m.image m.ram m.queues w

abbrev pub after_store : Memory → (address width value : ℕ) → Memory
after_store m a w v = record m { ram = put_at (location m.image a) w v m.ram }

-- the byte at a location of flash or RAM
abbrev pub byte_at : Location → Image → (ram : List ℕ) → Option ℕ
byte_at (InRam o) i ram = Some (read 1 o ram)
byte_at (InFlash o) i ram = Some (read 1 o i.flash)
byte_at (InWindow k o) i ram = None
byte_at Nowhere i ram = None

-- the number of the running compartment: the first word of the monitor's block, or 0 without a monitor
abbrev pub compartment_of : Image → (ram : List ℕ) → ℕ
compartment_of i ram = if nat_eq i.monitor 0 then 0 else read 4 (i.monitor - i.ram_base) ram
