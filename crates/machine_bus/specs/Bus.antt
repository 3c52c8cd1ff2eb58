-- What a load, a store and a fetch at a place give, and what they change. Widths are 1, 2 or 4 bytes; values are
-- little-endian. The queues are the recorded words that each window has left, in the order of the windows.
use Rattle.std.specs.Prelude.{ℕ, List, [], ◌∷◌, Option, Some, None}
use Rattle.base_words.specs.Bytes.{read, write, cut}
use Rattle.machine_devices.specs.Input.{queue}
use Rattle.machine_devices.specs.declared.image.Image.{Image}
use Rattle.machine_bus.specs.declared.answer.Loaded.{Loaded}
use Rattle.machine_bus.specs.declared.answer.Loaded.TheVariants.{Value, Device, NoInput, Unmapped}
use Rattle.machine_bus.specs.declared.answer.Stored.{Stored}
use Rattle.machine_bus.specs.declared.answer.Stored.TheVariants.{Done, Device as Taken, Unmapped as Refused}
use Rattle.machine_bus.specs.Locations.{Location, InRam, InFlash, InWindow, Nowhere}

-- the first word of a window, cut to the width
abbrev pub input : List ℕ → (periph offset width : ℕ) → Loaded
input [] k o w = NoInput
input (x ∷ xs) k o w = Device k o (cut w x)

abbrev pub load_at : Location → Image → (ram : List ℕ) → (queues : List (List ℕ)) → (width : ℕ) → Loaded
load_at (InRam o) i ram queues w = Value (read w o ram)
load_at (InFlash o) i ram queues w = Value (read w o i.flash)
load_at (InWindow k o) i ram queues w = input (queue queues k) k o w
load_at Nowhere i ram queues w = Unmapped

abbrev pub store_at : Location → Stored
store_at (InRam o) = Done
store_at (InFlash o) = Refused
store_at (InWindow k o) = Taken k o
store_at Nowhere = Refused

-- RAM after a store at a place
abbrev pub put_at : Location → (width value : ℕ) → (ram : List ℕ) → List ℕ
put_at (InRam o) w v ram = write w o v ram
put_at (InFlash o) w v ram = ram
put_at (InWindow k o) w v ram = ram
put_at Nowhere w v ram = ram

-- the word in memory at a place; 0 where no memory is
abbrev pub word_at : Location → Image → (ram : List ℕ) → ℕ
word_at (InRam o) i ram = read 4 o ram
word_at (InFlash o) i ram = read 4 o i.flash
word_at (InWindow k o) i ram = 0
word_at Nowhere i ram = 0

-- the halfword of code at a place
abbrev pub fetch_at : Location → Image → (ram : List ℕ) → Option ℕ
fetch_at (InRam o) i ram = Some (read 2 o ram)
fetch_at (InFlash o) i ram = Some (read 2 o i.flash)
fetch_at (InWindow k o) i ram = None
fetch_at Nowhere i ram = None
