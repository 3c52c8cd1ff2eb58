-- What a compartment may not read has no effect on what it does next, on a closed board.
use Rattle.std.specs.Prelude.{◌≡◌, ◌⊎◌, ℕ, ◌+◌, List, length, true, false, None}
use Rattle.std.proofs.Math.ListN.{get_or}
use Rattle.machine_devices.specs.declared.image.Image.{Image}
use Rattle.machine_model.specs.State.{State, by_mpu}
use Rattle.machine_model.specs.Step.{turn}
use Rattle.machine_model.specs.Locality.{IsSameTurn}
use Rattle.machine_model.specs.Reset.{IsReset}
use Rattle.monitor_model.specs.declared.tables.Tables.{Tables}
use Rattle.monitor_model.specs.Reach.{InBlock, LoadKind}
use Rattle.monitor_model.specs.Confined.{HasStarted, later}
use Rattle.monitor_program.specs.TheCode.{monitor_code}
use Rattle.monitor_model.specs.Promises.{OfSoundImages}

-- another RAM holds the same wherever the running compartment may load, and in the monitor's block
pub record LooksAlike (i : Image) (t : Tables) (s : State) (other : List ℕ) : Type 0 where
  pub size : length other ≡ length s.ram
  pub bytes : (o : ℕ) → LoadKind i t s (i.ram_base + o) ⊎ InBlock t (i.ram_base + o) → get_or other o 0 ≡ get_or s.ram o 0

-- the thread's next step is the same over such a RAM: its accesses, its event, and the state that it leaves, but for bytes of RAM that it
-- did not store
abbrev pub UnreadBytesDoNothing : Image → Tables → (first : State) → Type 0
UnreadBytesDoNothing i t first =
    (n : ℕ) (other : List ℕ) → i.closed ≡ true → HasStarted i t first n → (later i t first n).protection.handler ≡ false → (later i t first n).ending ≡ None
    → LooksAlike i t (later i t first n) other → IsSameTurn i other (turn by_mpu i (later i t first n)) (turn by_mpu i (record (later i t first n) { ram = other }))

-- of every sound image, from whatever a reset leaves
abbrev pub SoundImagesIgnoreUnreadBytes : Type 0
SoundImagesIgnoreUnreadBytes =
    OfSoundImages monitor_code (λ i t. (queues : List (List ℕ)) (first : State) → IsReset i queues first → UnreadBytesDoNothing i t first)
