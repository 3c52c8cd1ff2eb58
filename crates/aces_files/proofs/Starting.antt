-- The state in which a run begins.
use Rattle.std.proofs.Common.{◌≡◌, ℕ, List, length, None, refl}
use Rattle.std.proofs.Math.ListN.{length-map}
use Rattle.machine_devices.specs.declared.image.Image.{Image}
use Rattle.machine_devices.specs.declared.image.Window.{Window}
use Rattle.machine_devices.specs.Tape.{queues_of}
use Rattle.machine_model.specs.Run.{start}

-- a tape has a queue for each window
pub queue_count : (text : List ℕ) (windows : List Window) → length (queues_of text windows) ≡ length windows
unfolding queues_of
queue_count text windows = length-map windows _

pub begins : (i : Image) (queues : List (List ℕ)) (fill : ℕ) → (start i queues fill).ending ≡ None
unfolding start
begins i queues fill = refl
