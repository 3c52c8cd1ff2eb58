-- What no access changes.
use Rattle.std.proofs.Common.{◌≡◌, ℕ, List, length, refl, length-set}
use Rattle.machine_bus.specs.Locations.{Location, InRam, InFlash, InWindow, Nowhere}
use Rattle.machine_bus.specs.Bus.{put_at}
use Rattle.machine_devices.specs.Input.{taken, queue, without_first}
use Rattle.base_words.proofs.Bytes.{length-write}

pub length-taken : (queues : List (List ℕ)) (k : ℕ) → length (taken queues k) ≡ length queues
length-taken queues k = length-set queues k (without_first (queue queues k))

pub length-put_at : (p : Location) (w v : ℕ) (ram : List ℕ) → length (put_at p w v ram) ≡ length ram
length-put_at (InRam o) w v ram = length-write w o v ram
length-put_at (InFlash o) w v ram = refl
length-put_at (InWindow k o) w v ram = refl
length-put_at Nowhere w v ram = refl

pub ruleset length_rules = (length-taken, length-put_at)
