-- What a load gives fits the width of the access.
use Rattle.std.proofs.Common.{ℕ, ◌^◌, ◌<◌, List, [], ◌∷◌, arith}
use Rattle.std.proofs.Math.Nat.{one-le-pow}
use Rattle.base_words.proofs.Bytes.{read_fits, cut_is}
use Rattle.machine_devices.specs.declared.image.Image.{Image}
use Rattle.machine_bus.specs.declared.answer.Loaded.{Loaded}
use Rattle.machine_bus.specs.declared.answer.Loaded.TheVariants.{Value, Device, NoInput, Unmapped}
use Rattle.machine_bus.specs.Locations.{Location, InRam, InFlash, InWindow, Nowhere}
use Rattle.machine_bus.specs.Bus.{load_at, input}
use Rattle.machine_devices.specs.Input.{queue}

abbrev pub IsBelow : Loaded → (limit : ℕ) → Type 0
IsBelow (Value v) n = v < n
IsBelow (Device k o v) n = v < n
IsBelow NoInput n = Unit {0}
IsBelow Unmapped n = Unit {0}

input_below : (us : List ℕ) (k o w : ℕ) → IsBelow (input us k o w) (256 ^ w)
input_below [] k o w = tt
input_below (u ∷ us) k o w =
    let e = cut_is w u in
    let a = one-le-pow w 256 (omega arith) in
    omega arith

pub loaded_below : (p : Location) (i : Image) (ram : List ℕ) (queues : List (List ℕ)) (w : ℕ) → IsBelow (load_at p i ram queues w) (256 ^ w)
loaded_below (InRam o) i ram queues w = read_fits w o ram
loaded_below (InFlash o) i ram queues w = read_fits w o i.flash
loaded_below (InWindow k o) i ram queues w = input_below (queue queues k) k o w
loaded_below Nowhere i ram queues w = tt
