-- A machine's run before its first step.
use Rattle.std.proofs.Common.{◌≡◌, ℕ, List, None, refl}
use Rattle.machine_devices.specs.declared.image.Image.{Image}
use Rattle.machine_model.specs.Run as machine

pub machine_goes : (i : Image) (queues : List (List ℕ)) (fill : ℕ) → (machine.start i queues fill).ending ≡ None
unfolding machine.start
machine_goes i queues fill = refl
