-- Beyond the program's claim: only laws, proofs and functions inside the tool cite this file.
-- What verdicts on accesses tell, and loads as an instruction names them.
use Rattle.std.specs.Prelude.{◌≡◌, ℕ, ◌%◌, ◌<◌, Bool, true, false, nat_eq, if◌then◌else◌}
use Rattle.std.proofs.Common.{to_z, of_z, w8, w16, w32}
use Rattle.machine_model.specs.declared.state.CoreRegisters.{CoreRegisters}
use Rattle.machine_devices.specs.declared.image.Image.{Image}
use Rattle.machine_bus.specs.Bus.{load_at, store_at}
use Rattle.machine_bus.specs.Locations.{location}
use Rattle.machine_model.specs.Perform.{loaded, stored}
use Rattle.machine_model.specs.State.{State, Turn, at, low_at}
use Rattle.machine_model.specs.Act.{Act, Loads}
use Rattle.machine_model.specs.declared.answers.Verdict.{Verdict}
use Rattle.machine_model.specs.declared.answers.Verdict.TheVariants.{ToBus, ToSystem, Refused, Bad}
use Rattle.machine_model.specs.declared.answers.Verdicts.{Verdicts}
use Rattle.machine_model.specs.declared.answers.Verdicts.TheVariants.{AllGood, RefusedAt, BadOne}

-- what a verdict of the code says of the access
abbrev pub IsFit : Verdict → (width address : ℕ) → Type 0
IsFit ToBus w a = a % w ≡ 0
IsFit ToSystem w a = (w ≡ 4) × (a % w ≡ 0)
IsFit Refused w a = Unit {0}
IsFit (Bad r) w a = Unit {0}

-- and one on several words: where all is well, they begin at a multiple of 4
abbrev pub AreFit : Verdicts → (address count : ℕ) → Type 0
AreFit AllGood a n = 0 < n → a % 4 ≡ 0
AreFit (RefusedAt x) a n = Unit {0}
AreFit (BadOne r) a n = Unit {0}

-- a loaded value as a register holds it: zeros before it, or its sign (ZeroExtend, SignExtend)
abbrev pub extended : (signed : Bool) → (width value : ℕ) → ℕ
extended false w v = v
extended true w v =
    if nat_eq w 1 then of_z w32 (to_z w8 v)
    else if nat_eq w 2 then of_z w32 (to_z w16 v)
    else v

abbrev pub load_extended : (register : ℕ) → (signed : Bool) → (width address : ℕ) → (next : ℕ) → CoreRegisters → Act
load_extended t signed w a next c = Loads w a (λ v. low_at c next t (extended signed w v))

-- the load and the store themselves, once the tests have led to the bus
abbrev pub loaded_extended : Image → (register : ℕ) → (signed : Bool) → (width address : ℕ) → (next : ℕ) → State → Turn
loaded_extended i t signed w a next s =
    loaded (load_at (location i a) i s.ram s.queues w) i w a s (λ v. low_at s.core next t (extended signed w v))

abbrev pub stored_at : Image → (width address value : ℕ) → (next : ℕ) → State → Turn
stored_at i w a v next s = stored (store_at (location i a)) i w a v s (at s.core next)
