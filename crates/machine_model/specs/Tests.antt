-- The tests of a data access, in their order: alignment, the system control space, protection; then the bus
-- (Armv7-M ARM, B2.3 MemA and ValidateAddress).
use Rattle.std.specs.Prelude.{ℕ, zero, suc, ◌+◌, ◌%◌, Bool, true, false, ◌&&◌, nat_eq}
use Rattle.base_words.specs.Arithmetic.{word}
use Rattle.machine_protection.specs.declared.region.Access.{Access}
use Rattle.machine_devices.specs.declared.image.Image.{Image}
use Rattle.machine_bus.specs.Locations.{location, is_memory, choose}
use Rattle.machine_model.specs.declared.state.ProtectionState.{ProtectionState}
use Rattle.machine_model.specs.declared.state.StopReason.TheVariants.{Unaligned, Bus}
use Rattle.machine_model.specs.declared.answers.Verdict.{Verdict}
use Rattle.machine_model.specs.declared.answers.Verdict.TheVariants.{ToBus, ToSystem, Refused, Bad}
use Rattle.machine_model.specs.declared.answers.Verdicts.{Verdicts}
use Rattle.machine_model.specs.declared.answers.Verdicts.TheVariants.{AllGood, RefusedAt, BadOne}
use Rattle.machine_model.specs.State.{PermissionTest, is_unprivileged}
use Rattle.machine_model.specs.System.{in_system, is_system_register}

abbrev pub tested : (aligned system unprivileged register allowed : Bool) → Verdict
tested false sy u r al = Bad Unaligned
tested true true true r al = Bad Bus
tested true true false r al = choose r ToSystem (Bad Bus)
tested true false u r false = Refused
tested true false u r true = ToBus

unfoldable pub verdict : PermissionTest → ProtectionState → Access → (width address : ℕ) → Verdict
verdict j p kind w a =
    tested (nat_eq (a % w) 0) (in_system a) (is_unprivileged p) (nat_eq w 4 && is_system_register a) (j p kind a)

-- all of several words are tested first, in rising order; none of them may go to a window
abbrev pub and_then : Verdict → (memory : Bool) → (address : ℕ) → Verdicts → Verdicts
and_then ToBus true a v = v
and_then ToBus false a v = BadOne Bus
and_then ToSystem m a v = v
and_then Refused m a v = RefusedAt a
and_then (Bad r) m a v = BadOne r

unfoldable pub verdicts : PermissionTest → Image → ProtectionState → Access → (address count : ℕ) → Verdicts
verdicts j i p kind a zero = AllGood
verdicts j i p kind a (suc n) =
    and_then (verdict j p kind 4 a) (is_memory kind (location i a)) a (verdicts j i p kind (word (a + 4)) n)

-- whether so many words of an exception's frame may be accessed: allowed, and in memory that takes such an access
unfoldable pub all_open : PermissionTest → Image → ProtectionState → Access → (address count : ℕ) → Bool
all_open j i p kind a zero = true
all_open j i p kind a (suc n) = (j p kind a && is_memory kind (location i a)) && all_open j i p kind (word (a + 4)) n
