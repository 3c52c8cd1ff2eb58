use Rattle.std.proofs.Common.{◌≡◌, ℕ, ◌%◌, ◌<◌, true, false, nat_eq, arith}
use Rattle.std.proofs.lemmas.Bool.Decides.{nat_tests}
use Rattle.machine_protection.specs.declared.region.Access.{Access}
use Rattle.machine_model.specs.declared.state.ProtectionState.{ProtectionState}
use Rattle.machine_model.specs.State.{PermissionTest, is_unprivileged}
use Rattle.machine_model.specs.System.{in_system, is_system_register}
use Rattle.machine_model.specs.declared.answers.Verdict.TheVariants.{ToSystem, ToBus}
use Rattle.machine_model.specs.Tests.{verdict}

-- an access of the system's registers
pub to_system : (j : PermissionTest) (p : ProtectionState) (kind : Access) (a : ℕ) → a % 4 ≡ 0 → in_system a ≡ true → is_unprivileged p ≡ false → is_system_register a ≡ true → verdict j p kind 4 a ≡ ToSystem
unfolding verdict
to_system j p kind a aligned s u r =
    let e : nat_eq (a % 4) 0 ≡ true = search (nat_tests, arith) in
    rw (e, s, u, r)

-- an access outside the system's part of the memory map goes to the bus
pub to_bus : (j : PermissionTest) (p : ProtectionState) (kind : Access) (w a : ℕ) → a % w ≡ 0 → a < 0xE0000000 → j p kind a ≡ true → verdict j p kind w a ≡ ToBus
unfolding verdict
to_bus j p kind w a aligned low may =
    let e : nat_eq (a % w) 0 ≡ true = search (nat_tests, arith) in
    let s : in_system a ≡ false = search (nat_tests, arith) in
    rw (e, s, may)
