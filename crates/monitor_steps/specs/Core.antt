-- Beyond the program's claim: only laws, proofs and functions inside the tool cite this file.
-- The part of a machine that steps may change.
use Rattle.std.specs.Prelude.{ℕ, ◌*◌, ◌/◌, ◌%◌, ◌&&◌, List, Bool, true, not, nat_eq}
use Rattle.std.proofs.Math.ListN.{get_or, set}
use Rattle.machine_protection.specs.Registers.{write_register}
use Rattle.machine_model.specs.declared.state.ProtectionState.{ProtectionState}
use Rattle.machine_model.specs.declared.state.FaultStatus.{FaultStatus}
use Rattle.machine_model.specs.State.{State, is_unprivileged}
use Rattle.machine_model.specs.System.{write_status}

-- r0 to r7, the stack pointer in use and the other one, which of them PSP is, mode with privilege and protection unit, the
-- status of faults, and RAM. The rest of a machine are r8 to r12, the link register, the program counter, the flags and the
-- recorded input
pub record Core : Type 0 where
  pub low : List ℕ
  pub sp : ℕ
  pub other_sp : ℕ
  pub on_psp : Bool
  pub protection : ProtectionState
  pub status : FaultStatus
  pub ram : List ℕ

-- of a machine
abbrev pub core_of : State → Core
core_of s = record { low = s.core.low; sp = s.core.sp; other_sp = s.core.other_sp; on_psp = s.core.on_psp; protection = s.protection; status = s.status; ram = s.ram }

-- what one of r0 to r7 holds, and a value in it
abbrev pub low_register : Core → ℕ → ℕ
low_register c k = get_or c.low k 0

abbrev pub with_low : Core → (register value : ℕ) → Core
with_low c k v = record c { low = set c.low k v }

abbrev pub with_ram : Core → List ℕ → Core
with_ram c ram = record c { ram = ram }

-- behind a write of a system register, by its address
abbrev pub with_system : Core → (address value : ℕ) → Core
with_system c a v =
    record c {
      protection = record c.protection { mpu = write_register a v c.protection.mpu };
      status = write_status a v c.status;
    }

-- PSP where MSP is in use; its low two bits are always 0
abbrev pub with_psp : Core → (value : ℕ) → Core
with_psp c v = record c { other_sp = v / 4 * 4 }

-- CONTROL.nPRIV is bit 0 of what is written (B1.4.4)
abbrev pub with_privilege : Core → (control : ℕ) → Core
with_privilege c v = record c { protection = record c.protection { unprivileged = nat_eq (v % 2) 1 } }

-- the process stack pointer comes into use
abbrev pub on_process_stack : Core → Core
on_process_stack c = record c { sp = c.other_sp; other_sp = c.sp; on_psp = true }

-- privileged code on the main stack
abbrev pub is_privileged_on_msp : Core → Bool
is_privileged_on_msp c = not (is_unprivileged c.protection) && not c.on_psp
