-- The system control space and the special registers (Armv7-M ARM, B3.2 and B1.4).
use Rattle.std.specs.Prelude.{ℕ, ◌+◌, ◌*◌, ◌/◌, ◌%◌, ◌^◌, Bool, true, false, ◌||◌, nat_eq, if◌then◌else◌}
use Rattle.base_words.specs.Arithmetic.{bit_clear}
use Rattle.machine_protection.specs.Registers.{is_register, read_register, write_register}
use Rattle.machine_bus.specs.Locations.{inside, choose}
use Rattle.machine_model.specs.declared.TheConstants.{CCR, SHCSR, CFSR, MMFAR}
use Rattle.machine_model.specs.declared.state.CoreRegisters.{CoreRegisters}
use Rattle.machine_model.specs.declared.state.ProtectionState.{ProtectionState}
use Rattle.machine_model.specs.declared.state.FaultStatus.{FaultStatus}
use Rattle.machine_model.specs.State.{State, with_core, bit_of}

-- the private peripheral bus (B3.1)
abbrev pub in_system : ℕ → Bool
in_system a = inside 0xE0000000 0x100000 a

-- the registers of it that there are
abbrev pub is_system_register : ℕ → Bool
is_system_register a = is_register a || (nat_eq a CCR || (nat_eq a SHCSR || (nat_eq a CFSR || nat_eq a MMFAR)))

-- SHCSR keeps MEMFAULTENA; a one written to a bit of CFSR clears it; CCR cannot be written
unfoldable pub write_status : (address value : ℕ) → FaultStatus → FaultStatus
write_status a v t =
    if nat_eq a SHCSR then record t { shcsr = v / 2 ^ 16 % 2 * 2 ^ 16 }
    else if nat_eq a CFSR then record t { cfsr = bit_clear t.cfsr v }
    else if nat_eq a MMFAR then record t { mmfar = v }
    else t

-- CCR reads STKALIGN alone
unfoldable pub read_status : (address : ℕ) → FaultStatus → ℕ
read_status a t =
    if nat_eq a CCR then 0x200
    else if nat_eq a SHCSR then t.shcsr
    else if nat_eq a CFSR then t.cfsr
    else t.mmfar

unfoldable pub read_system : (address : ℕ) → ProtectionState → FaultStatus → ℕ
read_system a p t = choose (is_register a) (read_register a p.mpu) (read_status a t)

-- a register of the protection unit is no status register, and a status register is none of the unit
abbrev pub write_system : (address value : ℕ) → State → State
write_system a v s =
    record s {
      protection = record s.protection { mpu = write_register a v s.protection.mpu };
      status = write_status a v s.status;
    }

-- special registers by their numbers: 8 MSP, 9 PSP, 20 CONTROL (B5.1.1)
abbrev pub is_in_use : (special : ℕ) → CoreRegisters → Bool
is_in_use n c = nat_eq n (8 + bit_of c.on_psp)

-- MRS: an unprivileged read of a stack pointer gives 0 (B5.2.2)
abbrev pub read_special : (unprivileged : Bool) → (special : ℕ) → State → ℕ
read_special u n s =
    if nat_eq n 20 then bit_of s.protection.unprivileged + 2 * bit_of s.core.on_psp
    else choose u 0 (choose (is_in_use n s.core) s.core.sp s.core.other_sp)

-- the registers with this stack pointer in use
abbrev pub with_stack : (psp : Bool) → CoreRegisters → CoreRegisters
with_stack true c = choose c.on_psp c (record c { sp = c.other_sp; other_sp = c.sp; on_psp = true })
with_stack false c = choose c.on_psp (record c { sp = c.other_sp; other_sp = c.sp; on_psp = false }) c

-- CONTROL.SPSEL is written in Thread mode alone
abbrev pub selected_stack : (handler : Bool) → (value : ℕ) → CoreRegisters → CoreRegisters
selected_stack true v c = c
selected_stack false v c = with_stack (nat_eq (v / 2 % 2) 1) c

abbrev pub write_stack_pointer : (in_use : Bool) → (value : ℕ) → CoreRegisters → CoreRegisters
write_stack_pointer true v c = record c { sp = v / 4 * 4 }
write_stack_pointer false v c = record c { other_sp = v / 4 * 4 }

-- MSR: an unprivileged write does nothing (B5.2.3)
abbrev pub write_special : (unprivileged : Bool) → (special value : ℕ) → State → CoreRegisters → State
write_special true n v s c = with_core s c
write_special false n v s c =
    if nat_eq n 20 then
    record s {
      core = selected_stack s.protection.handler v c;
      protection = record s.protection { unprivileged = nat_eq (v % 2) 1 };
    }
    else with_core s (write_stack_pointer (is_in_use n c) v c)
