-- Beyond the program's claim: only laws, proofs and functions inside the tool cite this file.
-- A small machine for computed examples: 48 bytes of vectors with code behind them, 64 bytes of RAM, one window.
use Rattle.std.specs.Prelude.{ℕ, ◌*◌, ◌/◌, ◌%◌, ◌^◌, List, [], ◌∷◌, ◌++◌, true, false, None}
use Rattle.base_words.specs.declared.conditions.Flags.{Flags}
use Rattle.machine_protection.specs.declared.TheConstants.{MPU_CTRL, MPU_RBAR, MPU_RASR}
use Rattle.machine_protection.specs.Registers.{Registers, at_reset, write_register}
use Rattle.machine_devices.specs.declared.image.Image.{Image}
use Rattle.machine_devices.specs.declared.image.Window.{Window}
use Rattle.machine_model.specs.declared.state.CoreRegisters.{CoreRegisters}
use Rattle.machine_model.specs.declared.state.ProtectionState.{ProtectionState}
use Rattle.machine_model.specs.declared.state.FaultStatus.{FaultStatus}
use Rattle.machine_model.specs.State.{State}
use Rattle.std.specs.Prelude.{replicate}

-- the bytes of halfwords and of words, the lowest byte first
abbrev pub bytes_of_halves : List ℕ → List ℕ
bytes_of_halves [] = []
bytes_of_halves (h ∷ hs) = h % 256 ∷ h / 256 ∷ bytes_of_halves hs

abbrev pub bytes_of_words : List ℕ → List ℕ
bytes_of_words [] = []
bytes_of_words (w ∷ ws) = w % 256 ∷ w / 2 ^ 8 % 256 ∷ w / 2 ^ 16 % 256 ∷ w / 2 ^ 24 ∷ bytes_of_words ws

-- twelve words of vectors: MemManage's is word 4, the supervisor call's word 11
abbrev pub vectors : List ℕ
vectors = 0x20000040 ∷ 0x31 ∷ 0 ∷ 0 ∷ 0x81 ∷ 0 ∷ 0 ∷ 0 ∷ 0 ∷ 0 ∷ 0 ∷ 0x91 ∷ []

abbrev pub window : Window
window = record { name = 97 ∷ []; base = 0x40000000; size = 32 }

-- these halfwords stand from address 48 on
abbrev pub board : (code : List ℕ) → Image
board code = record {
  flash_base = 0;
  flash = bytes_of_words vectors ++ bytes_of_halves code;
  ram_base = 0x20000000;
  ram_size = 64;
  monitor = 0;
  stack_base = 0;
  stack_size = 0;
  regions = 8;
  closed = false;
  windows = window ∷ [];
}

abbrev pub no_flags : Flags
no_flags = record { negative = false; is_zero = false; carry = false; overflow = false }

-- r0 to r3, and the stack pointer; r4 to r12 hold their numbers; the main stack's pointer is in use
abbrev pub core : (a b c d : ℕ) → (sp : ℕ) → CoreRegisters
core a b c d sp = record {
  low = a ∷ b ∷ c ∷ d ∷ 4 ∷ 5 ∷ 6 ∷ 7 ∷ [];
  high = 8 ∷ 9 ∷ 10 ∷ 11 ∷ 12 ∷ [];
  sp = sp;
  other_sp = 0x20000010;
  on_psp = false;
  lr = 0x35;
  pc = 48;
  flags = no_flags;
}

-- RAM of sixteen words, of which so many are 0 before these, and the rest behind
abbrev pub ram_with : (before : ℕ) → (words : List ℕ) → (after : ℕ) → List ℕ
ram_with before ws after = replicate (4 * before) 0 ++ bytes_of_words ws ++ replicate (4 * after) 0

abbrev pub zeros : List ℕ
zeros = replicate 64 0

abbrev pub unit_off : Registers
unit_off = at_reset 8

-- a region by its two words
abbrev pub with_region : (rbar rasr : ℕ) → Registers → Registers
with_region rbar rasr m = write_register MPU_RASR rasr (write_register MPU_RBAR rbar m)

abbrev pub switched_on : Registers → Registers
switched_on m = write_register MPU_CTRL 5 m

abbrev pub privileged : ProtectionState
privileged = record { handler = false; unprivileged = false; mpu = unit_off }

abbrev pub unprivileged : Registers → ProtectionState
unprivileged m = record { handler = false; unprivileged = true; mpu = m }

-- MemManage is enabled
abbrev pub no_faults : FaultStatus
no_faults = record { shcsr = 0x10000; cfsr = 0; mmfar = 0 }

abbrev pub machine : CoreRegisters → ProtectionState → (ram : List ℕ) → State
machine c p ram = record { core = c; protection = p; status = no_faults; ram = ram; queues = [] ∷ []; ending = None }
