-- What a reset leaves of a machine: everything that it does not fix may be anything.
use Rattle.std.specs.Prelude.{◌≡◌, ℕ, ◌*◌, ◌/◌, List, length, false, None}
use Rattle.base_words.specs.Bytes.{read}
use Rattle.machine_devices.specs.declared.image.Image.{Image}
use Rattle.machine_devices.specs.Rules.{ObeysRules}
use Rattle.machine_model.specs.State.{State}
use Rattle.machine_model.specs.Exceptions.{vector}
use Rattle.machine_model.specs.Run.{start}
use Rattle.machine_model.specs.Shape.{StateFits}

-- TakeReset (Armv7-M ARM, B1.5.5), on this recorded input. What is not said here may be anything: r0 to r12, lr, the flags, the stack pointer
-- of threads, the regions of the protection unit and the number of the selected one, MMFAR, and all of RAM
pub record IsReset (i : Image) (queues : List (List ℕ)) (s : State) : Type 0 where
  -- there are as many registers, regions, bytes of RAM and queues as there should be, and registers hold words
  pub fits : StateFits i s
  -- Thread mode, privileged, on the main stack pointer
  pub thread : s.protection.handler ≡ false
  pub privileged : s.protection.unprivileged ≡ false
  pub on_msp : s.core.on_psp ≡ false
  -- which is the first word of flash, as the program counter is the second
  pub msp : s.core.sp ≡ read 4 0 i.flash / 4 * 4
  pub pc : s.core.pc ≡ vector i 1
  -- the protection unit is off, no fault is told, and none is enabled
  pub unit_off : s.protection.mpu.control ≡ 0
  pub no_fault : s.status.cfsr ≡ 0
  pub disabled : s.status.shcsr ≡ 0
  pub queues_are : s.queues ≡ queues
  pub ending : s.ending ≡ None

-- the machine that `run` starts, with one byte all over RAM and zeros in registers, is one of them
abbrev pub StartsAreResets : Type 0
StartsAreResets =
    (i : Image) (queues : List (List ℕ)) (fill : ℕ) → ObeysRules i → length queues ≡ length i.windows → IsReset i queues (start i queues fill)

-- a property of each run: for every recorded input, from whatever a reset leaves
abbrev pub EachRun : (i : Image) → (State → Type 0) → Type 0
EachRun i P = (queues : List (List ℕ)) (first : State) → IsReset i queues first → P first
