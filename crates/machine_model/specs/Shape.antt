-- What every step keeps of a state: how many registers, regions and bytes there are, that numbers are words, that
-- stack pointers are multiples of 4, and that the program counter is even.
use Rattle.std.specs.Prelude.{◌≡◌, ℕ, ◌%◌, ◌^◌, ◌<◌, List, length}
use Rattle.std.proofs.Math.ListN.{get_or}
use Rattle.machine_protection.specs.Registers.{Registers, blank}
use Rattle.machine_devices.specs.declared.image.Image.{Image}
use Rattle.machine_devices.specs.Rules.{ObeysRules}
use Rattle.machine_model.specs.declared.state.CoreRegisters.{CoreRegisters}
use Rattle.machine_model.specs.declared.state.FaultStatus.{FaultStatus}
use Rattle.machine_model.specs.State.{State, PermissionTest}
use Rattle.machine_model.specs.Step.{turn}
use Rattle.machine_model.specs.Run.{after}

abbrev pub EachWord : List ℕ → Type 0
EachWord l = (k : ℕ) → get_or l k 0 < 2 ^ 32

pub record CoreFits (c : CoreRegisters) : Type 0 where
  pub low_count : length c.low ≡ 8
  pub high_count : length c.high ≡ 5
  pub low_words : EachWord c.low
  pub high_words : EachWord c.high
  pub sp_word : c.sp < 2 ^ 32
  pub sp_aligned : c.sp % 4 ≡ 0
  pub other_word : c.other_sp < 2 ^ 32
  pub other_aligned : c.other_sp % 4 ≡ 0
  pub lr_word : c.lr < 2 ^ 32
  pub pc_word : c.pc < 2 ^ 32
  pub pc_even : c.pc % 2 ≡ 0

pub record StatusFits (t : FaultStatus) : Type 0 where
  pub shcsr_word : t.shcsr < 2 ^ 32
  pub cfsr_word : t.cfsr < 2 ^ 32
  pub mmfar_word : t.mmfar < 2 ^ 32

-- a unit of so many regions
pub record UnitFits (count : ℕ) (m : Registers) : Type 0 where
  pub control_word : m.control < 2 ^ 32
  pub number_word : m.number < 2 ^ 32
  pub region_count : length m.regions ≡ count
  pub rbar_words : (k : ℕ) → (get_or m.regions k blank).rbar < 2 ^ 32
  pub rasr_words : (k : ℕ) → (get_or m.regions k blank).rasr < 2 ^ 32

pub record StateFits (i : Image) (s : State) : Type 0 where
  pub core : CoreFits s.core
  pub status : StatusFits s.status
  pub unit : UnitFits i.regions s.protection.mpu
  pub ram_count : length s.ram ≡ i.ram_size
  pub queue_count : length s.queues ≡ length i.windows

abbrev pub StepsKeepShape : Type 0
StepsKeepShape = (j : PermissionTest) (i : Image) (s : State) → ObeysRules i → StateFits i s → StateFits i (turn j i s).to

-- so it holds from reset on
abbrev pub RunsKeepShape : Type 0
RunsKeepShape = (i : Image) (queues : List (List ℕ)) (fill steps : ℕ) → ObeysRules i → length queues ≡ length i.windows → StateFits i (after i queues fill steps)
