-- What is read of a machine that has stopped running.
use Rattle.std.specs.Prelude.{ℕ}
use Rattle.machine_protection.specs.declared.TheConstants.{MPU_RNR, MPU_RBAR, MPU_RASR}
use Rattle.machine_protection.specs.declared.region.Region.{Region}
use Rattle.machine_protection.specs.Registers.{Registers, read_register, write_register}
use Rattle.machine_emulator.specs.Machine.{MachineState}

-- a unit with this region selected: its number is in MPU_RNR
abbrev pub selecting : (number : ℕ) → Registers → Registers
selecting k m = write_register MPU_RNR k m

-- what MPU_RBAR and MPU_RASR read there
abbrev pub region_words : (number : ℕ) → Registers → Region
region_words k m = record { rbar = read_register MPU_RBAR (selecting k m); rasr = read_register MPU_RASR (selecting k m) }

-- a machine whose unit has it selected
abbrev pub with_region : (number : ℕ) → MachineState → MachineState
with_region k m = record m { state = record m.state { protection = record m.state.protection { mpu = selecting k m.state.protection.mpu } } }
