-- The values are computed.
use Rattle.std.proofs.Common.{refl}
use Rattle.base_words.specs.Arithmetic.{shift_left, shift_right, bit_clear}
use Rattle.base_words.specs.Bytes.{read, write, write_all}
use Rattle.machine_protection.specs.Regions.{holds}
use Rattle.machine_protection.specs.Protection.{permits, deciding}
use Rattle.machine_protection.specs.Registers.{read_register, write_register}
use Rattle.machine_protection.specs.RegionWords.{region_of}
use Rattle.machine_bus.specs.Locations.{location, find_window}
use Rattle.machine_model.specs.State.{by_mpu}
use Rattle.machine_model.specs.System.{read_system, read_status, write_status}
use Rattle.machine_model.specs.Tests.{verdict}
use Rattle.machine_model.specs.Stack.{words_at}
use Rattle.machine_thumb.specs.Table.{encode}
use Rattle.example_monitor.specs.SmallLists.{ComputesSteps, ComputesCode}

pub computes_steps : ComputesSteps
unfolding shift_left shift_right bit_clear read write write_all holds permits deciding read_register write_register region_of location find_window by_mpu read_system read_status write_status verdict words_at encode
computes_steps = record {
  loops = refl;
  loops_too_often = refl;
  tests_true = refl;
  tests_false = refl;
  operations = refl;
  transfers = refl;
  loads_flash = refl;
  stores_flash = refl;
  unaligned = refl;
  clears_status = refl;
  moves_psp = refl;
  unprivileged_reads = refl;
  goes_over = refl;
  returns = refl;
}

pub computes_code : ComputesCode
unfolding shift_left shift_right bit_clear read write write_all holds permits deciding read_register write_register region_of location find_window by_mpu read_system read_status write_status verdict words_at encode
computes_code = record {
  constant = record { code_is = refl; length_is = refl };
  sum = record { code_is = refl; length_is = refl };
  first_operand = record { code_is = refl; length_is = refl };
  other_register = record { code_is = refl; length_is = refl };
  second_operand = record { code_is = refl; length_is = refl };
  test = record { code_is = refl; length_is = refl };
  loop = record { code_is = refl; length_is = refl };
  special = record { code_is = refl; length_is = refl };
  control = record { code_is = refl; length_is = refl };
  return = record { code_is = refl; length_is = refl };
  branch = record { code_is = refl; length_is = refl };
  steps_of_loop = refl;
  most_of_loop = refl;
}
