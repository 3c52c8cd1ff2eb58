-- The values are computed.
use Rattle.std.proofs.Common.{refl}
use lib.Count.{count_trailing_zeros, count_leading_zeros}
use Rattle.plan_model.specs.Covers.{least_power}
use Rattle.plan_model.specs.Blocks.{block_size_for}
use Rattle.monitor_model.specs.Layout.{tables_size}
use Rattle.base_words.specs.Arithmetic.{shift_left, shift_right, bit_clear}
use Rattle.base_words.specs.Bytes.{read, write, write_all}
use Rattle.machine_protection.specs.Regions.{holds}
use Rattle.machine_protection.specs.Protection.{permits, deciding}
use Rattle.machine_protection.specs.Registers.{read_register, write_register}
use Rattle.machine_protection.specs.RegionWords.{region_of}
use Rattle.machine_bus.specs.Locations.{location, find_window}
use Rattle.machine_model.specs.State.{by_mpu}
use Rattle.machine_model.specs.System.{read_system, read_status, write_status}
use Rattle.machine_model.specs.Tests.{verdict}
use Rattle.machine_model.specs.Stack.{words_at}
use Rattle.example_monitor.specs.Handled.{ComputesCalls, ComputesLoans, ComputesHalts}

pub computes_calls : ComputesCalls
unfolding count_trailing_zeros count_leading_zeros tables_size block_size_for least_power shift_left shift_right bit_clear read write write_all holds permits deciding read_register write_register region_of location find_window by_mpu read_system read_status write_status verdict words_at
computes_calls = record {
  enters = refl;
  skips_the_number = refl;
  leaves = refl;
}

pub computes_loans : ComputesLoans
unfolding count_trailing_zeros count_leading_zeros tables_size block_size_for least_power shift_left shift_right bit_clear read write write_all holds permits deciding read_register write_register region_of location find_window by_mpu read_system read_status write_status verdict words_at
computes_loans = record {
  lends = refl;
  unlends = refl;
  stores = refl;
  goes_on_behind = refl;
  loads = refl;
}

pub computes_halts : ComputesHalts
unfolding count_trailing_zeros count_leading_zeros tables_size block_size_for least_power shift_left shift_right bit_clear read write write_all holds permits deciding read_register write_register region_of location find_window by_mpu read_system read_status write_status verdict words_at
computes_halts = record {
  ends = refl;
  number = refl;
  site = refl;
  target = refl;
  below = refl;
  above = refl;
  padded = refl;
  full = refl;
  unaligned = refl;
  too_long = refl;
  none = refl;
  store = refl;
  load = refl;
  fetch = refl;
  open_load = refl;
  no_unit = refl;
  larger_unit = refl;
  smaller_unit = refl;
}
