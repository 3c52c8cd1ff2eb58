-- The computed examples.
use Rattle.std.proofs.Common.{refl}
use Rattle.machine_thumb.specs.Decoded.{decoded, narrow_of, arithmetic_of, transfer_of, special_of, upper_of, stack_of, multiple_of, wide_of, move_of, special_register_of, divide_of}
use Rattle.base_words.specs.Arithmetic.{unsigned_quotient, signed_quotient, bit_clear, shift_left, shift_right, shift_right_signed, rotate_right, shifted_left_carry, shifted_right_carry, shifted_right_signed_carry, rotated_right_carry}
use Rattle.base_words.specs.Bytes.{read, write, cut}
use Rattle.base_words.specs.Flags.{add_flags, holds as passes}
use Rattle.machine_protection.specs.Protection.{permits, deciding}
use Rattle.machine_bus.specs.Locations.{location, find_window}
use Rattle.machine_model.specs.State.{by_mpu}
use Rattle.machine_model.specs.Tests.{verdict, verdicts, all_open}
use Rattle.machine_model.specs.Instructions.{act, listed}
use Rattle.machine_model.specs.Perform.{perform, get_words, put_words}
use Rattle.machine_model.specs.Exceptions.{words_from, push_words, stacked_words}
use Rattle.machine_model.specs.Step.{turn, fetch}
use Rattle.example_machine.specs.ComputedSteps.{ComputesData, ComputesBranches, ComputesTransfers}
use Rattle.example_machine.specs.ComputedFaults.{ComputesProtection, ComputesExceptions, ComputesWindows, ComputesStops, ComputesSystem, ComputesTests, ComputesRun}
use Rattle.base_words.specs.Runs.{run, events}
use Rattle.machine_protection.specs.Regions.{holds}
use Rattle.machine_protection.specs.Registers.{write_register, read_register}
use Rattle.machine_model.specs.System.{read_system, read_status, write_status}
use Rattle.machine_model.specs.Run.{start}

pub computes_data : ComputesData
unfolding turn fetch act perform by_mpu permits location find_window read decoded narrow_of arithmetic_of transfer_of special_of upper_of stack_of wide_of move_of special_register_of divide_of add_flags unsigned_quotient signed_quotient bit_clear shift_left shift_right shift_right_signed rotate_right shifted_left_carry shifted_right_carry shifted_right_signed_carry rotated_right_carry
computes_data = record {
  moves = refl;
  adds = refl;
  subtracts = refl;
  compares = refl;
  negates = refl;
  shifts = refl;
  shifts_all = refl;
  shifts_out = refl;
  adds_carry = refl;
  subtracts_borrow = refl;
  rotates = refl;
  multiplies = refl;
  inverts = refl;
  clears = refl;
  joins = refl;
  differs = refl;
  meets = refl;
  tests = refl;
  compares_negative = refl;
  divides_by_zero = refl;
  divides_least = refl;
  moves_wide = refl;
  moves_top = refl;
  moves_high = refl;
  moves_low = refl;
  moves_stack = refl;
  adds_high = refl;
  compares_high = refl;
  adds_stack = refl;
  lowers_stack = refl;
  raises_stack = refl;
  rests = refl;
  waits = refl;
}

pub computes_branches : ComputesBranches
unfolding turn fetch act perform by_mpu permits location find_window read decoded narrow_of transfer_of special_of upper_of stack_of wide_of passes
computes_branches = record {
  taken = refl;
  not_taken = refl;
  backward = refl;
  loops = refl;
  far = refl;
  links = refl;
  links_back = refl;
  calls = refl;
  jumps = refl;
  calls_back = refl;
  halts = refl;
}

pub computes_transfers : ComputesTransfers
unfolding turn fetch act perform by_mpu permits location find_window read write cut decoded narrow_of transfer_of upper_of stack_of multiple_of listed verdict verdicts get_words put_words words_from
computes_transfers = record {
  pushes = refl;
  pops = refl;
  stores_many = refl;
  loads_many = refl;
  loads_base = refl;
  loads_literal = refl;
  loads_literal_rounded = refl;
  stores_word = refl;
  stores_half = refl;
  stores_byte = refl;
  loads_word = refl;
  loads_half = refl;
  loads_byte = refl;
  loads_signed_byte = refl;
  loads_signed_half = refl;
  stores_stack = refl;
  loads_stack = refl;
}

pub computes_protection : ComputesProtection
unfolding turn fetch act perform by_mpu permits deciding holds write_register read_register location find_window read write cut decoded narrow_of transfer_of special_of upper_of stack_of multiple_of wide_of special_register_of listed verdict verdicts all_open get_words put_words words_from push_words stacked_words read_system read_status write_status bit_clear start
computes_protection = record { first = refl; last = refl; below = refl; above = refl; reads_outside = refl; is_covered = refl; reads_covered = refl; is_covered_privileged = refl; is_beside_cover = refl; no_region = refl; background = refl; runs = refl; never_runs = refl; off = refl; off_runs = refl; off_never_runs = refl; part_out = refl; part_in = refl; last_part_in = refl; last_part_out = refl }

pub computes_exceptions : ComputesExceptions
unfolding turn fetch act perform by_mpu permits deciding holds write_register read_register location find_window read write cut decoded narrow_of transfer_of special_of upper_of stack_of multiple_of wide_of special_register_of listed verdict verdicts all_open get_words put_words words_from push_words stacked_words read_system read_status write_status bit_clear start
computes_exceptions = record { calls = refl; calls_padded = refl; returns = refl; returns_padded = refl; refuses = refl; refuses_fetch = refl }

pub computes_windows : ComputesWindows
unfolding turn fetch act perform by_mpu permits deciding holds write_register read_register location find_window read write cut decoded narrow_of transfer_of special_of upper_of stack_of multiple_of wide_of special_register_of listed verdict verdicts all_open get_words put_words words_from push_words stacked_words read_system read_status write_status bit_clear start
computes_windows = record { loads = refl; runs_dry = refl; stores = refl }

pub computes_stops : ComputesStops
unfolding turn fetch act perform by_mpu permits deciding holds write_register read_register location find_window read write cut decoded narrow_of transfer_of special_of upper_of stack_of multiple_of wide_of special_register_of listed verdict verdicts all_open get_words put_words words_from push_words stacked_words read_system read_status write_status bit_clear start
computes_stops = record { unaligned = refl; unmapped = refl; unaligned_first = refl; system = refl; system_half = refl; no_system_register = refl; flash = refl; many_from_window = refl; disabled = refl; fault_in_handler = refl; call_in_handler = refl; stacking = refl; unstacking = refl; no_thumb = refl; no_thread = refl; even = refl; even_call = refl; even_pop = refl; undefined = refl; no_code = refl; no_return = refl; stays = refl }

pub computes_system : ComputesSystem
unfolding turn fetch act perform by_mpu permits deciding holds write_register read_register location find_window read write cut decoded narrow_of transfer_of special_of upper_of stack_of multiple_of wide_of special_register_of listed verdict verdicts all_open get_words put_words words_from push_words stacked_words read_system read_status write_status bit_clear start
computes_system = record { switches = refl; counts = refl; configures = refl; clears = refl; stores_region = refl; loads_control = refl; selects = refl; cannot_select = refl; sets_other = refl; sets_own = refl; selects_in_handler = refl; reads_control = refl; reads_other = refl; cannot_read = refl; starts = refl }

pub computes_tests : ComputesTests
unfolding turn fetch act perform by_mpu permits deciding holds write_register read_register location find_window read write cut decoded narrow_of transfer_of special_of upper_of stack_of multiple_of wide_of special_register_of listed verdict verdicts all_open get_words put_words words_from push_words stacked_words read_system read_status write_status bit_clear start
computes_tests = record { first_word = refl; second_word = refl; stacking = refl; unstacking = refl; unstacking_privileged = refl }

pub computes_run : ComputesRun
unfolding turn fetch act perform by_mpu permits deciding holds write_register read_register location find_window read write cut decoded narrow_of transfer_of special_of upper_of stack_of multiple_of wide_of special_register_of listed verdict verdicts all_open get_words put_words words_from push_words stacked_words read_system read_status write_status bit_clear start run events arithmetic_of shift_left shifted_left_carry
computes_run = record { ends = refl; tells = refl }
