-- Firmwares that are not typed, each with its first fault.
use Rattle.std.proofs.Common.{refl}
use Rattle.ir_model.specs.Typing.{fault_of, checks}
use Rattle.ir_model.specs.Layout.{known}
use Rattle.ir_model.specs.Rules.{inst_fits, term_fits}
use Rattle.example_machine.specs.Refused.{ComputesRefused}

pub computes_refused : ComputesRefused
unfolding fault_of checks known inst_fits term_fits
computes_refused = record {
  nothing_at_all = refl;
  unknown_callee = refl;
  unknown_register = refl;
  number_as_pointer = refl;
  no_such_field = refl;
  unknown_label = refl;
  name_of_a_global = refl;
  local_and_register = refl;
  holds_itself = refl;
  small_register = refl;
  small_window = refl;
  odd_window = refl;
  high_window = refl;
  window_in_window = refl;
  wide_byte = refl;
  one_cell_too_many = refl;
  address_of_nothing = refl;
  too_large_frame = refl;
  main_with_parameter = refl;
  too_large_object = refl;
}
