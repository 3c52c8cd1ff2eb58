-- The frame of the example.
use Rattle.std.proofs.Common.{refl}
use Rattle.ir_model.specs.Layout.{known}
use Rattle.example_machine.specs.Frame.{ComputesFrame}

pub computes_frame : ComputesFrame
unfolding known
computes_frame = record {
  size = refl;
  first_register = refl;
  second_register = refl;
  first_local = refl;
  second_local = refl;
  return_address = refl;
}
