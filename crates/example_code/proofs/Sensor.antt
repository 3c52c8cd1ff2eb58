-- Sizes and code of a control loop.
use Rattle.std.proofs.Common.{refl}
use Rattle.machine_thumb.specs.Table.{encode}
use Rattle.code_model.specs.Entry.{frame_code}
use Rattle.code_model.specs.Templates.{inst_items, term_items}
use Rattle.code_model.specs.Sizes.{inst_size, term_size, entry_size}
use Rattle.example_code.specs.Sensor.{ComputesSizes, ComputesCode}

pub computes_sizes : ComputesSizes
unfolding inst_size term_size entry_size
computes_sizes = record {
  main_size = refl;
  adc_read_size = refl;
  control_size = refl;
  clamp_size = refl;
  coil_set_size = refl;
  files = refl;
  moved = refl;
  peripherals = refl;
}

pub computes_code : ComputesCode
unfolding encode frame_code inst_items term_items inst_size term_size entry_size
computes_code = record {
  first_entry = refl;
  second_entry = refl;
  main_code = refl;
  adc_read_code = refl;
  last_code = refl;
  moved_code = refl;
}
