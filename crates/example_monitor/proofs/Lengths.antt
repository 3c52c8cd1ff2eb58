-- The values are computed.
use Rattle.std.proofs.Common.{refl}
use lib.Count.{count_trailing_zeros, count_leading_zeros}
use Rattle.plan_model.specs.Covers.{least_power}
use Rattle.plan_model.specs.Blocks.{block_size_for}
use Rattle.monitor_model.specs.Layout.{tables_size}
use Rattle.machine_protection.specs.RegionWords.{region_of}
use Rattle.example_monitor.specs.Lengths.{ComputesLengths}

pub computes_lengths : ComputesLengths
unfolding count_trailing_zeros count_leading_zeros tables_size block_size_for least_power region_of
computes_lengths = record {
  enter_four = record { bytes_are = refl; steps_are = refl };
  enter_twelve = record { bytes_are = refl; steps_are = refl };
  leave_four = record { bytes_are = refl; steps_are = refl };
  leave_twelve = record { bytes_are = refl; steps_are = refl };
  lend_any = record { bytes_are = refl; steps_are = refl };
  unlend_any = record { bytes_are = refl; steps_are = refl };
  svc_four = record { bytes_are = refl; steps_are = refl };
  svc_twelve = record { bytes_are = refl; steps_are = refl };
  memfault_four = record { bytes_are = refl; steps_are = refl };
  memfault_twelve = record { bytes_are = refl; steps_are = refl };
  memfault_four_closed = record { bytes_are = refl; steps_are = refl };
  memfault_twelve_closed = record { bytes_are = refl; steps_are = refl };
  reset_four = refl;
  reset_twelve = refl;
  four = refl;
  four_of_closed = refl;
  twelve = refl;
  twelve_of_closed = refl;
}
