-- The code of a control loop by its plan.
use Rattle.std.proofs.Common.{refl}
use Rattle.plan_model.specs.Lending.{lend_number}
use Rattle.plan_model.specs.Blocks.{region_bytes, offset_in_region}
use Rattle.plan_model.specs.Placement.{global_address}
use Rattle.plan_model.specs.TableSize.{table_bytes}
use Rattle.code_model.specs.Sizes.{inst_size, term_size, entry_size}
use Rattle.example_code.specs.Planned.{ComputesPlanned}

pub computes_planned : ComputesPlanned
unfolding lend_number region_bytes offset_in_region global_address table_bytes inst_size term_size entry_size
computes_planned = record {
  by_files = refl;
  by_moved = refl;
  by_periphs = refl;
  sizes = refl;
  places = refl;
  entry = refl;
  lends = refl;
  no_lends = refl;
}
