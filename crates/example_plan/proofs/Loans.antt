-- What the lent local's needs give.
use Rattle.std.proofs.Common.{refl}
use Rattle.plan_model.specs.InitialGraph.{initial_graph}
use Rattle.plan_model.specs.Merging.{next}
use Rattle.plan_model.specs.FinalGraph.{stays}
use Rattle.plan_model.specs.Permission.{may_write, may_read}
use Rattle.plan_model.specs.Crossing.{site_number}
use Rattle.plan_model.specs.Lending.{lend_number}
use Rattle.plan_model.specs.Blocks.{region_bytes}
use Rattle.plan_model.specs.TableSize.{table_bytes}
use Rattle.example_plan.specs.LentLocal.{graph, ComputesLoans}
use Rattle.std.proofs.Common.{[], ◌∷◌}

pub computes_loans : ComputesLoans
unfolding initial_graph next may_write may_read site_number lend_number region_bytes table_bytes
computes_loans = record {
  first = refl;
  closed = refl;
  final = record { last = graph (1 ∷ 0 ∷ 1 ∷ []); reached = stays; ended = refl; is = refl };
  writer_writes = refl;
  main_does_not = refl;
  main_reads = refl;
  numbers = refl;
  count = refl;
  crossings = refl;
  mask = refl;
  tables = refl;
  not_lent = refl;
  no_crossing = refl;
  no_mask = refl;
}
