-- What the handler of MemManage comes to, computed.
use Rattle.std.proofs.Common.{refl}
use Rattle.base_words.specs.Bytes.{read, write}
use Rattle.machine_model.specs.Stack.{words_at}
use Rattle.monitor_model.specs.FaultOutcome.{fault_outcome}
use Rattle.example_monitor.specs.Faults.{ComputesFaults}

pub computes_faults : ComputesFaults
unfolding read write words_at fault_outcome
computes_faults = record {
  stores = refl;
  stores_byte = refl;
  stores_half = refl;
  beside = refl;
  before = refl;
  half_beside = refl;
  near_the_end = refl;
  not_its_own = refl;
  not_lent = refl;
  fetch = refl;
  other = refl;
  load = refl;
  closed_stack = refl;
  loads = refl;
  loads_byte = refl;
  loads_half = refl;
  stores_not = refl;
  loads_not = refl;
}
