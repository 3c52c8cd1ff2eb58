-- What the handler of SVC comes to, computed.
use Rattle.std.proofs.Common.{refl}
use Rattle.base_words.specs.Bytes.{read, write, write_all}
use Rattle.machine_bus.specs.Locations.{location, find_window}
use Rattle.machine_model.specs.Stack.{words_at}
use Rattle.monitor_model.specs.SvcOutcome.{svc_outcome}
use Rattle.example_monitor.specs.Calls.{ComputesCalls}

pub computes_calls : ComputesCalls
unfolding read write write_all location find_window words_at svc_outcome
computes_calls = record {
  enters = refl;
  enters_lent = refl;
  other_site = refl;
  other_target = refl;
  nothing_there = refl;
  no_room = refl;
  below_stack = refl;
  above_top = refl;
  padded = refl;
  main_ends = refl;
  leaves = refl;
  lends = refl;
  odd = refl;
  in_frame = refl;
  last_word = refl;
  over_top = refl;
  no_number = refl;
  too_many = refl;
  unlends = refl;
  older = refl;
  nothing_lent = refl;
  no_call = refl;
}
