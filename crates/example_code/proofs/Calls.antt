-- The code of calls.
use Rattle.std.proofs.Common.{refl}
use Rattle.machine_thumb.specs.Table.{encode}
use Rattle.example_code.specs.Calls.{ComputesCalls}

pub computes_calls : ComputesCalls
unfolding encode
computes_calls = record {
  nothing_passed = refl;
  all_passed = refl;
  backwards = refl;
  across = refl;
  indirect = refl;
  indirect_across = refl;
}
