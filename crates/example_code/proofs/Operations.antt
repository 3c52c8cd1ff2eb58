-- The code of operations.
use Rattle.std.proofs.Common.{refl}
use Rattle.machine_thumb.specs.Table.{encode}
use Rattle.example_code.specs.Operations.{ComputesOperations}

pub computes_operations : ComputesOperations
unfolding encode
computes_operations = record {
  number = refl;
  copy = refl;
  sum = refl;
  difference = refl;
  product = refl;
  unsigned_quotient = refl;
  signed_quotient = refl;
  unsigned_remainder = refl;
  signed_remainder = refl;
  conjunction = refl;
  disjunction = refl;
  exclusive = refl;
  clear = refl;
  left = refl;
  right = refl;
  right_signed = refl;
  equal = refl;
  unequal = refl;
  below = refl;
  at_most = refl;
  signed_below = refl;
  signed_at_most = refl;
}
