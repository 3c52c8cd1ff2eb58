-- The code of addresses.
use Rattle.std.proofs.Common.{refl}
use Rattle.machine_thumb.specs.Table.{encode}
use Rattle.example_code.specs.Addresses.{ComputesAddresses}

pub computes_addresses : ComputesAddresses
unfolding encode
computes_addresses = record {
  global = refl;
  window = refl;
  local = refl;
  function = refl;
  element = refl;
  large_element = refl;
  too_large = refl;
  field = refl;
  load_byte = refl;
  load_half = refl;
  load_word = refl;
  load_pointer = refl;
  store_byte = refl;
  store_half = refl;
  store_word = refl;
  store_pointer = refl;
}
