-- The code of a firmware with a lent local.
use Rattle.std.proofs.Common.{refl}
use Rattle.machine_thumb.specs.Table.{encode}
use Rattle.code_model.specs.Entry.{frame_code}
use Rattle.code_model.specs.Templates.{inst_items, term_items}
use Rattle.code_model.specs.Sizes.{inst_size, term_size, entry_size}
use Rattle.example_code.specs.Lent.{ComputesLent}

pub computes_lent : ComputesLent
unfolding encode frame_code inst_items term_items inst_size term_size entry_size
computes_lent = record {
  frame = refl;
  shape = refl;
  sizes = refl;
  main_code = refl;
  passes_on_code = refl;
  stores_code = refl;
}
