-- The code of a firmware with a table of functions.
use Rattle.std.proofs.Common.{refl}
use Rattle.machine_thumb.specs.Table.{encode}
use Rattle.code_model.specs.Entry.{frame_code}
use Rattle.code_model.specs.Templates.{inst_items, term_items}
use Rattle.code_model.specs.Sizes.{inst_size, term_size, entry_size}
use Rattle.example_code.specs.Table.{ComputesTable}

pub computes_table : ComputesTable
unfolding encode frame_code inst_items term_items inst_size term_size entry_size
computes_table = record {
  sizes = refl;
  second_entry = refl;
  first_code = refl;
}
