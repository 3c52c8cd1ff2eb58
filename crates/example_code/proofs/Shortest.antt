-- The code of the shortest firmware.
use Rattle.std.proofs.Common.{refl}
use Rattle.machine_thumb.specs.Table.{encode}
use Rattle.code_model.specs.Entry.{frame_code}
use Rattle.code_model.specs.Templates.{inst_items, term_items}
use Rattle.code_model.specs.Sizes.{inst_size, term_size, entry_size}
use Rattle.example_code.specs.Shortest.{ComputesShortest}

pub computes_shortest : ComputesShortest
unfolding encode frame_code inst_items term_items inst_size term_size entry_size
computes_shortest = record {
  size = refl;
  code = refl;
}
