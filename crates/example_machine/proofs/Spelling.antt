-- Canonical texts, line by line.
use Rattle.std.proofs.Common.{refl}
use Rattle.ir_model.specs.Canonical.{canonical}
use Rattle.ir_model.specs.Lines.{lines_of}
use Rattle.example_machine.specs.Spelling.{ComputesSpelling}

pub computes_spelling : ComputesSpelling
unfolding canonical lines_of
computes_spelling = record {
  shortest = refl;
  shortest_length = refl;
  nothing_at_all = refl;
  each_line = refl;
  periph_text = refl;
  array_text = refl;
  number_text = refl;
  depth_eight = refl;
  depth_nine = refl;
  longest_array = refl;
  array_too_long = refl;
  empty_array = refl;
  array_too_wide = refl;
  fifth_parameter = refl;
}
