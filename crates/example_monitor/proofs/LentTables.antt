-- The tables of a firmware that lends a local, computed.
use Rattle.std.proofs.Common.{refl, arith}
use Rattle.std.specs.Int.Count.{count_leading_zeros, count_trailing_zeros}
use Rattle.base_words.specs.Bytes.{read}
use Rattle.machine_thumb.specs.Decoded.{arithmetic_of, special_of, transfer_of, stack_of, multiple_of, upper_of, narrow_of, move_of, special_register_of, divide_of, wide_of, decoded}
use Rattle.machine_protection.specs.RegionWords.{region_of}
use Rattle.machine_model.specs.Stack.{words_at}
use Rattle.plan_model.specs.Covers.{least_power}
use Rattle.plan_model.specs.Blocks.{block_size_for}
use Rattle.monitor_model.specs.Layout.{initial_word_count, tables_size}
use Rattle.monitor_model.specs.FromFlash.{tables_of}
use Rattle.example_monitor.specs.LentTables.{ComputesTables}

pub computes_tables : ComputesTables
unfolding count_leading_zeros count_trailing_zeros read arithmetic_of special_of transfer_of stack_of multiple_of upper_of narrow_of move_of special_register_of divide_of wide_of decoded region_of words_at initial_word_count block_size_for least_power tables_size tables_of
computes_tables = record {
  words = refl;
  has_tables = record { from_base = omega arith; inside = omega arith; words_are = refl };
  read_back = refl;
  slots = refl;
  comps = refl;
  sites = refl;
  targets = refl;
  lends = refl;
  ends = refl;
  size = refl;
  least_block = refl;
  exact_block = refl;
  next_block = refl;
  found = refl;
  last = refl;
  none = refl;
  regions = refl;
  open_regions = refl;
  closed_background = refl;
}
