-- The checks of images, computed.
use Rattle.std.proofs.Common.{refl}
use Rattle.std.specs.Int.Count.{count_leading_zeros}
use Rattle.base_words.specs.Bytes.{read}
use Rattle.machine_thumb.specs.Decoded.{arithmetic_of, special_of, transfer_of, stack_of, multiple_of, upper_of, narrow_of, move_of, special_register_of, divide_of, wide_of, decoded}
use Rattle.machine_protection.specs.Regions.{holds}
use Rattle.plan_model.specs.Covers.{least_power}
use Rattle.plan_model.specs.Blocks.{block_size_for}
use Rattle.monitor_model.specs.Layout.{initial_word_count, tables_size}
use Rattle.monitor_model.specs.FromFlash.{tables_of}
use Rattle.monitor_model.specs.Sound.{first_failure}
use Rattle.example_monitor.specs.Audits.{ComputesAudits}

pub computes_audits : ComputesAudits
unfolding count_leading_zeros read arithmetic_of special_of transfer_of stack_of multiple_of upper_of narrow_of move_of special_register_of divide_of wide_of decoded holds initial_word_count block_size_for least_power tables_size tables_of first_failure
computes_audits = record {
  sound = refl;
  no_monitor = refl;
  no_stack = refl;
  overlapping = refl;
  short = refl;
  records_outside = refl;
  no_compartment = refl;
  many_compartments = refl;
  many_targets = refl;
  many_lends = refl;
  other_stack = refl;
  other_size = refl;
  other_block = refl;
  other_code = refl;
  other_number = refl;
  far_cover = refl;
  on_block = refl;
  beside_block = refl;
  taken_out = refl;
  one_left = refl;
  read_only = refl;
  closed_read_only = refl;
  other_mask = refl;
  no_target = refl;
  far_target = refl;
  no_such_compartment = refl;
  even_entry = refl;
  no_main = refl;
  no_size = refl;
  greatest_size = refl;
  great_size = refl;
  init = refl;
  unaligned_init = refl;
  empty_init = refl;
  stack_init = refl;
  other_words = refl;
}
