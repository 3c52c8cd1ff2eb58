-- The image of the firmware that lends a local, with the monitor's own code, computed.
use Rattle.std.proofs.Common.{refl}
use Rattle.std.specs.Int.Count.{count_trailing_zeros, count_leading_zeros}
use Rattle.base_words.specs.Bytes.{read}
use Rattle.machine_thumb.specs.Table.{encode}
use Rattle.machine_thumb.specs.Decoded.{arithmetic_of, special_of, transfer_of, stack_of, multiple_of, upper_of, narrow_of, move_of, special_register_of, divide_of, wide_of, decoded}
use Rattle.machine_protection.specs.Regions.{holds}
use Rattle.machine_protection.specs.RegionWords.{region_of}
use Rattle.plan_model.specs.Covers.{least_power}
use Rattle.plan_model.specs.Blocks.{block_size_for}
use Rattle.monitor_model.specs.Layout.{initial_word_count, tables_size}
use Rattle.monitor_program.specs.Page.{page}
use Rattle.monitor_model.specs.FromFlash.{tables_of}
use Rattle.monitor_model.specs.Sound.{first_failure}
use Rattle.example_monitor.specs.Joined.{ComputesJoined}

pub computes_joined : ComputesJoined
unfolding count_trailing_zeros count_leading_zeros read encode arithmetic_of special_of transfer_of stack_of multiple_of upper_of narrow_of move_of special_register_of divide_of wide_of decoded holds region_of initial_word_count block_size_for least_power tables_size page tables_of first_failure
computes_joined = record {
  read_back = refl;
  sound = refl;
}
