-- The values are computed.
use Rattle.std.proofs.Common.{refl}
use lib.Count.{count_trailing_zeros, count_leading_zeros}
use Rattle.plan_model.specs.Covers.{least_power}
use Rattle.plan_model.specs.Blocks.{block_size_for}
use Rattle.monitor_model.specs.Layout.{tables_size}
use Rattle.base_words.specs.Bytes.{read}
use Rattle.machine_thumb.specs.Table.{encode}
use Rattle.machine_thumb.specs.Decoded.{decoded, narrow_of, arithmetic_of, transfer_of, special_of, upper_of, stack_of, multiple_of, wide_of, move_of, special_register_of, divide_of}
use Rattle.machine_protection.specs.RegionWords.{region_of}
use Rattle.machine_model.specs.Stack.{words_at}
use Rattle.monitor_program.specs.Page.{page}
use Rattle.example_monitor.specs.Pages.{ComputesPage}

pub computes_page : ComputesPage
unfolding count_trailing_zeros count_leading_zeros tables_size block_size_for least_power read region_of encode decoded words_at page narrow_of arithmetic_of transfer_of special_of upper_of stack_of multiple_of wide_of move_of special_register_of divide_of
computes_page = record {
  size = refl;
  closed_size = refl;
  vectors = refl;
  main_compartment = record { low = refl; high = refl };
  main_entry = record { low = refl; high = refl };
  stub = refl;
  erased = refl;
  last = refl;
}
