-- Where blocks lie, and the words of regions.
use Rattle.std.proofs.Common.{refl, arith}
use lib.Count.{count_trailing_zeros}
use Rattle.machine_protection.specs.RegionWords.{region_of}
use Rattle.plan_model.specs.Covers.{least_power}
use Rattle.plan_model.specs.Blocks.{block_size_for, region_bytes, offset_in_region, open_eighths, subregions_out}
use Rattle.plan_model.specs.FlashPlacement.{flash_blocks, bytes_before}
use Rattle.plan_model.specs.RamPlacement.{with_block, ram_of}
use Rattle.plan_model.specs.RamBlocks.{ram_blocks}
use Rattle.plan_model.specs.Placement.{plan_of, global_address}
use Rattle.plan_model.specs.Slots.{slot_regions}
use Rattle.plan_model.specs.TableSize.{table_bytes}
use Rattle.example_plan.specs.ControlPlan.{ComputesPlan, ComputesOtherPolicies}
use Rattle.example_plan.specs.ClosedLoop.{ComputesClosedPlan}
use Rattle.example_plan.specs.Tails.{ComputesTails, ComputesStackFirst}
use Rattle.example_plan.specs.Sums.{ComputesSums}
use Rattle.example_plan.specs.Words.{ComputesWords}

pub computes_plan : ComputesPlan
unfolding table_bytes global_address offset_in_region region_bytes plan_of flash_blocks bytes_before least_power block_size_for ram_blocks with_block ram_of open_eighths subregions_out slot_regions region_of count_trailing_zeros
computes_plan = record {
  tables = refl;
  blocks = refl;
  flash = refl;
  ram = refl;
  sites = refl;
  targets = refl;
  third_site = refl;
  gain = refl;
  turns = refl;
  of_main = refl;
  of_adc_read = refl;
  of_control = refl;
  code_of_main = refl;
}

pub computes_other_policies : ComputesOtherPolicies
unfolding flash_blocks least_power block_size_for
computes_other_policies = record { optimized = refl; optimized_sites = refl; by_periph_sites = refl }

pub computes_closed_plan : ComputesClosedPlan
unfolding table_bytes region_bytes plan_of flash_blocks bytes_before least_power block_size_for ram_blocks with_block ram_of open_eighths subregions_out slot_regions region_of count_trailing_zeros
computes_closed_plan = record { tables = refl; blocks = refl; of_main = refl; of_control = refl }

pub computes_tails : ComputesTails
unfolding global_address region_bytes offset_in_region plan_of flash_blocks bytes_before least_power block_size_for ram_blocks with_block ram_of open_eighths subregions_out slot_regions region_of count_trailing_zeros
computes_tails = record {
  blocks = refl;
  tails = refl;
  needed = refl;
  of_first = refl;
  of_second = refl;
  second_global = refl;
}

pub computes_stack_first : ComputesStackFirst
unfolding region_bytes plan_of flash_blocks bytes_before least_power block_size_for ram_blocks with_block ram_of open_eighths
computes_stack_first = record { blocks = refl; tails = refl; needed = refl }

pub computes_sums : ComputesSums
unfolding table_bytes region_bytes flash_blocks bytes_before least_power block_size_for ram_blocks with_block ram_of open_eighths
computes_sums = record {
  too_much = refl;
  named = refl;
  without_regions = refl;
  enough = refl;
  fits = record { flash = omega arith; ram = omega arith };
  tables = refl;
  flash = refl;
  flash_of = refl;
  large_code = refl;
  falling = refl;
  largest = refl;
}

pub computes_words : ComputesWords
unfolding least_power block_size_for region_bytes offset_in_region open_eighths subregions_out region_of count_trailing_zeros
computes_words = record {
  blocks = refl;
  six_hundred = refl;
  one = refl;
  whole = refl;
  just_more = refl;
  stack = refl;
  of_a_window = refl;
  bytes = refl;
  offset = refl;
}
