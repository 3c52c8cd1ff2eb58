-- Tables, computed.
use Rattle.std.proofs.Common.{refl}
use lib.Count.{count_trailing_zeros}
use Rattle.base_words.specs.Bytes.{read, write}
use Rattle.machine_model.specs.Stack.{words_at}
use Rattle.machine_protection.specs.RegionWords.{region_of}
use Rattle.plan_model.specs.Lending.{lend_number}
use Rattle.plan_model.specs.Covers.{least_power}
use Rattle.plan_model.specs.Blocks.{block_size_for, region_bytes, offset_in_region, open_eighths, subregions_out}
use Rattle.plan_model.specs.Placement.{global_address}
use Rattle.plan_model.specs.Slots.{slot_regions}
use Rattle.plan_model.specs.TableSize.{table_bytes}
use Rattle.code_model.specs.Sizes.{inst_size, term_size, entry_size}
use Rattle.image_model.specs.FirstWords.{first_words}
use Rattle.image_model.specs.LinkedTables.{tables_of}
use Rattle.example_image.specs.LentTables.{ComputesLent}
use Rattle.example_image.specs.LoopTables.{ComputesLoop}

pub computes_lent : ComputesLent
unfolding read write words_at region_of lend_number least_power block_size_for region_bytes offset_in_region open_eighths subregions_out global_address slot_regions table_bytes inst_size term_size entry_size first_words tables_of count_trailing_zeros
computes_lent = refl

pub computes_loop : ComputesLoop
unfolding read write words_at region_of lend_number least_power block_size_for region_bytes offset_in_region open_eighths subregions_out global_address slot_regions table_bytes inst_size term_size entry_size first_words tables_of count_trailing_zeros
computes_loop = refl
