-- Beyond the program's claim: only laws, proofs and functions inside the tool cite this file.
-- The blocks of the control loop on an open board: the size of the tables, the plan, and the words of the slots.
use Rattle.std.specs.Prelude.{◌≡◌, List, [], ◌∷◌, false, Some, length}
use Rattle.machine_protection.specs.declared.region.Region.{Region}
use Rattle.plan_model.specs.declared.graph.Final.{Final}
use Rattle.plan_model.specs.declared.plan.Sizes.{Sizes}
use Rattle.plan_model.specs.declared.plan.Plan.{Plan}
use Rattle.plan_model.specs.Crossing.{crossing_sites, target_count, first_target}
use Rattle.plan_model.specs.FinalGraph.{as_final}
use Rattle.plan_model.specs.TableSize.{table_bytes}
use Rattle.plan_model.specs.FlashPlacement.{flash_needed}
use Rattle.plan_model.specs.RamPlacement.{ram_needed}
use Rattle.plan_model.specs.Placement.{plan_of, global_address}
use Rattle.plan_model.specs.Slots.{slot_regions, code_region}
use Rattle.example_plan.specs.Written.{spot, words, board}
use Rattle.example_plan.specs.ControlLoop.{program, needs, groups_by_file, groups_optimized, groups_by_periph}
use Rattle.example_plan.specs.ControlGraph.{graph}

abbrev pub final : Final
final = as_final graph

-- main has 92 bytes, adc_read 36, control 100, and the last file 64 + 60
abbrev pub sizes : Sizes
sizes = record { code = 92 ∷ 36 ∷ 100 ∷ 124 ∷ []; tables = 4432 }

abbrev pub plan : Plan
plan =
    record {
      tables = spot 0x08000000 8192;
      code = spot 0x08002000 128 ∷ spot 0x08002180 64 ∷ spot 0x08002080 128 ∷ spot 0x08002100 128 ∷ [];
      stack = spot 0x20000000 2048;
      monitor = spot 0x20000800 1024;
      regions = spot 0x20000c00 32 ∷ [];
      unwritten = Some (spot 0x20000c20 32);
    }

-- slots that are free, from a number on
abbrev pub free_from_5 : List Region
free_from_5 = words 0x15 0 ∷ words 0x16 0 ∷ words 0x17 0 ∷ []

pub record ComputesPlan : Type 0 where
  pub tables : table_bytes program (needs false) final 4 ≡ 4432
  pub blocks : plan_of program final sizes board ≡ plan
  pub flash : flash_needed sizes ≡ 8640
  pub ram : ram_needed program final board ≡ 3136
  pub sites : length (crossing_sites (needs false) groups_by_file) ≡ 4
  pub targets : target_count (crossing_sites (needs false) groups_by_file) ≡ 4
  pub third_site : first_target (crossing_sites (needs false) groups_by_file) 2 ≡ 2
  pub gain : global_address program final plan 0 ≡ 0x20000c20
  pub turns : global_address program final plan 1 ≡ 0x20000c00
  pub of_main : slot_regions program final plan 4 0 ≡ words 0x20000c14 0x13060009 ∷ free_from_5
  pub of_adc_read : slot_regions program final plan 4 1 ≡ words 0x40012014 0x13010013 ∷ free_from_5
  pub of_control : slot_regions program final plan 4 2 ≡ words 0x40010014 0x13010013 ∷ free_from_5
  pub code_of_main : code_region plan 0 ≡ words 0x08002012 0x0602000d

-- under the other policies: `clamp` beside `control`, and `clamp` beside `main`, `coil_set` beside `control`
pub record ComputesOtherPolicies : Type 0 where
  pub optimized : flash_needed (record { code = 92 ∷ 36 ∷ 164 ∷ 60 ∷ []; tables = 4412 }) ≡ 8704
  pub optimized_sites : target_count (crossing_sites (needs false) groups_optimized) ≡ 3
  pub by_periph_sites : target_count (crossing_sites (needs false) groups_by_periph) ≡ 3
