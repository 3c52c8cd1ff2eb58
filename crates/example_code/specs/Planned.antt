-- Beyond the program's claim: only laws, proofs and functions inside the tool cite this file.
-- The control loop by its needs, its graph of compartments and its plan, where each file is a compartment.
use Rattle.std.specs.Prelude.{◌≡◌, ℕ, [], ◌∷◌, Some, None, false}
use Rattle.plan_model.specs.declared.needs.SiteNeed.{SiteNeed}
use Rattle.plan_model.specs.declared.needs.Needs.{Needs}
use Rattle.plan_model.specs.declared.graph.Final.{Final}
use Rattle.plan_model.specs.declared.plan.Plan.{Plan}
use Rattle.code_model.specs.Planned.{code_groups, code_places, sizes_of, planned_entry}
use Rattle.example_plan.specs.ControlLoop.{groups_by_file, groups_optimized, groups_by_periph}
use Rattle.example_plan.specs.LentLocal.{three_files, alone}
use Rattle.example_code.specs.Sensor.{sensor, by_file, clamp_moved, by_peripherals, at_files}
use Rattle.example_code.specs.Lent.{lending}

abbrev pub call : (func block place target : ℕ) → SiteNeed
call f b k t = record { func = f; block = b; inst = k; targets = t ∷ [] }

-- the calls of the control loop, and those of the firmware with a lent local
abbrev pub sensor_needs : Needs
sensor_needs = record { funcs = []; sites = call 0 1 0 1 ∷ call 0 1 1 2 ∷ call 2 0 6 3 ∷ call 2 0 7 4 ∷ []; lendable = []; closed = false }

abbrev pub lending_needs : Needs
lending_needs = record { funcs = []; sites = call 0 0 1 1 ∷ call 1 0 0 2 ∷ []; lendable = (0, 0) ∷ []; closed = false }

-- turns is written by compartment 0, and gain by none
abbrev pub graph : Final
graph =
    record {
      groups = groups_by_file;
      regions = record { globals = 1 ∷ []; writers = 0 ∷ []; readers = [] } ∷ [];
      unwritten = 0 ∷ [];
      covers =
          [] ∷ (record { base = 0x40012000; size = 1024 } ∷ []) ∷ (record { base = 0x40010000; size = 1024 } ∷ [])
          ∷ (record { base = 0x40010000; size = 1024 } ∷ []) ∷ [];
      masks = 0 ∷ 0 ∷ 0 ∷ 0 ∷ [];
      reads = 0 ∷ 0 ∷ 0 ∷ 0 ∷ [];
    }

abbrev pub plan : Plan
plan =
    record {
      tables = record { base = 0x08000000; size = 8192 };
      code =
          record { base = 0x08002000; size = 128 } ∷ record { base = 0x08002180; size = 64 }
          ∷ record { base = 0x08002080; size = 128 } ∷ record { base = 0x08002100; size = 128 } ∷ [];
      stack = record { base = 0x20000000; size = 2048 };
      monitor = record { base = 0x20000800; size = 1024 };
      regions = record { base = 0x20000C00; size = 32 } ∷ [];
      unwritten = Some (record { base = 0x20000C20; size = 32 });
    }

pub record ComputesPlanned : Type 0 where
  pub by_files : (code_groups sensor sensor_needs groups_by_file).sites ≡ by_file.sites
  pub by_moved : (code_groups sensor sensor_needs groups_optimized).sites ≡ clamp_moved.sites
  pub by_periphs : (code_groups sensor sensor_needs groups_by_periph).sites ≡ by_peripherals.sites
  -- tables: 4,096 and 32 bytes, 4 compartments of 48, 4 sites of 12 with a target of 8 each, 2 blocks of 12, and 2 words
  pub sizes : sizes_of sensor sensor_needs graph 4 ≡ record { code = 92 ∷ 36 ∷ 100 ∷ 124 ∷ []; tables = 4432 }
  pub places : code_places sensor sensor_needs graph plan ≡ at_files
  pub entry : planned_entry sensor sensor_needs graph plan 4 ≡ 0x08002140
  -- in an image of one compartment nothing is lent
  pub lends : (code_groups lending lending_needs three_files).lends ≡ (Some 0 ∷ []) ∷ [] ∷ [] ∷ []
  pub no_lends : (code_groups lending lending_needs alone).lends ≡ (None ∷ []) ∷ [] ∷ [] ∷ []
