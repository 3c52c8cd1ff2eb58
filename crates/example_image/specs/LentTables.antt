-- Beyond the program's claim: only laws, proofs and functions inside the tool cite this file.
-- The tables of a firmware of three compartments in which `main` lends a local, by its needs, its graph and its plan.
use Rattle.std.specs.Prelude.{◌≡◌, [], ◌∷◌, None}
use Rattle.plan_model.specs.declared.graph.Final.{Final}
use Rattle.plan_model.specs.declared.plan.Plan.{Plan}
use Rattle.example_plan.specs.Written.{board}
use Rattle.example_plan.specs.LentLocal.{three_files}
use Rattle.example_code.specs.Lent.{lending}
use Rattle.example_code.specs.Planned.{lending_needs}
use Rattle.example_monitor.specs.LentImage as model
use Rattle.image_model.specs.LinkedTables.{tables_of}

abbrev pub graph : Final
graph =
    record {
      groups = three_files;
      regions = [];
      unwritten = [];
      covers = (record { base = 0x40010000; size = 1024 } ∷ []) ∷ [] ∷ [] ∷ [];
      masks = 0 ∷ 0 ∷ 1 ∷ [];
      reads = 0 ∷ 0 ∷ 0 ∷ [];
    }

abbrev pub plan : Plan
plan =
    record {
      tables = record { base = 0x08000000; size = 8192 };
      code = record { base = 0x08002000; size = 128 } ∷ record { base = 0x08002080; size = 32 } ∷ record { base = 0x080020A0; size = 32 } ∷ [];
      stack = record { base = 0x20000000; size = 2048 };
      monitor = record { base = 0x20000800; size = 1024 };
      regions = [];
      unwritten = None;
    }

abbrev pub ComputesLent : Type 0
ComputesLent = tables_of lending lending_needs graph plan board ≡ model.tables
