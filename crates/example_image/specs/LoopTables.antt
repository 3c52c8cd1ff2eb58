-- Beyond the program's claim: only laws, proofs and functions inside the tool cite this file.
-- The words of the tables of a control loop in four files: one global that its first compartment writes, and one that none writes.
use Rattle.std.specs.Prelude.{◌≡◌, ℕ, List, [], ◌∷◌}
use Rattle.monitor_model.specs.Area.{area}
use Rattle.example_plan.specs.Written.{board}
use Rattle.example_code.specs.Sensor.{sensor}
use Rattle.example_code.specs.Planned.{sensor_needs, graph, plan}
use Rattle.image_model.specs.LinkedTables.{tables_of}

-- counts and places; four compartments; four sites, of which those of `control` are the last two; a target each; two blocks that
-- start-up fills; the first values of turns and gain
abbrev pub words : List ℕ
words =
    4 ∷ 4 ∷ 4 ∷ 0 ∷ 2 ∷ 0x20000000 ∷ 0x800 ∷ 0x20000800
    ∷ 0x08002012 ∷ 0x0602000D ∷ 0x20000C14 ∷ 0x13060009 ∷ 21 ∷ 0 ∷ 22 ∷ 0 ∷ 23 ∷ 0 ∷ 0 ∷ 0
    ∷ 0x08002192 ∷ 0x0602000B ∷ 0x40012014 ∷ 0x13010013 ∷ 21 ∷ 0 ∷ 22 ∷ 0 ∷ 23 ∷ 0 ∷ 0 ∷ 0
    ∷ 0x08002092 ∷ 0x0602000D ∷ 0x40010014 ∷ 0x13010013 ∷ 21 ∷ 0 ∷ 22 ∷ 0 ∷ 23 ∷ 0 ∷ 0 ∷ 0
    ∷ 0x08002112 ∷ 0x0602000D ∷ 0x40010014 ∷ 0x13010013 ∷ 21 ∷ 0 ∷ 22 ∷ 0 ∷ 23 ∷ 0 ∷ 0 ∷ 0
    ∷ 0x08002032 ∷ 0 ∷ 1
    ∷ 0x08002042 ∷ 1 ∷ 1
    ∷ 0x080020CE ∷ 2 ∷ 1
    ∷ 0x080020DE ∷ 3 ∷ 1
    ∷ 0x08002181 ∷ 1
    ∷ 0x08002081 ∷ 2
    ∷ 0x08002101 ∷ 3
    ∷ 0x08002141 ∷ 3
    ∷ 0x20000C00 ∷ 0x20000C04 ∷ 0x08001148
    ∷ 0x20000C20 ∷ 0x20000C24 ∷ 0x0800114C
    ∷ 0 ∷ 3
    ∷ []

abbrev pub ComputesLoop : Type 0
ComputesLoop = area (tables_of sensor sensor_needs graph plan board) ≡ words
