-- The image of a firmware by its needs, its graph of compartments, its plan and the board.
use Rattle.std.specs.Prelude.{ℕ, ◌-◌, List, replicate}
use Rattle.std.specs.List.{fold}
use Rattle.base_words.specs.Bytes.{write_all}
use Rattle.machine_devices.specs.declared.image.Image.{Image}
use Rattle.machine_devices.specs.declared.image.Window.{Window}
use Rattle.ir_model.specs.Resolved.{Program}
use Rattle.plan_model.specs.declared.needs.Needs.{Needs}
use Rattle.plan_model.specs.declared.graph.Final.{Final}
use Rattle.plan_model.specs.declared.plan.Plan.{Plan}
use Rattle.plan_model.specs.declared.plan.Board.{Board}
use Rattle.plan_model.specs.Lists.{numbers_below}
use Rattle.plan_model.specs.Placement.{compartment_spot, flash_used}
use Rattle.code_model.specs.Planned.{planned_code}
use Rattle.monitor_model.specs.declared.tables.Tables.{Tables}
use Rattle.monitor_model.specs.Layout.{head_at}
use Rattle.monitor_model.specs.Area.{area}
use Rattle.monitor_program.specs.Page.{page}
use Rattle.image_model.specs.LinkedTables.{tables_of}

-- erased flash reads as ones
abbrev pub erased : (size : ℕ) → List ℕ
erased size = replicate size 0xFF

-- with the monitor's page at the beginning of the tables' block, and the words of the tables behind it
abbrev pub with_tables : (flash_base : ℕ) → Tables → (flash : List ℕ) → List ℕ
with_tables base t flash = write_all 4 (head_at t - base) (area t) (write_all 1 (t.base - base) (page t) flash)

module _ (p : Program) (n : Needs) (f : Final) (l : Plan) where
  -- with the code of a compartment in its block
  abbrev pub with_code : (flash_base : ℕ) → (flash : List ℕ) → (compartment : ℕ) → List ℕ
  with_code base flash c = write_all 1 ((compartment_spot l c).base - base) (planned_code p n f l c) flash

  abbrev pub flash_of : Board → List ℕ
  flash_of b =
      fold (with_code b.flash_base) (with_tables b.flash_base (tables_of p n f l b) (erased (flash_used l))) (numbers_below f.groups.count)

  unfoldable pub linked : List Window → Board → Image
  linked windows b =
      record {
        flash_base = b.flash_base;
        flash = flash_of b;
        ram_base = b.ram_base;
        ram_size = b.ram_size;
        monitor = l.monitor.base;
        stack_base = l.stack.base;
        stack_size = l.stack.size;
        regions = b.regions;
        closed = b.closed;
        windows = windows;
      }
