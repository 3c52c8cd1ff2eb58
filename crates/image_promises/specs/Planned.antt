-- The image of a firmware that is planned for a board, and its tables.
use Rattle.ir_model.specs.Plain.{PlainFirmware}
use Rattle.ir_model.specs.Resolve.{resolve}
use Rattle.ir_program.specs.Windows.{windows_of}
use Rattle.machine_devices.specs.declared.image.Image.{Image}
use Rattle.plan_model.specs.declared.needs.Needs.{Needs}
use Rattle.plan_model.specs.declared.graph.Final.{Final}
use Rattle.plan_model.specs.declared.plan.Board.{Board}
use Rattle.plan.specs.PlannedFirmwares.{plan}
use Rattle.monitor_model.specs.declared.tables.Tables.{Tables}
use Rattle.image_model.specs.LinkedTables.{tables_of}
use Rattle.image_model.specs.LinkedImage.{linked}

-- ---- a firmware `w` with its needs, its final graph and a board

module _ (w : PlainFirmware) (n : Needs) (f : Final) (b : Board) where
  -- the tables of its image, and the image
  abbrev pub planned_tables : Tables
  planned_tables = tables_of (resolve w) n f (plan w n f b) b

  abbrev pub planned_image : Image
  planned_image = linked (resolve w) n f (plan w n f b) (windows_of w) b
