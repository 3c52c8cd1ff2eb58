-- The tables of an image, as they are read of its flash.
use Rattle.std.proofs.Common.{◌≡◌, drop, refl}
use Rattle.machine_devices.specs.declared.image.Image.{Image}
use Rattle.monitor_model.specs.declared.tables.Tables.{Tables}
use Rattle.monitor_model.specs.Layout.{page_size}
use Rattle.monitor_model.specs.MonitorCode.{MonitorCode}
use Rattle.monitor_model.specs.FromFlash.{tables_behind, tables_of}

abbrev pub read_from : MonitorCode → Image → Tables
read_from code i = tables_behind code i (drop page_size i.flash)

pub tables_are : (code : MonitorCode) (i : Image) → tables_of code i ≡ read_from code i
unfolding tables_of
tables_are code i = refl
