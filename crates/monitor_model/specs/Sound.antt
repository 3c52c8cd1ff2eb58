-- When an image from anyone is sound: its flash has these tables, and none of the seven checks fails.
use Rattle.std.specs.Prelude.{◌≡◌, ℕ, Option, Some, None}
use Rattle.machine_devices.specs.declared.image.Image.{Image}
use Rattle.monitor_model.specs.declared.sound.AuditCheck.{AuditCheck}
use Rattle.monitor_model.specs.declared.sound.AuditCheck.TheVariants as check
use Rattle.monitor_model.specs.declared.tables.Tables.{Tables}
use Rattle.monitor_model.specs.MonitorCode.{MonitorCode}
use Rattle.monitor_model.specs.FromFlash.{tables_of}
use Rattle.monitor_model.specs.Checks.{header_fails, tables_fail, code_fails, regions_fail, sites_fail, lends_fail, inits_fail}

-- the first check that fails, and the address at which it does
pub record Failure : Type 0 where
  pub check : AuditCheck
  pub at : ℕ

-- this check where it fails, else the checks behind it
abbrev pub unless : AuditCheck → (fails_at : Option ℕ) → (later : Option Failure) → Option Failure
unless c (Some a) later = Some (record { check = c; at = a })
unless c None later = later

unfoldable pub first_failure : MonitorCode → Image → Tables → Option Failure
first_failure code i t =
    unless check.Header (header_fails i)
    (unless check.Tables (tables_fail i t)
    (unless check.Code (code_fails code.page i t)
    (unless check.Regions (regions_fail i t)
    (unless check.Sites (sites_fail t)
    (unless check.Lends (lends_fail t)
    (unless check.Inits (inits_fail i t) None))))))

pub record Sound (code : MonitorCode) (i : Image) (t : Tables) : Type 0 where
  pub tables : t ≡ tables_of code i
  pub none_fails : first_failure code i t ≡ None
