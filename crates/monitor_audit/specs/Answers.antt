-- The answer to an image.
use Rattle.std.specs.Prelude.{◌≡◌, length, Option, Some, None}
use Rattle.machine_devices.specs.declared.image.Image.{Image}
use Rattle.monitor_model.specs.declared.tables.Tables.{Tables}
use Rattle.monitor_program.specs.TheCode.{monitor_code}
use Rattle.monitor_model.specs.FromFlash.{tables_of}
use Rattle.monitor_model.specs.Sound.{Failure, first_failure, Sound as IsSound}
use Rattle.monitor_model.specs.Confined.{Confined}
use Rattle.monitor_audit.specs.declared.answer.Audit.{Audit}
use Rattle.monitor_audit.specs.declared.answer.Audit.TheVariants.{Yes, No}
use Rattle.monitor_audit.specs.declared.answer.FailedCheck.{FailedCheck}
use Rattle.monitor_audit.specs.declared.answer.Audited.{Audited}
use Rattle.monitor_audit.specs.declared.answer.Audited.TheVariants.{Sound, Unsound}

-- the tables that its flash has
abbrev pub own_tables : Image → Tables
own_tables i = tables_of monitor_code i

-- yes to a sound image alone, with the counts of its tables; else the first check that fails, and where
abbrev pub IsAudit : Image → Audit → Type 0
IsAudit i (Yes c s) = IsSound monitor_code i (own_tables i) × (c ≡ length (own_tables i).comps) × (s ≡ length (own_tables i).sites)
IsAudit i (No check at) = first_failure monitor_code i (own_tables i) ≡ Some (record { check = check; at = at })

-- what a yes tells
abbrev pub IsConfinedWhereYes : Image → Audit → Type 0
IsConfinedWhereYes i (Yes c s) = Confined i (own_tables i)
IsConfinedWhereYes i (No check at) = Unit {0}

-- ---- the tables themselves, where no check fails

abbrev pub failure_of : Option FailedCheck → Option Failure
failure_of None = None
failure_of (Some f) = Some (record { check = f.check; at = f.at })

abbrev pub IsAudited : Image → Audited → Type 0
IsAudited i (Sound t) = IsSound monitor_code i t
IsAudited i (Unsound f) = first_failure monitor_code i (own_tables i) ≡ failure_of (Some f)
