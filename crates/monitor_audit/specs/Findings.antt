-- Beyond the program's claim: only laws, proofs and functions inside the tool cite this file.
-- What is found in the flash of an image.
use Rattle.std.specs.Prelude.{◌≡◌, Some, None}
use Rattle.machine_devices.specs.declared.image.Image.{Image}
use Rattle.monitor_program.specs.TheCode.{monitor_code}
use Rattle.monitor_model.specs.FromFlash.{tables_of}
use Rattle.monitor_model.specs.Checks.{tables_fail}
use Rattle.monitor_audit.specs.declared.tables.Found.{Found}
use Rattle.monitor_audit.specs.declared.tables.Found.TheVariants.{Tables, Fault}

-- the tables that an image's flash has, where their check does not fail; else where it fails first
abbrev pub IsFound : Image → Found → Type 0
IsFound i (Tables t) = (t ≡ tables_of monitor_code i) × (tables_fail i t ≡ None)
IsFound i (Fault a) = tables_fail i (tables_of monitor_code i) ≡ Some a
