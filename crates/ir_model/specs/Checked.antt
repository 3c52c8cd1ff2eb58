-- Beyond the program's claim: only laws, proofs and functions inside the tool cite this file.
-- The programs of firmwares that pass the checks.
use Rattle.std.specs.Prelude.{◌≡◌}
use Rattle.ir_model.specs.Plain.{PlainFirmware}
use Rattle.ir_model.specs.Resolved.{Program}
use Rattle.ir_model.specs.Resolve.{resolve}
use Rattle.ir_model.specs.Canonical.{IsWithinLimits}
use Rattle.ir_model.specs.Typing.{IsTyped}

-- a program is that of a firmware that is typed and within the limits
pub record IsChecked (p : Program) : Type 0 where
  pub firmware : PlainFirmware
  pub typed : IsTyped firmware
  pub within : IsWithinLimits firmware
  pub is : p ≡ resolve firmware
