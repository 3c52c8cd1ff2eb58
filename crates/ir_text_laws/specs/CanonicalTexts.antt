-- Beyond the program's claim: only laws, proofs and functions inside the tool cite this file.
-- What the canonical text of a firmware says.
use Rattle.std.specs.Prelude.{◌≡◌}
use Rattle.ir_model.specs.Plain.{PlainFirmware}
use Rattle.ir_model.specs.Canonical.{canonical, IsWithinLimits}
use Rattle.ir_model.specs.Texts.{IsText}

-- the canonical text of a firmware within the limits is a text of that firmware, and of no other
abbrev pub CanonicalTextsAreOwn : Type 0
CanonicalTextsAreOwn = (v w : PlainFirmware) → IsWithinLimits w → (v ≡ w → IsText v (canonical w)) × (IsText v (canonical w) → v ≡ w)
