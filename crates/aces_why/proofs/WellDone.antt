-- A good request has no outcome but the one that says that all was done.
use Rattle.std.proofs.Common.{◌≡◌, ℕ, List, refl}
use Rattle.aces_reports.specs.declared.failure.Fault.{Fault}
use Rattle.aces_files.specs.Outcomes.{Outcome}
use Rattle.aces_firmwares.specs.Firmwares.{IsNoFirmware}
use Rattle.aces_why.specs.Answers.{WhyAnswer, no_firmware, told}

-- where the bytes have no fault, the lines were told
pub why_done : (firmware bytes : List ℕ) (o : Outcome) → ((f : Fault) → IsNoFirmware bytes f → ⊥) → WhyAnswer firmware bytes o → o.status ≡ 0
why_done firmware bytes o faultless (no_firmware f h) = absurd (faultless f h)
why_done firmware bytes o faultless (told w lines h k) = refl
