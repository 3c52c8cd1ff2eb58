-- By files that have no fault, where a run stands has no outcome but the one that says that all was done.
use Rattle.std.proofs.Common.{◌≡◌, ℕ, List, refl}
use Rattle.aces_reports.specs.declared.failure.Fault.{Fault}
use Rattle.plan_model.specs.declared.policy.Policy.{Policy}
use Rattle.ir_model.specs.Plain.{PlainFirmware}
use Rattle.ir_program.specs.Windows.{windows_of}
use Rattle.aces_files.specs.Contents.{IsNoTape}
use Rattle.aces_files.specs.Outcomes.{Outcome}
use Rattle.aces_firmwares.specs.Firmwares.{IsNoFirmware, IsFirmware}
use Rattle.aces_where.specs.Answers.{WhereAnswer, no_firmware, no_tape, stands}

-- bytes and a text that have no fault as a firmware and as a tape for it
pub record IsFaultless (bytes text : List ℕ) : Type 0 where
  pub firmware : (f : Fault) → IsNoFirmware bytes f → ⊥
  pub tape : (w : PlainFirmware) (f : Fault) → IsFirmware w bytes → IsNoTape (windows_of w) text f → ⊥

pub where_done : (firmware : List ℕ) (policy : Policy) (tape : List ℕ) (limit : ℕ) (bytes text : List ℕ) (o : Outcome) → IsFaultless bytes text
    → WhereAnswer firmware policy tape limit bytes text o → o.status ≡ 0
where_done firmware policy tape limit bytes text o g (no_firmware f h) = absurd (g.firmware f h)
where_done firmware policy tape limit bytes text o g (no_tape w f h k) = absurd (g.tape w f h k)
where_done firmware policy tape limit bytes text o g (stands w compartments lines h n a t) = refl
