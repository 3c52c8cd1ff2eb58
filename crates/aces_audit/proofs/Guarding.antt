-- What a yes tells, from the answer; and what is printed of tables.
use Rattle.std.proofs.Common.{◌≡◌, ℕ, List, length, Some, None, refl, sym, ap, subst, ◌∙◌}
use Rattle.machine_devices.specs.declared.image.Image.{Image}
use Rattle.machine_devices.specs.Rules.{ObeysRules}
use Rattle.monitor_model.specs.declared.tables.Tables.{Tables}
use Rattle.monitor_model.specs.declared.sound.AuditCheck.{AuditCheck}
use Rattle.monitor_program.specs.TheCode.{monitor_code}
use Rattle.monitor_model.specs.Sound.{first_failure, Sound}
use Rattle.monitor_audit.specs.declared.answer.Audit.{Audit}
use Rattle.monitor_audit.specs.declared.answer.Audit.TheVariants.{Yes, No}
use Rattle.monitor_audit.specs.Answers.{own_tables, IsAudit}
use Rattle.aces_audit.specs.TableLines.{table_lines}
use Rattle.aces_files.specs.Outcomes.{done}
use Rattle.aces_audit.specs.AnswerLine.{answer_line}
use Rattle.aces_audit.specs.Guarded.{IsGuardedWhereYes, SoundImagesAreGuarded}
use Rattle.aces_audit.specs.Answers.{TablesAnswer, tables_text, told}
use Rattle.aces_audit.specs.Asking.{IsToldOf}

pub guarded : SoundImagesAreGuarded → (i : Image) (a : Audit) → ObeysRules i → IsAudit i a → IsGuardedWhereYes i a
guarded all i (Yes c s) rules is = all i (own_tables i) rules is.0
guarded all i (No check at) rules is = tt

-- the tables by which an image is sound are those of its flash
pub sound_told : SoundImagesAreGuarded → (i : Image) (t : Tables) (lines : List ℕ) → Sound monitor_code i t → lines ≡ table_lines i t → IsToldOf tables_text i (done 0 lines None)
sound_told all i t lines sound e image bytes is =
    let own = sound.tables in
    let whole = subst (Sound monitor_code i) own sound in
    subst (λ l. TablesAnswer image bytes (done 0 l None)) (sym (e ∙ ap (table_lines i) own))
    (told i (Yes (length (own_tables i).comps) (length (own_tables i).sites)) is (whole, refl, refl) (all i (own_tables i) is.rules whole))

pub failure_told : (i : Image) (check : AuditCheck) (at : ℕ) (lines : List ℕ) → first_failure monitor_code i (own_tables i) ≡ Some (record { check = check; at = at })
    → lines ≡ answer_line (No check at) → IsToldOf tables_text i (done 8 lines None)
failure_told i check at lines fails e image bytes is = subst (λ l. TablesAnswer image bytes (done 8 l None)) (sym e) (told i (No check at) is fails tt)
