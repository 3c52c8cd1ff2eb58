-- Answers: each image has one, and a sound one is answered yes.
use Rattle.std.proofs.Common.{◌≡◌, ℕ, length, Option, Some, None, sym, ap, ap₂, ◌∙◌, subst}
use Rattle.monitor_model.specs.declared.sound.AuditCheck.{AuditCheck}
use Rattle.monitor_model.specs.declared.tables.Tables.{Tables}
use Rattle.monitor_program.specs.TheCode.{monitor_code}
use Rattle.monitor_model.specs.Sound.{Failure, first_failure, Sound}
use Rattle.monitor_audit.specs.declared.answer.Audit.{Audit}
use Rattle.monitor_audit.specs.declared.answer.Audit.TheVariants.{Yes, No}
use Rattle.monitor_audit.specs.Answers.{own_tables}
use Rattle.monitor_audit.specs.Laws.{AnswersAreUnique, SoundImagesAreAnsweredYes}

-- a failure is none
not_none : (f : Failure) → Some f ≡ None → ⊥
not_none f e = cc

abbrev audit_of : Option Failure → Audit
audit_of None = Yes 0 0
audit_of (Some f) = No f.check f.at

same_failure : (o : Option Failure) (c d : AuditCheck) (a b : ℕ) → o ≡ Some (record { check = c; at = a }) → o ≡ Some (record { check = d; at = b }) → No c a ≡ No d b
same_failure o c d a b e f = sym (ap audit_of e) ∙ ap audit_of f

pub answers_are_unique : AnswersAreUnique
answers_are_unique i (Yes c s) (Yes d u) p q = ap₂ Yes (p.1 ∙ sym q.1) (p.2 ∙ sym q.2)
answers_are_unique i (Yes c s) (No d b) p q = absurd (not_none (record { check = d; at = b }) (sym q ∙ p.0.none_fails))
answers_are_unique i (No c a) (Yes d u) p q = absurd (not_none (record { check = c; at = a }) (sym p ∙ q.0.none_fails))
answers_are_unique i (No c a) (No d b) p q = same_failure (first_failure monitor_code i (own_tables i)) c d a b p q

pub sound_images_are_answered_yes : SoundImagesAreAnsweredYes
sound_images_are_answered_yes i t a s p =
    let e = s.tables in
    let own : Sound monitor_code i (own_tables i) = subst (Sound monitor_code i) e s in
    answers_are_unique i a (Yes (length t.comps) (length t.sites)) p (own, ap (λ (t : Tables). length t.comps) e, ap (λ (t : Tables). length t.sites) e)
