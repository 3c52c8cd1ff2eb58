-- No answer to `audit` and `tables` writes anything, and each ends with 0 or 8 once the image is read.
use Rattle.std.proofs.Common.{◌≡◌, ◌⊎◌, inl, inr, ℕ, List, None, refl}
use Rattle.machine_devices.specs.declared.image.Image.{Image}
use Rattle.monitor_audit.specs.declared.answer.Audit.{Audit}
use Rattle.monitor_audit.specs.declared.answer.Audit.TheVariants.{Yes, No}
use Rattle.aces_reports.specs.declared.failure.Fault.{Fault}
use Rattle.aces_files.specs.Contents.{IsNoImage}
use Rattle.aces_files.specs.Outcomes.{Outcome}
use Rattle.aces_audit.specs.AnswerLine.{answer_status}
use Rattle.aces_audit.specs.Answers.{ImageAnswer, no_image, told}

-- the status of an answer says yes or no
yes_or_no : (a : Audit) → (answer_status a ≡ 0) ⊎ (answer_status a ≡ 8)
yes_or_no (Yes compartments sites) = inl refl
yes_or_no (No check at) = inr refl

-- these hold whichever text is printed
module _ (text : Image → Audit → List ℕ) (image bytes : List ℕ) where
  pub image_writes_nothing : (o : Outcome) → ImageAnswer text image bytes o → o.written ≡ None
  image_writes_nothing o (no_image f h) = refl
  image_writes_nothing o (told i a h k g) = refl

  -- the bytes are those of an image: they have no fault
  pub image_done : (o : Outcome) → ((f : Fault) → IsNoImage bytes f → ⊥) → ImageAnswer text image bytes o → (o.status ≡ 0) ⊎ (o.status ≡ 8)
  image_done o no_fault (no_image f h) = absurd (no_fault f h)
  image_done o no_fault (told i a h k g) = yes_or_no a
