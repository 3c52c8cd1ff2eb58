-- Answers write no file, and end with 0 where nothing refuses a plan; `help` has one answer whatever is known of files.
use Rattle.std.proofs.Common.{◌≡◌, ℕ, List, None, refl}
use Rattle.plan_model.specs.declared.policy.Policy.{Policy}
use Rattle.aces_words.specs.Requests.{Origin}
use Rattle.aces_files.specs.Outcomes.{Outcome}
use Rattle.aces_firmwares.specs.PlanAnswer.{PlanAnswer}
use Rattle.aces_firmwares.proofs.Unplanned.{plan_writes_nothing}
use Rattle.aces_who.specs.Answers.{WhoAnswer, unplanned, told, AnswerToHelp, helped}

-- ---- who, on the bytes of both files

pub who_writes_nothing : (firmware board : List ℕ) (policy : Policy) (bytes text : List ℕ) (o : Outcome) → WhoAnswer firmware board policy bytes text o → o.written ≡ None
who_writes_nothing firmware board policy bytes text o (unplanned p h) = plan_writes_nothing firmware board policy bytes text o h
who_writes_nothing firmware board policy bytes text o (told w b lines h k l) = refl

pub who_done : (firmware board : List ℕ) (policy : Policy) (bytes t : List ℕ) (o : Outcome) → ((p : Outcome) → PlanAnswer firmware board policy bytes t p → ⊥)
    → WhoAnswer firmware board policy bytes t o → o.status ≡ 0
who_done firmware board policy bytes t o none (unplanned p h) = absurd (none o h)
who_done firmware board policy bytes t o none (told w b lines h k l) = refl

-- ---- help

pub help_also : (Has Had : Origin → List ℕ → Type 0) (Exceeds Exceeded : Origin → Type 0) (o : Outcome) → AnswerToHelp Has Exceeds o → AnswerToHelp Had Exceeded o
help_also Has Had Exceeds Exceeded o helped = helped

pub help_writes_nothing : (Has : Origin → List ℕ → Type 0) (Exceeds : Origin → Type 0) (o : Outcome) → AnswerToHelp Has Exceeds o → o.written ≡ None
help_writes_nothing Has Exceeds o helped = refl

pub good_help : (Has : Origin → List ℕ → Type 0) (Exceeds : Origin → Type 0) (o : Outcome) → AnswerToHelp Has Exceeds o → o.status ≡ 0
good_help Has Exceeds o helped = refl
