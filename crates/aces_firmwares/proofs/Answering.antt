-- No answer to `check` and `source` writes anything.
use Rattle.std.proofs.Common.{◌≡◌, ℕ, List, None, refl}
use Rattle.plan_model.specs.declared.policy.Policy.{Policy}
use Rattle.aces_files.specs.Outcomes.{Outcome}
use Rattle.aces_firmwares.specs.Answers.{CheckAnswer, SourceAnswer, no_tape, ran, no_firmware, checked}

pub check_writes_nothing : (firmware bytes : List ℕ) (o : Outcome) → CheckAnswer firmware bytes o → o.written ≡ None
check_writes_nothing firmware bytes o (no_firmware f h) = refl
check_writes_nothing firmware bytes o (checked w h) = refl

pub source_writes_nothing : (firmware : List ℕ) (policy : Policy) (tape : List ℕ) (steps : ℕ) (bytes text : List ℕ) (o : Outcome)
    → SourceAnswer firmware policy tape steps bytes text o → o.written ≡ None
source_writes_nothing firmware policy tape steps bytes text o (no_firmware f h) = refl
source_writes_nothing firmware policy tape steps bytes text o (no_tape w f h k) = refl
source_writes_nothing firmware policy tape steps bytes text o (ran w compartments h k l) = refl
