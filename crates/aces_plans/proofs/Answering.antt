-- No answer to `list`, `symbols` and `stack` writes anything.
use Rattle.std.proofs.Common.{◌≡◌, ℕ, List, None, refl}
use Rattle.plan_model.specs.declared.policy.Policy.{Policy}
use Rattle.aces_files.specs.Outcomes.{Outcome}
use Rattle.aces_firmwares.proofs.Unplanned.{plan_writes_nothing}
use Rattle.aces_plans.specs.Answers.{ListAnswer, SymbolsAnswer, StackAnswers}
use Rattle.aces_plans.specs.Answers as answers

pub list_writes_nothing : (firmware board : List ℕ) (policy : Policy) (bytes text : List ℕ) (o : Outcome) → ListAnswer firmware board policy bytes text o → o.written ≡ None
list_writes_nothing firmware board policy bytes text o (answers.unplanned p h) = plan_writes_nothing firmware board policy bytes text o h
list_writes_nothing firmware board policy bytes text o (answers.listed w b lines h k l) = refl

pub symbols_write_nothing : (firmware board : List ℕ) (policy : Policy) (bytes text : List ℕ) (o : Outcome) → SymbolsAnswer firmware board policy bytes text o → o.written ≡ None
symbols_write_nothing firmware board policy bytes text o (answers.untold p h) = plan_writes_nothing firmware board policy bytes text o h
symbols_write_nothing firmware board policy bytes text o (answers.told w b lines h k l) = refl

pub stack_writes_nothing : (firmware board : List ℕ) (policy : Policy) (bytes text : List ℕ) (o : Outcome) → StackAnswers firmware board policy bytes text o → o.written ≡ None
stack_writes_nothing firmware board policy bytes text o (answers.no_firmware f h) = refl
stack_writes_nothing firmware board policy bytes text o (answers.no_board w f h k) = refl
stack_writes_nothing firmware board policy bytes text o (answers.too_many w b which count h k r) = refl
stack_writes_nothing firmware board policy bytes text o (answers.bounded w b a h k s) = refl
