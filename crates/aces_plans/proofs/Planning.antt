-- What `stack` answers, by what is found.
use Rattle.std.proofs.Common.{◌≡◌, ℕ, List, None, sym, subst}
use Rattle.plan_model.specs.declared.policy.Policy.{Policy}
use Rattle.ir_model.specs.Plain.{PlainFirmware}
use Rattle.plan_model.specs.declared.plan.Board.{Board}
use Rattle.plan_board.specs.Reading.{IsRead}
use Rattle.plan.specs.declared.refusal.PlanningRefusal.{PlanningRefusal}
use Rattle.plan.specs.declared.refusal.PlanningRefusal.TheVariants.{NoMemory, Limit, Denied, Room}
use Rattle.aces_reports.specs.declared.failure.Failure.{Failure}
use Rattle.aces_firmwares.specs.Firmwares.{IsFirmware}
use Rattle.aces_firmwares.proofs.Unplanned.{refused_so}
use Rattle.aces_stack.specs.Limited.{IsLimited}
use Rattle.aces_stack.specs.Lines.{stack_lines, stack_status}
use Rattle.refine_stack.specs.declared.answer.StackAnswer.{StackAnswer}
use Rattle.aces_stack.specs.Bounded.{IsStackBy}
use Rattle.aces_files.specs.Outcomes.{done}
use Rattle.aces_plans.specs.Answers.{StackAnswers, bounded}
use Rattle.aces_plans.specs.Answers as answers
use Rattle.aces_files.specs.Loads.{IsRefusal, IsPlanningFailure, of_planning}

-- a firmware of which a limit is passed
limited : (firmware board : List ℕ) (policy : Policy) (bytes text : List ℕ) (w : PlainFirmware) (b : Board) → IsFirmware w bytes → IsRead text b
    → (r : PlanningRefusal) → IsLimited policy w b r → IsRefusal (StackAnswers firmware board policy bytes text) (of_planning w b r)
limited firmware board policy bytes text w b f k NoMemory h = tt
limited firmware board policy bytes text w b f k (Limit which count) h = answers.too_many w b which count f k h
limited firmware board policy bytes text w b f k (Denied m) h = absurd h
limited firmware board policy bytes text w b f k (Room lack) h = absurd h

pub limits_refused : (firmware board : List ℕ) (policy : Policy) (bytes text : List ℕ) (w : PlainFirmware) (b : Board) → IsFirmware w bytes → IsRead text b
    → (r : PlanningRefusal) (e : Failure) → IsLimited policy w b r → IsPlanningFailure w b r e → IsRefusal (StackAnswers firmware board policy bytes text) e
limits_refused firmware board policy bytes text w b f k r e h q =
    refused_so (StackAnswers firmware board policy bytes text) w b r e q (limited firmware board policy bytes text w b f k r h)

-- what is told of an answer on a firmware's stack
pub answer_told : (firmware board : List ℕ) (policy : Policy) (bytes text : List ℕ) (w : PlainFirmware) (b : Board) (a : StackAnswer) (status : ℕ) (lines : List ℕ) → IsFirmware w bytes
    → IsRead text b → IsStackBy policy w b a → status ≡ stack_status b.stack a → lines ≡ stack_lines w b.stack a → StackAnswers firmware board policy bytes text (done status lines None)
answer_told firmware board policy bytes text w b a status lines f k is p q =
    subst (λ (x : ℕ). StackAnswers firmware board policy bytes text (done x lines None)) (sym p)
    (subst (λ (y : List ℕ). StackAnswers firmware board policy bytes text (done (stack_status b.stack a) y None)) (sym q) (bounded w b a f k is))
