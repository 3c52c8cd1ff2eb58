-- Answers to `explain` with a board write nothing, and end with 0 where nothing refuses a plan.
use Rattle.std.proofs.Common.{◌≡◌, ℕ, List, None, false, refl}
use Rattle.plan_model.specs.declared.policy.Policy.{Policy}
use Rattle.ir_model.specs.Plain.{PlainFirmware}
use Rattle.plan_model.specs.declared.plan.Board.{Board}
use Rattle.plan_board.specs.declared.fault.BoardFault.{BoardFault}
use Rattle.plan_board.specs.Reading as boards
use Rattle.plan.specs.declared.refusal.PlanningRefusal.TheVariants.{NoMemory, Limit, Denied, Room}
use Rattle.aces_reports.specs.declared.failure.Fault.TheVariants as faults
use Rattle.aces_reports.specs.Faults.{is_want_of_memory}
use Rattle.aces_files.specs.Outcomes.{Outcome, done}
use Rattle.aces_firmwares.specs.Firmwares.{IsFirmware}
use Rattle.aces_firmwares.specs.PlanAnswer as plans
use Rattle.aces_firmwares.specs.PlanAnswer.{PlanAnswer}
use Rattle.aces_explain.specs.Plans.{IsPlanTold, unplanned, planned, ExplainPlanAnswer, no_firmware, no_board, told}
use Rattle.aces_explain.proofs.Explainable.{explain_done}

pub explain_plan_writes_nothing : (firmware board : List ℕ) (policy : Policy) (bytes text : List ℕ) (o : Outcome) → ExplainPlanAnswer firmware board policy bytes text o → o.written ≡ None
explain_plan_writes_nothing firmware board policy bytes text o (no_firmware lines h) = refl
explain_plan_writes_nothing firmware board policy bytes text o (no_board w f h n k) = refl
explain_plan_writes_nothing firmware board policy bytes text o (told w b status lines h k p) = refl

module _ (firmware board : List ℕ) (policy : Policy) (bytes t : List ℕ) (none : (p : Outcome) → PlanAnswer firmware board policy bytes t p → ⊥) where
  -- a board's fault refuses a plan
  by_board : (w : PlainFirmware) (f : BoardFault) → IsFirmware w bytes → is_want_of_memory (faults.Board f) ≡ false → boards.IsFault t f → ⊥
  by_board w f h n k = none _ (plans.no_board w (faults.Board f) h (record { first = f; found = k; named = (refl, n) }))

  -- what is told of both has status 0
  by_plan : (w : PlainFirmware) (b : Board) (status : ℕ) (lines : List ℕ) → IsFirmware w bytes → boards.IsRead t b → IsPlanTold policy w b status lines → status ≡ 0
  by_plan w b status lines h k (planned p) = refl
  by_plan w b status lines h k (unplanned n NoMemory l a r x) = absurd x
  by_plan w b status lines h k (unplanned n (Limit which count) l a r x) = absurd (none _ (plans.too_many w b which count h k (record { needs = n; are_needs = a; refused = r })))
  by_plan w b status lines h k (unplanned n (Denied m) l a r x) = absurd (none _ (plans.meets_denied w b m h k (record { needs = n; are_needs = a; refused = r })))
  by_plan w b status lines h k (unplanned n (Room lack) l a r x) = absurd (none _ (plans.lacks_room w b lack h k (record { needs = n; are_needs = a; refused = r })))

  pub explain_plan_done : (o : Outcome) → ExplainPlanAnswer firmware board policy bytes t o → o.status ≡ 0
  explain_plan_done o (no_firmware lines h) = explain_done firmware bytes (done 1 lines None) (λ f k. none _ (plans.no_firmware f k)) h
  explain_plan_done o (no_board w f h n k) = absurd (by_board w f h n k)
  explain_plan_done o (told w b status lines h k p) = by_plan w b status lines h k p
