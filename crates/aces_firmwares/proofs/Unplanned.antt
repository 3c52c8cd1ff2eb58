-- Firmwares that are not planned: the failure that is told is one of the answers, which writes nothing.
use Rattle.std.proofs.Common.{◌≡◌, inl, inr, ℕ, List, None, refl, sym, subst}
use Rattle.plan_model.specs.declared.policy.Policy.{Policy}
use Rattle.ir_model.specs.Plain.{PlainFirmware}
use Rattle.plan_model.specs.declared.plan.Board.{Board}
use Rattle.plan_board.specs.Reading.{IsRead}
use Rattle.plan.specs.declared.refusal.PlanningRefusal.{PlanningRefusal}
use Rattle.plan.specs.declared.refusal.PlanningRefusal.TheVariants.{NoMemory, Limit, Denied, Room}
use Rattle.plan_firmwares.specs.Unplanned.{IsUnplanned}
use Rattle.aces_reports.specs.declared.failure.Failure.{Failure}
use Rattle.aces_files.specs.Outcomes.{Outcome}
use Rattle.aces_files.specs.Loads.{IsRefusal, IsPlanningFailure, of_planning}
use Rattle.aces_firmwares.specs.Firmwares.{IsFirmware}
use Rattle.aces_firmwares.specs.PlanAnswer.{PlanAnswer, no_firmware, no_board, too_many, meets_denied, lacks_room}

-- the failure of a refusal, where memory does not run out for its line
pub refused_so : (A : Outcome → Type 0) (w : PlainFirmware) (b : Board) (r : PlanningRefusal) (e : Failure) → IsPlanningFailure w b r e → IsRefusal A (of_planning w b r) → IsRefusal A e
refused_so A w b r e (inl q) h = subst (IsRefusal A) (sym q) h
refused_so A w b r e (inr q) h = subst (IsRefusal A) (sym q) tt

-- a firmware that is not planned
unplanned : (firmware board : List ℕ) (policy : Policy) (bytes text : List ℕ) (w : PlainFirmware) (b : Board) → IsFirmware w bytes → IsRead text b
    → (r : PlanningRefusal) → IsUnplanned policy w b r → IsRefusal (PlanAnswer firmware board policy bytes text) (of_planning w b r)
unplanned firmware board policy bytes text w b f k NoMemory h = tt
unplanned firmware board policy bytes text w b f k (Limit which count) h = too_many w b which count f k h
unplanned firmware board policy bytes text w b f k (Denied m) h = meets_denied w b m f k h
unplanned firmware board policy bytes text w b f k (Room lack) h = lacks_room w b lack f k h

pub planning_refused : (firmware board : List ℕ) (policy : Policy) (bytes text : List ℕ) (w : PlainFirmware) (b : Board) → IsFirmware w bytes → IsRead text b
    → (r : PlanningRefusal) (e : Failure) → IsUnplanned policy w b r → IsPlanningFailure w b r e → IsRefusal (PlanAnswer firmware board policy bytes text) e
planning_refused firmware board policy bytes text w b f k r e h q =
    refused_so (PlanAnswer firmware board policy bytes text) w b r e q (unplanned firmware board policy bytes text w b f k r h)

-- a refusal of a plan writes nothing
pub plan_writes_nothing : (firmware board : List ℕ) (policy : Policy) (bytes text : List ℕ) (o : Outcome) → PlanAnswer firmware board policy bytes text o → o.written ≡ None
plan_writes_nothing firmware board policy bytes text o (no_firmware f h) = refl
plan_writes_nothing firmware board policy bytes text o (no_board w f h k) = refl
plan_writes_nothing firmware board policy bytes text o (too_many w b which count h k r) = refl
plan_writes_nothing firmware board policy bytes text o (meets_denied w b m h k r) = refl
plan_writes_nothing firmware board policy bytes text o (lacks_room w b lack h k r) = refl
