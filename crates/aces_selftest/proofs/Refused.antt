-- A generated firmware that is not compiled.
use Rattle.std.proofs.Common.{◌≡◌, ℕ, Some, None, inl, inr, sym, subst, ◌∙◌}
use Rattle.aces_reports.specs.declared.failure.Failure.{Failure}
use Rattle.plan_model.specs.declared.policy.Policy.TheVariants.{Filename}
use Rattle.aces_files.specs.Loads.{IsRefusal, IsPlanningFailure, of_planning}
use Rattle.plan_denials.specs.declared.Meeting.{Meeting}
use Rattle.plan_firmwares.specs.Unplanned.{IsUnplanned}
use Rattle.ir_generator.specs.Made.{made}
use Rattle.ir_model.specs.Plain.{PlainFirmware}
use Rattle.ir_model.specs.Resolve.{resolve}
use Rattle.plan.specs.declared.refusal.PlanningRefusal.{PlanningRefusal}
use Rattle.plan.specs.declared.refusal.PlanningRefusal.TheVariants.{NoMemory, Limit, Denied, Room}
use Rattle.aces_selftest.specs.TestBoard.{test_board}
use Rattle.aces_selftest.specs.Answers.{SelftestAnswer, too_many, lacks_room}
use Rattle.aces_selftest.proofs.Boards.{keeps_off}

-- the board of self-tests denies nothing
never_denied : (w : PlainFirmware) (m : Meeting) → IsUnplanned Filename w test_board (Denied m) → ⊥
never_denied w m h = let wrong : None ≡ Some m = sym (keeps_off (resolve w) h.refused.graph) ∙ h.refused.meets in cc

unplanned : (seed size : ℕ) (r : PlanningRefusal) → IsUnplanned Filename (made seed size) test_board r
    → IsRefusal (SelftestAnswer seed size) (of_planning (made seed size) test_board r)
unplanned seed size NoMemory h = tt
unplanned seed size (Limit which count) h = too_many which count h
unplanned seed size (Denied m) h = absurd (never_denied (made seed size) m h)
unplanned seed size (Room lack) h = lacks_room lack h

pub refused : (seed size : ℕ) (r : PlanningRefusal) (e : Failure) → IsUnplanned Filename (made seed size) test_board r
    → IsPlanningFailure (made seed size) test_board r e → IsRefusal (SelftestAnswer seed size) e
refused seed size r e h (inl q) = subst (IsRefusal (SelftestAnswer seed size)) (sym q) (unplanned seed size r h)
refused seed size r e h (inr q) = subst (IsRefusal (SelftestAnswer seed size)) (sym q) tt
