-- Beyond the program's claim: only laws, proofs and functions inside the tool cite this file.
-- That a firmware within the limits is not refused for a limit: the statement of a law.
use Rattle.std.specs.Prelude.{ℕ}
use Rattle.plan_model.specs.declared.policy.Policy.{Policy}
use Rattle.ir_model.specs.Plain.{PlainFirmware}
use Rattle.plan_model.specs.declared.plan.Board.{Board}
use Rattle.plan_model.specs.declared.limits.LimitKind.{LimitKind}
use Rattle.plan.specs.declared.refusal.PlanningRefusal.TheVariants.{Limit}
use Rattle.plan_firmwares.specs.Unplanned.{IsRefusedBy}
use Rattle.aces_stack.specs.Limited.{KeepsLimitsBy}

abbrev pub LimitsExclude : Type 0
LimitsExclude =
    (policy : Policy) (w : PlainFirmware) (b : Board) (which : LimitKind) (count : ℕ) → KeepsLimitsBy policy w b → IsRefusedBy policy w b (Limit which count) → ⊥
