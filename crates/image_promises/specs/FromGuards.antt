-- Beyond the program's claim: only laws, proofs and functions inside the tool cite this file.
-- What comes of plans whose stack is guarded: statements of laws.
use Rattle.std.specs.Prelude.{◌≡◌, ◌⊎◌}
use Rattle.ir_model.specs.Plain.{PlainFirmware}
use Rattle.ir_model.specs.Resolve.{resolve}
use Rattle.ir_laws.specs.Sets.{ObjectSets}
use Rattle.plan_model.specs.declared.needs.Needs.{Needs}
use Rattle.plan_model.specs.declared.graph.Final.{Final}
use Rattle.plan_model.specs.declared.plan.Board.{Board}
use Rattle.plan_model.specs.declared.plan.Lowest.TheVariants.{Stack}
use Rattle.plan_model.specs.Needs.{AreNeeds}
use Rattle.plan_model.specs.PointsTo.{IsLeast}
use Rattle.plan_layout_laws.specs.StackLowest.{IsStackLargest}
use Rattle.monitor_model.specs.Setting.{setting_of}
use Rattle.monitor_model.specs.Invariant.{Invariant}
use Rattle.monitor_program.specs.TheCode.{monitor_code}
use Rattle.image_promises.specs.Planned.{planned_image, planned_tables}
use Rattle.plan.specs.PlannedFirmwares.{IsPlanned}
use Rattle.refine.specs.NeverWrong.{RunsAreNeverWrong}
use Rattle.refine.specs.Guard.{IsGuarded, StackLaw}
use Rattle.image_promises.specs.Guarded.{IsStackGuarded, IsStackLowest, IsBehindMonitor}

abbrev pub GuardedPlansGuard : Type 0
GuardedPlansGuard = (w : PlainFirmware) (n : Needs) (f : Final) (b : Board) → IsPlanned w n f b → IsStackGuarded w n f b → IsGuarded (planned_image w n f b) (planned_tables w n f b)

abbrev pub LowestStacksAreGuarded : Type 0
LowestStacksAreGuarded = (w : PlainFirmware) (n : Needs) (f : Final) (b : Board) → IsStackLowest w n f b → IsStackGuarded w n f b

-- a stack is guarded where the board asks for it lowest, or no other block of RAM is larger
abbrev pub LargestStacksAreGuarded : Type 0
LargestStacksAreGuarded =
    (w : PlainFirmware) (n : Needs) (f : Final) (b : Board) → (b.lowest ≡ Stack) ⊎ IsStackLargest (resolve w) f b → IsStackGuarded w n f b

abbrev pub StacksBehindMonitorsAreGuarded : Type 0
StacksBehindMonitorsAreGuarded = (w : PlainFirmware) (n : Needs) (f : Final) (b : Board) → IsBehindMonitor w n f b → IsStackGuarded w n f b

abbrev pub GuardedStacksServe : Type 0
GuardedStacksServe =
    (w : PlainFirmware) (n : Needs) (f : Final) (b : Board) → IsPlanned w n f b → IsStackGuarded w n f b →
    StackLaw (setting_of monitor_code (planned_image w n f b) (planned_tables w n f b)) (Invariant (planned_image w n f b) (planned_tables w n f b))

-- the image of a planned firmware whose stack is guarded is never wrong, only stopped
abbrev pub GuardedImagesAreNeverWrong : Type 0
GuardedImagesAreNeverWrong =
    (w : PlainFirmware) (S : ObjectSets) (n : Needs) (f : Final) (b : Board) → IsPlanned w n f b → IsLeast (resolve w) S → AreNeeds (resolve w) S b.closed n → IsStackGuarded w n f b →
    RunsAreNeverWrong w f.groups (planned_image w n f b)
