-- Why a firmware has no plan, by the bytes of its files: what `list`, `compile` and `symbols` are refused for.
use Rattle.std.specs.Prelude.{ℕ, List}
use Rattle.aces_reports.specs.declared.failure.Fault.{Fault}
use Rattle.plan_layout.specs.declared.refusal.Lack.{Lack}
use Rattle.plan_model.specs.declared.policy.Policy.{Policy}
use Rattle.ir_model.specs.Plain.{PlainFirmware}
use Rattle.plan_model.specs.declared.plan.Board.{Board}
use Rattle.plan_model.specs.declared.limits.LimitKind.{LimitKind}
use Rattle.plan_denials.specs.declared.Meeting.{Meeting}
use Rattle.plan_report.specs.Lines.{meeting_text}
use Rattle.plan_board.specs.Reading as boards
use Rattle.plan.specs.declared.refusal.PlanningRefusal.TheVariants as planning
use Rattle.plan_firmwares.specs.Unplanned.{IsRefusedBy}
use Rattle.aces_files.specs.Contents.{IsNoBoard}
use Rattle.aces_files.specs.Outcomes.{Outcome, refused, past_limit, denied, no_room}
use Rattle.aces_firmwares.specs.Firmwares.{IsNoFirmware, IsFirmware}

-- why a firmware has no plan on a board by a policy, by the bytes of both files: the firmware is read and checked first, then the board is
-- read; the limits of what is compiled come next, then what the board denies, the room in flash, and the room in RAM
pub data PlanAnswer (firmware board : List ℕ) (policy : Policy) (bytes text : List ℕ) : Outcome → Type 0 where
  no_firmware : (f : Fault) → IsNoFirmware bytes f → PlanAnswer firmware board policy bytes text (refused firmware f)
  no_board : (w : PlainFirmware) (f : Fault) → IsFirmware w bytes → IsNoBoard text f → PlanAnswer firmware board policy bytes text (refused board f)
  too_many : (w : PlainFirmware) (b : Board) (which : LimitKind) (count : ℕ) → IsFirmware w bytes → boards.IsRead text b →
      IsRefusedBy policy w b (planning.Limit which count) → PlanAnswer firmware board policy bytes text (past_limit which count)
  meets_denied : (w : PlainFirmware) (b : Board) (m : Meeting) → IsFirmware w bytes → boards.IsRead text b →
      IsRefusedBy policy w b (planning.Denied m) → PlanAnswer firmware board policy bytes text (denied (meeting_text w b m))
  lacks_room : (w : PlainFirmware) (b : Board) (lack : Lack) → IsFirmware w bytes → boards.IsRead text b →
      IsRefusedBy policy w b (planning.Room lack) → PlanAnswer firmware board policy bytes text (no_room lack)
