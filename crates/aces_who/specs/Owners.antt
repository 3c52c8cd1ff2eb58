-- What `who` prints of a firmware.
use Rattle.std.specs.Prelude.{◌≡◌, ℕ, List}
use Rattle.plan_model.specs.declared.policy.Policy.{Policy}
use Rattle.ir_model.specs.Plain.{PlainFirmware}
use Rattle.ir_model.specs.Resolve.{resolve}
use Rattle.plan_model.specs.declared.needs.Needs.{Needs}
use Rattle.plan_model.specs.declared.plan.Board.{Board}
use Rattle.plan_compartments.specs.Analyses.{AreNeedsOf}
use Rattle.plan_compartments.specs.Divisions.{division}
use Rattle.plan.specs.declared.planner.PlannedFirmware.{PlannedFirmware}
use Rattle.plan.specs.Planned.{IsPlannedFor}
use Rattle.plan_report.specs.Subjects.{Subject}
use Rattle.aces_who.specs.Laws.{ExposuresAddUp, ExposedAreUnneeded}
use Rattle.aces_who.specs.WhoLines.{who_lines}

-- a firmware with these needs, this graph and this plan, on a board
abbrev pub subject_for : PlainFirmware → Needs → PlannedFirmware → Board → Subject
subject_for w n x b = record { firmware = w; program = resolve w; needs = n; graph = x.graph; plan = x.plan; board = b }

abbrev pub owners_for : Policy → PlainFirmware → Needs → PlannedFirmware → Board → List ℕ
owners_for policy w n x b = who_lines (subject_for w n x b) policy

-- the lines: as in a listing (`IsListing`), the compartments are those of the policy by the needs on a board of its kind, no limit is passed, the
-- graph is the final one of these compartments, and the board has room for the blocks
pub record AreOwners (policy : Policy) (w : PlainFirmware) (b : Board) (lines : List ℕ) : Type 0 where
  pub needs : Needs
  pub are_needs : AreNeedsOf w b.closed needs
  pub made : PlannedFirmware
  pub is_planned : IsPlannedFor (resolve w) needs (division policy w needs) b made
  pub same : lines ≡ owners_for policy w needs made b
  -- a global is told as exposed exactly where the graph lets the compartment reach it and none of its functions needs it, and the bytes of
  -- these globals are together both numbers of the compartment's line `exposed` in the listing
  pub exposed : (c x : ℕ) → ExposedAreUnneeded (subject_for w needs made b) c x
  pub sums : (c : ℕ) → ExposuresAddUp (subject_for w needs made b) c
