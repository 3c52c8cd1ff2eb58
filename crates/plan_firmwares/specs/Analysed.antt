-- Beyond the program's claim: only laws, proofs and functions inside the tool cite this file.
-- What a firmware is analysed to, and how that is planned.
use Rattle.std.specs.Prelude.{◌≡◌, Bool}
use Rattle.plan_model.specs.declared.policy.Policy.{Policy}
use Rattle.ir_model.specs.Plain.{PlainFirmware}
use Rattle.ir_model.specs.Resolve.{resolve}
use Rattle.ir_program.specs.Seen.{program_of}
use Rattle.plan_model.specs.declared.plan.Board.{Board}
use Rattle.plan_model.specs.Compartments.{AreCompartments}
use Rattle.plan_compartments.specs.Analyses.{AreNeedsOf}
use Rattle.plan_compartments.specs.Divisions.{division}
use Rattle.plan.specs.declared.planner.PlannedFirmware.{PlannedFirmware}
use Rattle.plan.specs.declared.refusal.PlanningRefusal.{PlanningRefusal}
use Rattle.plan.specs.Planned.{IsPlannedFor}
use Rattle.plan.specs.Refusals.{IsPlanningRefusal}
use Rattle.plan_firmwares.specs.declared.analysis.Analysis.{Analysis}

-- the program is that of the firmware, the needs are its own by the least sets on a board of the kind, and the compartments are those of the
-- policy by them, numbered as those of any policy
pub record IsAnalysisOf (policy : Policy) (w : PlainFirmware) (closed : Bool) (a : Analysis) : Type 0 where
  pub program : program_of a.program ≡ resolve w
  pub needs : AreNeedsOf w closed a.needs
  pub groups : a.groups ≡ division policy w a.needs
  pub compartments : AreCompartments (resolve w) a.groups

-- the plan of what is analysed, whichever firmware, policy and kind of board that is by
pub record IsPlanBy (policy : Policy) (w : PlainFirmware) (a : Analysis) (b : Board) (x : PlannedFirmware) : Type 0 where
  pub planned : IsPlannedFor (resolve w) a.needs (division policy w a.needs) b x
  pub compartments : AreCompartments (resolve w) x.graph.groups

abbrev pub IsPlanOf : Analysis → Board → PlannedFirmware → Type 0
IsPlanOf a b x = (policy : Policy) (w : PlainFirmware) → IsAnalysisOf policy w b.closed a → IsPlanBy policy w a b x

-- the reason why there is no such plan
abbrev pub IsRefusalOf : Analysis → Board → PlanningRefusal → Type 0
IsRefusalOf a b r = (policy : Policy) (w : PlainFirmware) → IsAnalysisOf policy w b.closed a → IsPlanningRefusal (resolve w) a.needs (division policy w a.needs) b r
