-- What `symbols` prints of a firmware.
use Rattle.std.specs.Prelude.{◌≡◌, ℕ, List}
use Rattle.plan_model.specs.declared.policy.Policy.{Policy}
use Rattle.ir_model.specs.Plain.{PlainFirmware}
use Rattle.ir_model.specs.Resolve.{resolve}
use Rattle.plan_model.specs.declared.needs.Needs.{Needs}
use Rattle.plan_model.specs.declared.plan.Board.{Board}
use Rattle.plan_compartments.specs.Analyses.{AreNeedsOf}
use Rattle.plan_compartments.specs.Divisions.{division}
use Rattle.plan.specs.declared.planner.PlannedFirmware.{PlannedFirmware}
use Rattle.plan.specs.Planned.{IsPlannedFor}
use Rattle.image_symbols.specs.Symbols.{symbols}

-- the symbols of a firmware with these needs, this graph and this plan
abbrev pub symbols_for : PlainFirmware → Needs → PlannedFirmware → Board → List ℕ
symbols_for w n x b = symbols (record { firmware = w; program = resolve w; needs = n; graph = x.graph; plan = x.plan; board = b })

-- the symbols: the compartments are those of the policy by the needs on a board of its kind, no limit is passed, the graph is
-- the final one of these compartments, and the board has room for the blocks
pub record AreSymbols (policy : Policy) (w : PlainFirmware) (b : Board) (lines : List ℕ) : Type 0 where
  pub needs : Needs
  pub are_needs : AreNeedsOf w b.closed needs
  pub made : PlannedFirmware
  pub is_planned : IsPlannedFor (resolve w) needs (division policy w needs) b made
  pub same : lines ≡ symbols_for w needs made b
