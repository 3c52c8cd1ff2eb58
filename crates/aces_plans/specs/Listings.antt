-- What `list` prints of a firmware.
use Rattle.std.specs.Prelude.{◌≡◌, ℕ, List}
use Rattle.plan_model.specs.declared.policy.Policy.{Policy}
use Rattle.plan_model.specs.PolicyWords.{policy_word}
use Rattle.ir_model.specs.Plain.{PlainFirmware}
use Rattle.ir_model.specs.Resolve.{resolve}
use Rattle.plan_model.specs.declared.needs.Needs.{Needs}
use Rattle.plan_model.specs.declared.plan.Board.{Board}
use Rattle.plan_compartments.specs.Analyses.{AreNeedsOf}
use Rattle.plan_compartments.specs.Divisions.{division}
use Rattle.image_promises.specs.Needed.{IsBoundedByNeeds}
use Rattle.image_promises.specs.Policy.{RunsStayInPolicy}
use Rattle.plan.specs.declared.planner.PlannedFirmware.{PlannedFirmware}
use Rattle.plan.specs.Planned.{IsPlannedFor}
use Rattle.plan_report.specs.Listing.{listing}

-- the listing of a firmware with these needs, this graph and this plan
abbrev pub listing_for : Policy → PlainFirmware → Needs → PlannedFirmware → Board → List ℕ
listing_for policy w n x b =
    listing (record { firmware = w; program = resolve w; needs = n; graph = x.graph; plan = x.plan; board = b }) (policy_word policy)

-- the listing: the compartments are those of the policy by the needs on a board of its kind, no limit is passed, the graph is
-- the final one of these compartments, and the board has room for the blocks
pub record IsListing (policy : Policy) (w : PlainFirmware) (b : Board) (lines : List ℕ) : Type 0 where
  pub needs : Needs
  pub are_needs : AreNeedsOf w b.closed needs
  pub made : PlannedFirmware
  pub is_planned : IsPlannedFor (resolve w) needs (division policy w needs) b made
  -- that graph permits what a run of the source stores, accesses and calls, and on a closed board loads
  pub permitted : RunsStayInPolicy w needs made.graph
  -- each object that it lets a compartment write is one that its functions need, or one that is exposed: where a line says `exposed 0`, no global
  -- is exposed
  pub needed : IsBoundedByNeeds w needs made.graph b
  pub same : lines ≡ listing_for policy w needs made b
