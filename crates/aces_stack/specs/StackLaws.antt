-- Where a bound on the stack fits, no run leaves the stack's limit: statements of laws.
use Rattle.std.specs.Prelude.{ℕ, List, Bool}
use Rattle.base_ranges.specs.Ranges.{IsPowerBetween}
use Rattle.machine_devices.specs.declared.image.Image.{Image}
use Rattle.machine_devices.specs.Rules.{least_stack, greatest_stack}
use Rattle.ir_model.specs.Plain.{PlainFirmware}
use Rattle.ir_model.specs.Resolve.{resolve}
use Rattle.ir_model.specs.Runs.{source_after}
use Rattle.ir_model.specs.Canonical.{IsWithinLimits}
use Rattle.ir_model.specs.Typing.{IsTyped}
use Rattle.ir_laws.specs.Sets.{ObjectSets, Closed}
use Rattle.plan_model.specs.declared.needs.Needs.{Needs}
use Rattle.plan_model.specs.declared.groups.Groups.{Groups}
use Rattle.plan_model.specs.Needs.{AreNeeds}
use Rattle.plan_model.specs.CompileLimits.{KeepsLimits}
use Rattle.refine_model.specs.StackLimit.{IsWithinStack}
use Rattle.refine_model.specs.Refines.{Refines}
use Rattle.ir_model.specs.Resolved.{Program}
use Rattle.ir_model.specs.Types.{PlainType}
use Rattle.ir_laws.specs.Typed.{Typed}
use Rattle.need_laws.specs.Checked.{AreSets}
use Rattle.refine_stack.specs.Paths.{SitesAreThere}
use Rattle.refine_stack.specs.Bounds.{FitsStack}
use Rattle.aces_stack.specs.Whole.{RefinesWhole}

-- a firmware that passes the checks, its needs by sets that no step leaves, and compartments of which no limit is passed, where there is
-- a bound of at most the stack's size
pub record IsBounded (w : PlainFirmware) (n : Needs) (g : Groups) (stack : ℕ) : Type 0 where
  pub typed : IsTyped w
  pub within : IsWithinLimits w
  pub sets : ObjectSets
  pub closed_sets : Closed (resolve w) sets
  pub closed : Bool
  pub needs : AreNeeds (resolve w) sets closed n
  pub limits : KeepsLimits n g
  pub size : IsPowerBetween least_stack greatest_stack stack
  pub fits : FitsStack (resolve w) n g stack

-- in every run, of whatever compartments and input, every state is within the stack's limit, up to a fault too
abbrev pub StaysWithin : PlainFirmware → Needs → Groups → (stack : ℕ) → Type 0
StaysWithin w n g stack =
    (compartments : List ℕ) (queues : List (List ℕ)) (steps : ℕ) → IsWithinStack (resolve w) n g stack (source_after (resolve w) compartments queues steps)

abbrev pub BoundedRunsStayWithin : Type 0
BoundedRunsStayWithin = (w : PlainFirmware) (n : Needs) (g : Groups) (stack : ℕ) → IsBounded w n g stack → StaysWithin w n g stack

-- so the premise on the stack falls away
abbrev pub BoundedFirmwaresAreRefined : Type 0
BoundedFirmwaresAreRefined =
    (w : PlainFirmware) (n : Needs) (g : Groups) (stack words : ℕ) (i : Image) → IsBounded w n g stack → Refines w n g stack words i → RefinesWhole w g words i

-- the functions of the calls of a typed program are there
abbrev pub NeedsHaveFunctions : Type 0
NeedsHaveFunctions =
    (p : Program) (sizes : PlainType → ℕ) (S : ObjectSets) (closed : Bool) (n : Needs) → Typed p sizes → AreSets p S → AreNeeds p S closed n → SitesAreThere p n
