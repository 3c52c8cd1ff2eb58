-- Beyond the program's claim: only laws, proofs and functions inside the tool cite this file.
-- The image that a firmware gets for a board where one compartment has other code, and why it gets none.
use Rattle.std.specs.Prelude.{◌≡◌, ℕ, ◌<◌, ◌≤◌, List, length}
use Rattle.machine_devices.specs.declared.image.Image.{Image}
use Rattle.machine_devices.specs.Rules.{ObeysRules}
use Rattle.ir_model.specs.Plain.{PlainFirmware}
use Rattle.ir_model.specs.Resolve.{resolve}
use Rattle.plan_model.specs.declared.groups.FuncFacts.{FuncFacts}
use Rattle.plan_model.specs.declared.groups.Groups.{Groups}
use Rattle.plan_model.specs.declared.needs.Needs.{Needs}
use Rattle.plan_model.specs.declared.graph.Final.{Final}
use Rattle.plan_model.specs.declared.plan.Board.{Board}
use Rattle.plan_model.specs.Placement.{compartment_spot}
use Rattle.monitor_model.specs.Confined.{Confined}
use Rattle.image_promises.specs.Planned.{planned_image, planned_tables}
use Rattle.plan.specs.PlannedFirmwares.{IsPlanned, plan}
use Rattle.image_promises.specs.Whole.{IsForBoard}
use Rattle.machine_model.specs.Reset.{EachRun}
use Rattle.monitor_runs.specs.Runs.{TellsWhoRuns}
use Rattle.image_runs.specs.Isolated.{IsIsolated}
use Rattle.plan.specs.declared.refusal.PlanningRefusal.TheVariants as planning
use Rattle.plan.specs.Refusals.{IsPlanningRefusal}
use Rattle.image_runs.specs.OtherCode.{with_flash}
use Rattle.image_runs.specs.ReplacedCode.{with_block}
use Rattle.aces_compiler.specs.declared.replacing.CodeRefusal.{CodeRefusal}
use Rattle.aces_compiler.specs.declared.replacing.CodeRefusal.TheVariants.{NoMemory, Refused, Compartment, Length}
use Rattle.aces_compiler.specs.Compiled.{AreGroupsBy}

-- the firmware planned for the board in these compartments
pub record HasPlan (w : PlainFirmware) (n : Needs) (b : Board) (g : Groups) : Type 0 where
  pub graph : Final
  pub groups : graph.groups ≡ g
  pub planned : IsPlanned w n graph b

-- the linked image in all but the block of that compartment, which has this code and is erased behind it; by the tables that were linked
-- it is confined, tells who runs, and is isolated
pub record IsImageWithCode (w : PlainFirmware) (n : Needs) (b : Board) (g : Groups) (c : ℕ) (code : List ℕ) (i : Image) : Type 0 where
  pub has_plan : HasPlan w n b g
  pub there : c < g.count
  pub fits : length code ≤ (compartment_spot (plan w n has_plan.graph b) c).size
  pub image : i ≡ with_flash (planned_image w n has_plan.graph b) (with_block (plan w n has_plan.graph b) b.flash_base c code (planned_image w n has_plan.graph b).flash)
  pub rules : ObeysRules i
  pub board : IsForBoard w b i
  pub confined : Confined i (planned_tables w n has_plan.graph b)
  pub moves : TellsWhoRuns i (planned_tables w n has_plan.graph b)
  pub isolated : EachRun i (IsIsolated w n has_plan.graph b i (planned_tables w n has_plan.graph b))

-- the code is longer than the block
pub record IsTooLong (w : PlainFirmware) (n : Needs) (b : Board) (g : Groups) (c : ℕ) (code : List ℕ) : Type 0 where
  pub has_plan : HasPlan w n b g
  pub there : c < g.count
  pub longer : (compartment_spot (plan w n has_plan.graph b) c).size < length code

-- there is a plan and no such compartment
pub record IsBeyond (w : PlainFirmware) (n : Needs) (b : Board) (g : Groups) (c : ℕ) : Type 0 where
  pub has_plan : HasPlan w n b g
  pub beyond : g.count ≤ c

-- a refusal for want of memory says nothing else
abbrev pub IsGroupsRefusal : PlainFirmware → Needs → Board → Groups → (compartment : ℕ) → (code : List ℕ) → CodeRefusal → Type 0
IsGroupsRefusal w n b g c code NoMemory = Unit {0}
IsGroupsRefusal w n b g c code (Refused r) = IsPlanningRefusal (resolve w) n g b r × (r ≡ planning.NoMemory → ⊥)
IsGroupsRefusal w n b g c code Compartment = IsBeyond w n b g c
IsGroupsRefusal w n b g c code Length = IsTooLong w n b g c code

-- the image with other code in a compartment, where the compartments are those by the answers that a callback gives
pub record IsCompiledWithCode (w : PlainFirmware) (n : Needs) (b : Board) (answers : FuncFacts → ℕ → Type 0) (c : ℕ) (code : List ℕ) (i : Image) : Type 0 where
  pub groups : Groups
  pub by_answers : AreGroupsBy w n answers groups
  pub image : IsImageWithCode w n b groups c code i

pub record IsRefusedWithCode (w : PlainFirmware) (n : Needs) (b : Board) (answers : FuncFacts → ℕ → Type 0) (c : ℕ) (code : List ℕ) (r : CodeRefusal) : Type 0 where
  pub groups : Groups
  pub by_answers : AreGroupsBy w n answers groups
  pub refused : IsGroupsRefusal w n b groups c code r

abbrev pub IsCodeRefusal : PlainFirmware → Needs → Board → (answers : FuncFacts → ℕ → Type 0) → (compartment : ℕ) → (code : List ℕ) → CodeRefusal → Type 0
IsCodeRefusal w n b answers c code NoMemory = Unit {0}
IsCodeRefusal w n b answers c code r = IsRefusedWithCode w n b answers c code r
