-- The image that a firmware gets for a board, and what is promised of it.
use Rattle.std.specs.Prelude.{◌≡◌, ◌⊎◌, ℕ, List}
use Rattle.machine_devices.specs.declared.image.Image.{Image}
use Rattle.machine_devices.specs.Rules.{ObeysRules}
use Rattle.ir_model.specs.Plain.{PlainFirmware}
use Rattle.ir_model.specs.Resolve.{resolve}
use Rattle.plan_model.specs.declared.groups.FuncFacts.{FuncFacts}
use Rattle.plan_model.specs.declared.groups.Groups.{Groups}
use Rattle.plan_model.specs.declared.needs.Needs.{Needs}
use Rattle.plan_model.specs.declared.graph.Final.{Final}
use Rattle.plan_model.specs.declared.plan.Board.{Board}
use Rattle.plan_model.specs.declared.plan.Lowest.TheVariants.{Stack}
use Rattle.plan_model.specs.Compartments.{compartments}
use Rattle.plan_model.specs.Facts.{facts}
use Rattle.plan_policies.specs.Callbacks.{AreAnswers}
use Rattle.plan_layout_laws.specs.StackLowest.{IsStackLargest}
use Rattle.machine_model.specs.Reset.{EachRun}
use Rattle.monitor_model.specs.declared.tables.Tables.{Tables}
use Rattle.monitor_model.specs.Confined.{Confined}
use Rattle.monitor_model.specs.Layout.{initial_word_count}
use Rattle.monitor_model.specs.MonitorLaw.{MonitorLaw}
use Rattle.monitor_model.specs.Starts.{Starts}
use Rattle.refine_model.specs.Refines.{Refines}
use Rattle.image_promises.specs.Planned.{planned_image, planned_tables}
use Rattle.plan.specs.PlannedFirmwares.{IsPlanned}
use Rattle.image_promises.specs.Permissions.{SlotsArePermitted}
use Rattle.image_promises.specs.Whole.{IsForBoard}
use Rattle.image_promises.specs.Needed.{IsBoundedByNeeds, MasksAreNeeded}
use Rattle.image_promises.specs.Policy.{RunsStayInPolicy}
use Rattle.monitor_runs.specs.Runs.{TellsWhoRuns}
use Rattle.machine_model.specs.State.{State}
use Rattle.image_runs.specs.Denied.{NoneIsDenied}
use Rattle.image_runs.specs.OtherCode.{WithOtherCode}
use Rattle.image_runs.specs.Isolated.{IsIsolated}
use Rattle.image_runs.specs.Own.{SlotsAreOwn}
use Rattle.image_runs.specs.Whole.{KeepsTheInvariant}
use Rattle.aces_compiler.specs.PrintedRuns.{RunsAreAlike}
use Rattle.refine.specs.NeverWrong.{RunsAreNeverWrong}
use Rattle.image_promises.specs.Guarded.{IsStackGuarded}

-- the image of a firmware as it is planned with these compartments. What is said of its runs holds on whatever device input, from whatever a
-- reset leaves, and also behind a fault of the source, whichever of its code its compartments execute then
pub record IsImageFor (w : PlainFirmware) (n : Needs) (b : Board) (g : Groups) (i : Image) : Type 0 where
  pub graph : Final
  pub groups : graph.groups ≡ g
  pub planned : IsPlanned w n graph b
  pub linked : i ≡ planned_image w n graph b
  pub rules : ObeysRules i
  pub board : IsForBoard w b i
  -- whose code runs, up to where its stack is open, which calls wait and what is lent changes in seven ways alone, and each tells where the
  -- thread goes on; calls come back to what was before; and on a closed board bytes that a compartment may not load have no effect on its
  -- next step
  pub moves : TellsWhoRuns i (planned_tables w n graph b)
  -- the bytes of a global stay while no compartment acts that may write it; those of the stack while they are closed to each compartment that
  -- acts; what is lent to one, its functions write; and each access of a peripheral is of one that the acting compartment may use
  pub isolated : EachRun i (IsIsolated w n graph b i (planned_tables w n graph b))
  -- no store for a compartment leaves its permission, and on a closed board no load
  pub confined : Confined i (planned_tables w n graph b)
  -- all of this holds whatever code its compartments execute: with any bytes in flash behind its tables, where all code of compartments stands
  pub moves_with_other_code : WithOtherCode TellsWhoRuns i (planned_tables w n graph b)
  pub isolated_with_other_code : WithOtherCode (λ (j : Image) (t : Tables). EachRun j (IsIsolated w n graph b j t)) i (planned_tables w n graph b)
  pub confined_with_other_code : WithOtherCode Confined i (planned_tables w n graph b)
  -- no byte that a compartment loads or stores, on either kind of board, is in a range that the board denies to all
  pub denied : WithOtherCode (λ (j : Image) (t : Tables). EachRun j (λ (first : State). NoneIsDenied j t first b.denied)) i (planned_tables w n graph b)
  -- that permission holds bytes of the objects that the compartment may write, of those that it may read, and padding
  pub permissions : SlotsArePermitted w n graph b
  -- that permission lies in the blocks of the compartment's own data regions; and of lent locals it has those that its functions write
  pub slots : SlotsAreOwn w n graph b
  pub masks : MasksAreNeeded w n graph b
  -- each object that a compartment may write is one that its functions need, or one that joins have exposed
  pub needed : IsBoundedByNeeds w n graph b
  -- what a run of the source stores, accesses and calls, and on a closed board loads, is permitted
  pub policy : RunsStayInPolicy w n graph
  -- the monitor: its handlers keep their law, with the stub by which calls return at some address; start-up leads to `main`; and the
  -- invariant holds whenever a compartment acts
  pub stub : ℕ
  pub law : MonitorLaw i (planned_tables w n graph b) stub
  pub starts : Starts i (planned_tables w n graph b) stub
  pub invariant : KeepsTheInvariant i (planned_tables w n graph b)
  -- where the source meets no fault and stays within its stack limit, the image makes the same accesses of peripherals, by the same
  -- compartments and in the same order, and ends exactly when the source does
  pub refines : Refines w n g b.stack (initial_word_count (planned_tables w n graph b)) i
  -- where no data region has a byte of the guard below the stack, it is never wrong, only stopped, whether the source stays within its stack
  -- limit or not: at each step its events are the first of the source's, and it ends where the source does, or for want of stack
  pub never_wrong : IsStackGuarded w n graph b → RunsAreNeverWrong w g i
  -- the stack is guarded where the board asks for it lowest in RAM, and where no other block of RAM is larger
  pub guarded : (b.lowest ≡ Stack) ⊎ IsStackLargest (resolve w) graph b → IsStackGuarded w n graph b
  -- where the source meets no fault and stays within its stack limit, `run` prints of the image the lines that `source` prints in these compartments
  pub alike : RunsAreAlike w n g b.stack (initial_word_count (planned_tables w n graph b)) i

-- the compartments of a firmware by the answers that a callback gives for its functions
pub record AreGroupsBy (w : PlainFirmware) (n : Needs) (answers : FuncFacts → ℕ → Type 0) (g : Groups) : Type 0 where
  pub groups : List ℕ
  pub answered : AreAnswers answers (facts w n) groups
  pub are : g ≡ compartments groups

-- the image in the compartments by these answers
pub record IsCompiled (w : PlainFirmware) (n : Needs) (b : Board) (answers : FuncFacts → ℕ → Type 0) (i : Image) : Type 0 where
  pub groups : Groups
  pub by_answers : AreGroupsBy w n answers groups
  pub image : IsImageFor w n b groups i
