-- What the cases of a source step rest on.
use Rattle.std.proofs.Common.{ℕ, List}
use Rattle.machine_model.specs.RunningCode.{Context}
use Rattle.ir_model.specs.Types.{PlainType}
use Rattle.ir_model.specs.Resolved.{global_at, local_at, cells_of_global, cells_of_local}
use Rattle.ir_laws.specs.Cells.{HasCells, CellsAreFound}
use Rattle.ir_laws.specs.Limits.{HasWindows}
use Rattle.ir_laws.specs.Laws.{IsLaidOut}
use Rattle.ir_laws.specs.Sets.{ObjectSets}
use Rattle.ir_laws.specs.Typed.{Typed}
use Rattle.ir_laws.specs.Runs.{NumbersAreWords, PointersAreOfObjects, ElementsAreSmall, ContentsAreWhole, ReturnsAgreeWithCalls, AccessesAreInSets}
use Rattle.plan_model.specs.Needs.{AreNeeds}
use Rattle.need_laws.specs.Laws.{RunningFrameStaysInNeeds, OtherLocalsAreLendable, LendableLocalsHaveNumbers, CallsStayInside}
use Rattle.monitor_model.specs.Block.{MonitorBlock}
use Rattle.monitor_model.specs.Law.{Law}
use Rattle.refine.specs.CodeLaws.{CodeLaws}
use Rattle.refine.specs.Builds.{Build}
use Rattle.refine.specs.Linked.{Linked}
use Rattle.refine.proofs.Facts.{Facts}

pub record Premises (k : Build) (Inv : MonitorBlock → Context → List ℕ → Type 0) (sizes : PlainType → ℕ) (S : ObjectSets) : Type 0 where
  pub law : Law k.setting Inv
  pub facts : Facts k
  pub linked : Linked k
  pub laws : CodeLaws
  -- the firmware and its needs
  pub typed : Typed k.program sizes
  pub needs : AreNeeds k.program S k.needs.closed k.needs
  pub cells : HasCells k.program
  pub windows : HasWindows k.program
  pub laid_globals : (x : ℕ) → IsLaidOut 0 (global_at k.program x).shape.size (cells_of_global k.program x)
  pub laid_locals : (f l : ℕ) → IsLaidOut 0 (local_at k.program f l).size (cells_of_local k.program f l)
  -- laws of source states
  pub found : CellsAreFound
  pub numbers : NumbersAreWords
  pub pointers : PointersAreOfObjects
  pub elements : ElementsAreSmall
  pub contents : ContentsAreWhole
  pub returns : ReturnsAgreeWithCalls
  pub accesses : AccessesAreInSets
  pub listed : RunningFrameStaysInNeeds
  pub inside : CallsStayInside
  pub own : OtherLocalsAreLendable
  pub numbered : LendableLocalsHaveNumbers
