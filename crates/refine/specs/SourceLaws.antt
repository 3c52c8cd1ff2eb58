-- Beyond the program's claim: only laws, proofs and functions inside the tool cite this file.
-- The laws of typed firmwares and of their runs that the refinement rests on.
use Rattle.ir_laws.specs.Cells.{CellsAreAligned, CellsAreFound}
use Rattle.ir_laws.specs.Laws.{CellsOfTypes}
use Rattle.ir_laws.specs.Limits.{WindowsLieApart}
use Rattle.ir_laws.specs.Moves.{FramesMove}
use Rattle.ir_laws.specs.Runs.{ValuesStayInSets, NumbersAreWords, PointersAreOfObjects, ElementsAreSmall, ContentsAreWhole, ReturnsAgreeWithCalls, AccessesAreInSets}
use Rattle.ir_laws.specs.Typed.{TypedOverNumbers}
use Rattle.need_laws.specs.Laws.{RunningFrameStaysInNeeds, CallsStayInside, OtherLocalsAreLendable, LendableLocalsHaveNumbers}
use Rattle.code_lower_laws.specs.Fitting.{TypedFunctionsFit}

pub record SourceLaws : Type 0 where
  -- of firmwares
  pub typed : TypedOverNumbers
  pub cells : CellsOfTypes
  pub aligned : CellsAreAligned
  pub found : CellsAreFound
  pub windows : WindowsLieApart
  pub functions : TypedFunctionsFit
  -- of runs
  pub values : ValuesStayInSets
  pub numbers : NumbersAreWords
  pub pointers : PointersAreOfObjects
  pub elements : ElementsAreSmall
  pub contents : ContentsAreWhole
  pub returns : ReturnsAgreeWithCalls
  pub accesses : AccessesAreInSets
  pub moves : FramesMove
  -- of needs
  pub listed : RunningFrameStaysInNeeds
  pub inside : CallsStayInside
  pub own : OtherLocalsAreLendable
  pub numbered : LendableLocalsHaveNumbers
