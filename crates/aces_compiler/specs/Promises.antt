-- Beyond the program's claim: only laws, proofs and functions inside the tool cite this file.
-- All that is promised of images: the statement of a law.
use Rattle.need_laws.specs.Checked.{LeastSetsServe}
use Rattle.image_promises.specs.Regions.{ImagesObeyRules}
use Rattle.image_promises.specs.Permissions.{SlotsHoldPermissions}
use Rattle.image_promises.specs.Whole.{PlannedImagesAreForBoards, PlannedImagesAreConfined, PlannedImagesRefine}
use Rattle.image_promises.specs.Needed.{PlannedMasksAreNeeded, PlannedPermissionsAreBounded}
use Rattle.image_promises.specs.Policy.{PlannedRunsStayInPolicy}
use Rattle.image_promises.specs.FromGuards.{GuardedImagesAreNeverWrong, LargestStacksAreGuarded}
use Rattle.image_runs.specs.Denied.{PlannedRunsKeepOff}
use Rattle.image_runs.specs.Laws.{RulesStay}
use Rattle.image_runs.specs.ReplacedCode.{CodeKeepsTables, PlannedImagesKeepPromises, PlannedImagesStayIsolated}
use Rattle.image_runs.specs.Isolated.{PlannedRunsAreIsolated}
use Rattle.image_runs.specs.Own.{PlannedSlotsAreOwn}
use Rattle.image_runs.specs.Whole.{PlannedImagesKeepTheInvariant, PlannedImagesKeepTheLaw, PlannedImagesStart, PlannedImagesTellWhoRuns}
use Rattle.aces_compiler.specs.PrintedRuns.{RefiningImagesAreAlike}

-- what holds of the image of each planned firmware, and of what is planned and written to it
pub record Promises : Type 0 where
  pub serve : LeastSetsServe
  pub rules : ImagesObeyRules
  pub board : PlannedImagesAreForBoards
  pub moves : PlannedImagesTellWhoRuns
  pub isolated : PlannedRunsAreIsolated
  pub confined : PlannedImagesAreConfined
  pub rules_stay : RulesStay
  pub kept : CodeKeepsTables
  pub keep : PlannedImagesKeepPromises
  pub stay_isolated : PlannedImagesStayIsolated
  pub off : PlannedRunsKeepOff
  pub permissions : SlotsHoldPermissions
  pub slots : PlannedSlotsAreOwn
  pub masks : PlannedMasksAreNeeded
  pub needed : PlannedPermissionsAreBounded
  pub policy : PlannedRunsStayInPolicy
  pub law : PlannedImagesKeepTheLaw
  pub starts : PlannedImagesStart
  pub invariant : PlannedImagesKeepTheInvariant
  pub refined : PlannedImagesRefine
  pub never_wrong : GuardedImagesAreNeverWrong
  pub guarded : LargestStacksAreGuarded
  pub alike : RefiningImagesAreAlike
