-- The laws of sound images, of the image of every planned firmware.
use Rattle.machine_devices.specs.Rules.{ObeysRules}
use Rattle.machine_model.specs.Reset.{EachRun}
use Rattle.monitor_model.specs.Promises.{OfSoundImages, HandlersKeepTheLaw, ImagesStart}
use Rattle.monitor_program.specs.TheCode.{monitor_code}
use Rattle.image_promises.specs.Laws.{OfPlanned}
use Rattle.image_promises.specs.Planned.{planned_image, planned_tables}
use Rattle.image_promises.specs.Whole.{PlannedImagesAreForBoards, PlannedImagesAreSound}
use Rattle.monitor_runs.specs.Stays.{KeepsMemory}
use Rattle.monitor_runs.specs.Runs.{TellsWhoRuns}
use Rattle.image_runs.specs.Isolated.{KeptRunsAreIsolated, PlannedRunsAreIsolated}
use Rattle.image_runs.specs.Whole.{PlannedImagesKeepTheLaw, PlannedImagesStart, PlannedImagesKeepTheInvariant, PlannedImagesTellWhoRuns}

abbrev pub RunsKeepMemory : Type 0
RunsKeepMemory = OfSoundImages monitor_code (λ i t. EachRun i (KeepsMemory i t))

module _ (sound : PlannedImagesAreSound) (rules : OfPlanned (λ i t. ObeysRules i)) where
  pub keep_the_law : HandlersKeepTheLaw monitor_code → PlannedImagesKeepTheLaw
  keep_the_law law w n f b is = law (planned_image w n f b) (planned_tables w n f b) (rules w n f b is) (sound w n f b is)

  pub all_start : ImagesStart monitor_code → PlannedImagesStart
  all_start law w n f b is = law (planned_image w n f b) (planned_tables w n f b) (rules w n f b is) (sound w n f b is)

  pub keep_the_invariant : RunsKeepMemory → PlannedImagesKeepTheInvariant
  keep_the_invariant law w n f b is queues first reset =
      (law (planned_image w n f b) (planned_tables w n f b) (rules w n f b is) (sound w n f b is) queues first reset).invariant

  pub tell_who_runs : OfSoundImages monitor_code TellsWhoRuns → PlannedImagesTellWhoRuns
  tell_who_runs tell w n f b is = tell (planned_image w n f b) (planned_tables w n f b) (rules w n f b is) (sound w n f b is)

  pub are_isolated : PlannedImagesAreForBoards → RunsKeepMemory → KeptRunsAreIsolated → PlannedRunsAreIsolated
  are_isolated boards law isolated w n f b is queues first reset =
      isolated w n f b is (planned_image w n f b) (rules w n f b is) (boards w n f b is) first
      (law (planned_image w n f b) (planned_tables w n f b) (rules w n f b is) (sound w n f b is) queues first reset)
