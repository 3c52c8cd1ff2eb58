-- What a yes tells of an image: whoever made it, and whatever code its compartments execute, it is held to the tables in its flash.
use Rattle.machine_devices.specs.declared.image.Image.{Image}
use Rattle.monitor_model.specs.declared.tables.Tables.{Tables}
use Rattle.monitor_program.specs.TheCode.{monitor_code}
use Rattle.monitor_model.specs.Confined.{Confined}
use Rattle.monitor_model.specs.Promises.{OfSoundImages}
use Rattle.machine_model.specs.Reset.{EachRun}
use Rattle.monitor_runs.specs.Runs.{TellsWhoRuns}
use Rattle.monitor_runs.specs.Stays.{KeepsMemory}
use Rattle.monitor_audit.specs.declared.answer.Audit.{Audit}
use Rattle.monitor_audit.specs.declared.answer.Audit.TheVariants.{Yes, No}
use Rattle.monitor_audit.specs.Answers.{own_tables}

pub record IsGuarded (i : Image) (t : Tables) : Type 0 where
  -- no store for a compartment leaves what the tables let it write, and on a closed board no load what they let it read
  pub confined : Confined i t
  -- whose code runs changes by calls that the tables name and by returns alone, and calls come back to their callers; on a closed board
  -- what a compartment may not read does nothing to it
  pub who_runs : TellsWhoRuns i t
  -- a byte of RAM stays while no compartment acts that the tables let change it, and each access of a peripheral is in a slot of the compartment
  -- that makes it
  pub memory : EachRun i (KeepsMemory i t)

abbrev pub IsGuardedWhereYes : Image → Audit → Type 0
IsGuardedWhereYes i (Yes compartments sites) = IsGuarded i (own_tables i)
IsGuardedWhereYes i (No check at) = Unit {0}

-- every sound image is guarded
abbrev pub SoundImagesAreGuarded : Type 0
SoundImagesAreGuarded = OfSoundImages monitor_code IsGuarded
