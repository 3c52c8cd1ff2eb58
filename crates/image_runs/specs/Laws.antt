-- Beyond the program's claim: only laws, proofs and functions inside the tool cite this file.
-- What stays of an image with other code: statements of laws.
use Rattle.std.specs.Prelude.{◌≡◌, ℕ, ◌+◌, ◌<◌, List, length}
use Rattle.machine_devices.specs.declared.image.Image.{Image}
use Rattle.machine_devices.specs.Rules.{ObeysRules}
use Rattle.monitor_model.specs.declared.tables.Tables.{Tables}
use Rattle.monitor_model.specs.Layout.{page_size}
use Rattle.monitor_model.specs.MonitorCode.{MonitorCode}
use Rattle.monitor_model.specs.Promises.{OfSoundImages}
use Rattle.monitor_model.specs.Sound.{Sound}
use Rattle.monitor_program.specs.TheCode.{monitor_code}
use Rattle.image_runs.specs.OtherCode.{with_flash, WithOtherCode}

-- an image with other bytes of as many is one that obeys the rules
abbrev pub RulesStay : Type 0
RulesStay = (i : Image) (flash : List ℕ) → ObeysRules i → length flash ≡ length i.flash → ObeysRules (with_flash i flash)

-- a sound image stays sound with the same tables, whatever the monitor's code is, as long as its pages are full and name `main` inside
pub record HasPages (code : MonitorCode) : Type 0 where
  pub full : (t : Tables) → length (code.page t) ≡ page_size
  pub entry : code.main_entry_at + 8 < page_size
  pub compartment : code.main_compartment_at + 8 < page_size

abbrev pub SoundnessStays : Type 0
SoundnessStays = (code : MonitorCode) (i : Image) (t : Tables) → HasPages code → Sound code i t → WithOtherCode (Sound code) i t

-- the image obeys the rules, and the monitor's own code and these tables make it sound: all that is asked where something is promised of
-- every sound image
pub record IsSound (i : Image) (t : Tables) : Type 0 where
  pub rules : ObeysRules i
  pub sound : Sound monitor_code i t

-- a sound image stays sound with other code, and what holds of every sound image holds of it then
abbrev pub SoundImagesStaySound : Type 0
SoundImagesStaySound = OfSoundImages monitor_code (WithOtherCode IsSound)
