-- Beyond the program's claim: only laws, proofs and functions inside the tool cite this file.
-- The law that a simulation takes, of placed tables.
use Rattle.std.specs.Prelude.{◌≡◌, ◌-◌, ◌%◌}
use Rattle.machine_devices.specs.declared.image.Image.{Image}
use Rattle.machine_devices.specs.Rules.{block_size}
use Rattle.base_laws.specs.Lists.{Each}
use Rattle.base_ranges.specs.Ranges.{IsInside, AreApart}
use Rattle.monitor_model.specs.declared.tables.InitRecord.{InitRecord}
use Rattle.monitor_model.specs.declared.tables.Tables.{Tables}
use Rattle.monitor_model.specs.MonitorCode.{MonitorCode}
use Rattle.monitor_model.specs.Placed.{Placed}
use Rattle.monitor_model.specs.Invariant.{Invariant}
use Rattle.monitor_model.specs.MonitorLaw.{MonitorLaw}
use Rattle.monitor_model.specs.Starts.{Starts}
use Rattle.monitor_model.specs.Setting.{setting_of}
use Rattle.monitor_model.specs.Law.{Law}
use Rattle.monitor_model.specs.Promises.{RangesAreApart}
use Rattle.monitor_sound.specs.Accesses.{StubStands}

-- a range of whole words in RAM, off the monitor's block
pub record IsRange (i : Image) (t : Tables) (n : InitRecord) : Type 0 where
  pub whole : (n.end - n.at) % 4 ≡ 0
  pub in_ram : IsInside n.at (n.end - n.at) i.ram_base i.ram_size
  pub off_block : AreApart n.at (n.end - n.at) t.monitor block_size

abbrev pub PlacedLawsServeSimulation : Type 0
PlacedLawsServeSimulation =
    (code : MonitorCode) (i : Image) (t : Tables) → Placed i t → StubStands i t (code.stub t) → Each (IsRange i t) t.inits →
    MonitorLaw i t (code.stub t) → Starts i t (code.stub t) → RangesAreApart t.inits → Law (setting_of code i t) (Invariant i t)
