-- Beyond the program's claim: only laws, proofs and functions inside the tool cite this file.
-- What is promised of the monitor, each as one statement, and how they rest on one another. `code` is the monitor's own code.
use Rattle.std.specs.Prelude.{List, [], ◌∷◌, ◌-◌}
use Rattle.machine_devices.specs.declared.image.Image.{Image}
use Rattle.machine_devices.specs.Rules.{ObeysRules}
use Rattle.base_laws.specs.Lists.{Each}
use Rattle.base_ranges.specs.Ranges.{AreApart}
use Rattle.monitor_model.specs.declared.tables.InitRecord.{InitRecord}
use Rattle.monitor_model.specs.declared.tables.Tables.{Tables}
use Rattle.monitor_model.specs.MonitorCode.{MonitorCode}
use Rattle.monitor_model.specs.Sound.{Sound}
use Rattle.monitor_model.specs.Invariant.{Invariant}
use Rattle.monitor_model.specs.Confined.{Confined}
use Rattle.monitor_model.specs.Handlers.{HandlersAreConfined}
use Rattle.monitor_model.specs.MonitorLaw.{MonitorLaw}
use Rattle.monitor_model.specs.Starts.{Starts}
use Rattle.monitor_model.specs.Setting.{setting_of}
use Rattle.monitor_model.specs.Law.{Law}
use Rattle.monitor_model.specs.AccessLaw.{AccessLaw}

-- of every sound image and the tables in its flash
abbrev pub OfSoundImages : MonitorCode → (Image → Tables → Type 0) → Type 0
OfSoundImages code P = (i : Image) (t : Tables) → ObeysRules i → Sound code i t → P i t

-- ---- of the handlers' and of start-up's code

abbrev pub HandlersKeepTheLaw : MonitorCode → Type 0
HandlersKeepTheLaw code = OfSoundImages code (λ i t. MonitorLaw i t (code.stub t))

abbrev pub ImagesStart : MonitorCode → Type 0
ImagesStart code = OfSoundImages code (λ i t. Starts i t (code.stub t))

-- ---- what follows for confinement

abbrev pub LawsConfine : MonitorCode → Type 0
LawsConfine code = OfSoundImages code (λ i t. MonitorLaw i t (code.stub t) → HandlersAreConfined i t)

abbrev pub SoundImagesAreConfined : MonitorCode → Type 0
SoundImagesAreConfined code = OfSoundImages code Confined

-- ---- and for the simulation

-- no two ranges with initial words have an address in common. An audited image may have such ranges: the later one's words
-- stand there then
abbrev pub RangesAreApart : List InitRecord → Type 0
RangesAreApart [] = Unit {0}
RangesAreApart (n ∷ ns) = Each (λ (k : InitRecord). AreApart n.at (n.end - n.at) k.at (k.end - k.at)) ns × RangesAreApart ns

abbrev pub LawsServeSimulation : MonitorCode → Type 0
LawsServeSimulation code =
    OfSoundImages code (λ i t. MonitorLaw i t (code.stub t) → Starts i t (code.stub t) → RangesAreApart t.inits → Law (setting_of code i t) (Invariant i t))

abbrev pub AccessesHaveTheirEffect : MonitorCode → Type 0
AccessesHaveTheirEffect code = OfSoundImages code (λ i t. AccessLaw i t (code.stub t))
