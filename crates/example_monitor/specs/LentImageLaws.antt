-- Beyond the program's claim: only laws, proofs and functions inside the tool cite this file.
-- The laws of one sound image.
use Rattle.machine_devices.specs.Rules.{ObeysRules}
use Rattle.monitor_program.specs.TheCode.{monitor_code}
use Rattle.monitor_model.specs.Sound.{Sound}
use Rattle.monitor_model.specs.Invariant.{Invariant}
use Rattle.monitor_model.specs.Confined.{Confined}
use Rattle.monitor_program.specs.Page.{stub_address}
use Rattle.monitor_model.specs.Starts.{Starts}
use Rattle.monitor_model.specs.Setting.{setting_of}
use Rattle.monitor_model.specs.Law.{Law}
use Rattle.example_monitor.specs.LentImage.{tables}
use Rattle.example_monitor.specs.Joined.{whole_image}

abbrev pub IsSound : Type 0
IsSound = ObeysRules whole_image × Sound monitor_code whole_image tables

abbrev pub HasStart : Type 0
HasStart = Starts whole_image tables (stub_address tables)

abbrev pub HasLaw : Type 0
HasLaw = Law (setting_of monitor_code whole_image tables) (Invariant whole_image tables)

abbrev pub IsConfined : Type 0
IsConfined = Confined whole_image tables
