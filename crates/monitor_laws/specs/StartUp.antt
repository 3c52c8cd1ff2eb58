-- Beyond the program's claim: only laws, proofs and functions inside the tool cite this file.
-- Start-up, of tables that are placed, and on a processor with another protection unit.
use Rattle.std.specs.Prelude.{◌≡◌, ◌≢◌, ℕ, ◌+◌, ◌-◌, ◌%◌, ◌<◌, ◌≤◌, List, ◌++◌, length, false}
use Rattle.machine_devices.specs.declared.image.Image.{Image}
use Rattle.machine_model.specs.State.{by_mpu, is_unprivileged}
use Rattle.base_laws.specs.Lists.{Each}
use Rattle.monitor_steps.specs.Steps.{PrivilegedSteps}
use Rattle.monitor_steps.specs.Core.{Core}
use Rattle.monitor_steps.specs.Effect.{Halted, effect}
use Rattle.base_ranges.specs.Ranges.{IsInside}
use Rattle.monitor_model.specs.declared.tables.InitRecord.{InitRecord}
use Rattle.monitor_model.specs.declared.tables.Tables.{Tables}
use Rattle.monitor_model.specs.Layout.{tables_size, area_end}
use Rattle.monitor_model.specs.Area.{HasTables}
use Rattle.monitor_model.specs.Placed.{Placed}
use Rattle.monitor_program.specs.Constants.{Constants}
use Rattle.monitor_program.specs.Reset.{reset}
use Rattle.monitor_program.specs.Page.{page, stub_address}
use Rattle.monitor_model.specs.Starts.{Starts}
use Rattle.monitor_model.specs.Halts.{halt_unit}

-- a range of at least one word in RAM, and as many bytes in flash
pub record IsInit (i : Image) (x : InitRecord) : Type 0 where
  pub at_aligned : x.at % 4 ≡ 0
  pub end_aligned : x.end % 4 ≡ 0
  pub some : x.at < x.end
  pub in_ram : IsInside x.at (x.end - x.at) i.ram_base i.ram_size
  pub from_aligned : x.from % 4 ≡ 0
  pub in_flash : IsInside x.from (x.end - x.at) i.flash_base (length i.flash)

-- an image whose flash begins with the page of the tables, that has the tables behind it, and whose ranges lie in RAM
pub record IsReady (i : Image) (t : Tables) : Type 0 where
  pub placed : Placed i t
  pub has_tables : HasTables i t
  pub behind_page : List ℕ
  pub has_page : i.flash ≡ page t ++ behind_page
  pub area_inside : area_end t ≤ t.base + tables_size t
  pub inits : Each (IsInit i) t.inits

-- start-up leads to `main`
abbrev pub ReadyImagesStart : Type 0
ReadyImagesStart = (i : Image) (t : Tables) → IsReady i t → Starts i t (stub_address t)

-- a list halts, with the protection unit and RAM as they were
pub record HaltsUnchanged (i : Image) (s : PrivilegedSteps) (before : Core) (number : ℕ) : Type 0 where
  pub after : Core
  pub halts : effect by_mpu i s before ≡ Halted number after
  pub protection : after.protection ≡ before.protection
  pub ram : after.ram ≡ before.ram

-- whatever the tables, and on a unit of any number of regions but theirs, of none too: start-up halts 10
abbrev pub OtherUnitsHalt : Type 0
OtherUnitsHalt =
    (i : Image) (c : Constants) (before : Core) → is_unprivileged before.protection ≡ false → length before.low ≡ 8 → length before.protection.mpu.regions ≢ c.slots + 4 →
    HaltsUnchanged i (reset c) before halt_unit
