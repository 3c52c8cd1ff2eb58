-- What the protection unit holds while a compartment runs. Region 0 is the background, 1 the tables' block with the monitor's
-- code, 2 the compartment's code, 3 the stack, and the slots stand from region 4 on.
use Rattle.std.specs.Prelude.{ℕ, ◌-◌, ◌/◌, List, ◌∷◌, map}
use Rattle.machine_protection.specs.declared.region.Region.{Region}
use Rattle.machine_protection.specs.declared.words.Rights.TheVariants.{Background, Code, Stack}
use Rattle.machine_protection.specs.RegionWords.{region_of}
use Rattle.machine_protection.specs.Laws.{kept_region}
use Rattle.machine_protection.specs.Configured.{closed_from}
use Rattle.machine_devices.specs.declared.image.Image.{Image}
use Rattle.machine_bus.specs.Locations.{choose}
use Rattle.monitor_model.specs.declared.tables.Tables.{Tables}
use Rattle.monitor_model.specs.Records.{compartment_at, eighth}
use Rattle.monitor_model.specs.Layout.{tables_size}

-- all may read it, and only privileged code may write: on an open board the lowest gigabyte, with flash and RAM; on a closed
-- one the MiB of flash alone
abbrev pub background : Image → Region
background i = choose i.closed (region_of 0 i.flash_base 0x100000 0 Background) (region_of 0 0 0x40000000 0 Background)

abbrev pub tables_region : Tables → Region
tables_region t = region_of 1 t.base (tables_size t) 0 Code

-- the stack is open below TOP, which lies a whole number of eighths above its base: bit i of SRD is set exactly where
-- eighth i begins at TOP or above
abbrev pub stack_region : Tables → (top : ℕ) → Region
stack_region t top = region_of 3 t.stack.base t.stack.size (closed_from ((top - t.stack.base) / eighth t)) Stack

-- the regions in order of their numbers, as the registers keep their words
abbrev pub regions_for : Image → Tables → (current top : ℕ) → List Region
regions_for i t c top =
    kept_region (background i)
    ∷ kept_region (tables_region t)
    ∷ kept_region (compartment_at t c).code
    ∷ kept_region (stack_region t top)
    ∷ map kept_region (compartment_at t c).slots
