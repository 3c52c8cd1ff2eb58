-- Beyond the program's claim: only laws, proofs and functions inside the tool cite this file.
-- What a load and a store of privileged code give: the machine's own tests, places and bytes (Armv7-M ARM, B2.3).
use Rattle.std.specs.Prelude.{ℕ, ◌+◌, ◌*◌, List}
use Rattle.base_words.specs.declared.memory.Width.{Width}
use Rattle.base_words.specs.Width.{byte_count}
use Rattle.base_words.specs.Arithmetic.{word}
use Rattle.base_words.specs.Bytes.{read, write}
use Rattle.machine_protection.specs.declared.region.Access.TheVariants.{Read, Write}
use Rattle.machine_devices.specs.declared.image.Image.{Image}
use Rattle.machine_bus.specs.Locations.{Location, InRam, InFlash, InWindow, Nowhere, location}
use Rattle.machine_model.specs.declared.state.StopReason.{StopReason}
use Rattle.machine_model.specs.declared.state.StopReason.TheVariants.{Bus}
use Rattle.machine_model.specs.declared.answers.Verdict.{Verdict}
use Rattle.machine_model.specs.declared.answers.Verdict.TheVariants.{ToBus, ToSystem, Refused, Bad}
use Rattle.machine_model.specs.State.{PermissionTest}
use Rattle.machine_model.specs.System.{read_system}
use Rattle.machine_model.specs.Tests.{verdict}
use Rattle.monitor_steps.specs.Core.{Core, low_register, with_ram, with_system}

-- a value; or the machine stops; or nothing is claimed, as of a refused access and of one that goes to a window
pub data LoadResult : Type 0 where
  Value : (value : ℕ) → LoadResult
  LoadStops : (reason : StopReason) → LoadResult
  LoadUnclaimed : LoadResult

-- a changed core; or the machine stops; or nothing is claimed
pub data StoreResult : Type 0 where
  Written : (core : Core) → StoreResult
  StoreStops : (reason : StopReason) → StoreResult
  StoreUnclaimed : StoreResult

-- the address of an access, whose offset counts widths
abbrev pub address_of : Core → (width base offset : ℕ) → ℕ
address_of c w base offset = word (low_register c base + w * offset)

-- at a location of the bus: flash and RAM give their bytes, nothing lies elsewhere but windows
abbrev pub load_at : Location → Image → (width : ℕ) → (ram : List ℕ) → LoadResult
load_at (InRam o) i w ram = Value (read w o ram)
load_at (InFlash o) i w ram = Value (read w o i.flash)
load_at (InWindow k o) i w ram = LoadUnclaimed
load_at Nowhere i w ram = LoadStops Bus

-- by what the tests of the access say
abbrev pub load_by : Verdict → Location → Image → (width address : ℕ) → Core → LoadResult
load_by ToBus here i w a c = load_at here i w c.ram
load_by ToSystem here i w a c = Value (read_system a c.protection c.status)
load_by Refused here i w a c = LoadUnclaimed
load_by (Bad reason) here i w a c = LoadStops reason

-- flash takes no store
abbrev pub store_at : Location → (width value : ℕ) → Core → StoreResult
store_at (InRam o) w v c = Written (with_ram c (write w o v c.ram))
store_at (InFlash o) w v c = StoreStops Bus
store_at (InWindow k o) w v c = StoreUnclaimed
store_at Nowhere w v c = StoreStops Bus

-- by what the tests of the access say
abbrev pub store_by : Verdict → Location → (width address value : ℕ) → Core → StoreResult
store_by ToBus here w a v c = store_at here w v c
store_by ToSystem here w a v c = Written (with_system c a v)
store_by Refused here w a v c = StoreUnclaimed
store_by (Bad reason) here w a v c = StoreStops reason

module _ (j : PermissionTest) (i : Image) where
  -- by the verdict of the tests on the address and by its location
  abbrev pub load_from : (width address : ℕ) → Core → LoadResult
  load_from w a c = load_by (verdict j c.protection Read w a) (location i a) i w a c

  abbrev pub store_to : (width address value : ℕ) → Core → StoreResult
  store_to w a v c = store_by (verdict j c.protection Write w a) (location i a) w a v c

  -- of the steps Load and Store
  abbrev pub load : Width → (base offset : ℕ) → Core → LoadResult
  load width base offset c = load_from (byte_count width) (address_of c (byte_count width) base offset) c

  abbrev pub store : Width → (from base offset : ℕ) → Core → StoreResult
  store width from base offset c = store_to (byte_count width) (address_of c (byte_count width) base offset) (low_register c from) c
