-- Beyond the program's claim: only laws, proofs and functions inside the tool cite this file.
-- What of an image and of its tables the simulation's law speaks of.
use Rattle.std.specs.Prelude.{ℕ, ◌+◌, ◌-◌, Bool, true, false, not, ◌&&◌, ◌||◌, List, length, Option, Some, None, nat_eq, nat_lt}
use Rattle.std.specs.Int.{bit_at}
use Rattle.std.specs.List.{list_any}
use Rattle.machine_protection.specs.declared.region.Region.{Region}
use Rattle.machine_protection.specs.declared.region.Access.TheVariants.{Write}
use Rattle.machine_protection.specs.Regions.{holds, allows}
use Rattle.machine_protection.specs.Protection.{deciding}
use Rattle.machine_devices.specs.declared.image.Image.{Image}
use Rattle.machine_bus.specs.Locations.{inside}
use Rattle.monitor_model.specs.declared.tables.TargetRecord.{TargetRecord}
use Rattle.monitor_model.specs.declared.tables.InitRecord.{InitRecord}
use Rattle.monitor_model.specs.declared.tables.Tables.{Tables}
use Rattle.monitor_model.specs.Records.{compartment_at, site_at, targets_of, last_with_entry, eighth}
use Rattle.monitor_model.specs.Layout.{initial_word_count}
use Rattle.monitor_model.specs.MonitorCode.{MonitorCode}

-- ---- what a compartment may reach, and where a site leads

-- the compartment's code region holds the address
abbrev pub has_code : Tables → (compartment address : ℕ) → Bool
has_code t c a = holds (compartment_at t c).code a

-- the slot that decides about the address, the highest-numbered one that holds it, lets unprivileged code store there
abbrev pub allows_stores : Option Region → Bool
allows_stores None = false
allows_stores (Some g) = allows g true Write

unfoldable pub may_store : Tables → (compartment address : ℕ) → Bool
may_store t c a = allows_stores (deciding (compartment_at t c).slots a)

-- flash, a slot, and on an open board all of RAM
unfoldable pub may_load : Image → Tables → (compartment address : ℕ) → Bool
may_load i t c a =
    inside i.flash_base (length i.flash) a
    || (list_any (λ (g : Region). holds g a) (compartment_at t c).slots
    || (not i.closed && inside i.ram_base i.ram_size a))

-- a mask of the compartment has the lendable local
abbrev pub has_loan : Tables → (compartment number : ℕ) → Bool
has_loan t c n = nat_eq (bit_at (compartment_at t c).mask n) 1

-- on a closed board alone: on an open one nobody needs a loan to load
abbrev pub has_read_loan : Image → Tables → (compartment number : ℕ) → Bool
has_read_loan i t c n = i.closed && nat_eq (bit_at (compartment_at t c).reads n) 1

-- the target with this entry is in this compartment
abbrev pub leads_to : Option TargetRecord → (compartment : ℕ) → Bool
leads_to None c = false
leads_to (Some g) c = nat_eq g.compartment c

-- the site's record has the return address, and of its targets with the entry, whose bit 0 is set there, the last one counts:
-- it is the one that the monitor takes
unfoldable pub has_target : Tables → (site address entry compartment : ℕ) → Bool
has_target t n address entry c =
    nat_lt n (length t.sites)
    && (nat_eq (site_at t n).ret address && leads_to (last_with_entry (entry + 1) (targets_of t (site_at t n))) c)

-- ---- all of it

pub record Setting : Type 0 where
  pub image : Image
  -- offsets from RAM's base: of the stack's first byte and of the monitor's block
  pub stack : ℕ
  pub block : ℕ
  -- an eighth of the stack in bytes
  pub eighth : ℕ
  -- the addresses of the leave stub and of main's first instruction, and main's compartment
  pub stub : ℕ
  pub main : ℕ
  pub main_compartment : ℕ
  -- the number of initial words, and their ranges
  pub words : ℕ
  pub inits : List InitRecord
  -- the sizes of the lendable locals
  pub sizes : List ℕ
  pub has_code : (compartment address : ℕ) → Bool
  pub may_store : (compartment address : ℕ) → Bool
  pub may_load : (compartment address : ℕ) → Bool
  pub has_loan : (compartment number : ℕ) → Bool
  pub has_read_loan : (compartment number : ℕ) → Bool
  pub has_target : (site address entry compartment : ℕ) → Bool

abbrev pub setting_of : MonitorCode → Image → Tables → Setting
setting_of code i t = record {
  image = i;
  stack = t.stack.base - i.ram_base;
  block = t.monitor - i.ram_base;
  eighth = eighth t;
  stub = code.stub t;
  main = t.main - 1;
  main_compartment = t.main_comp;
  words = initial_word_count t;
  inits = t.inits;
  sizes = t.lends;
  has_code = has_code t;
  may_store = may_store t;
  may_load = may_load i t;
  has_loan = has_loan t;
  has_read_loan = has_read_loan i t;
  has_target = has_target t;
}
