-- Beyond the program's claim: only laws, proofs and functions inside the tool cite this file.
-- A small board: two compartments, a crossing site of the first that calls into the second, and one lendable local.
use Rattle.std.specs.Prelude.{ℕ, zero, suc, ◌+◌, List, [], ◌∷◌, Bool, true, false}
use Rattle.machine_protection.specs.declared.region.Region.{Region}
use Rattle.monitor_model.specs.declared.tables.CompRecord.{CompRecord}
use Rattle.monitor_model.specs.declared.tables.Tables.{Tables}
use Rattle.monitor_program.specs.Constants.{Constants}
use Rattle.monitor_program.specs.Page.{constants}

abbrev pub region : (rbar rasr : ℕ) → Region
region rbar rasr = record { rbar = rbar; rasr = rasr }

-- slots without a region, from a number on
abbrev pub free_slots : (from count : ℕ) → List Region
free_slots n zero = []
free_slots n (suc k) = region (16 + n) 0 ∷ free_slots (n + 1) k

-- code of 256 bytes, and 32 bytes of data in slot 4 of the first
abbrev pub first_compartment : (slots : ℕ) → CompRecord
first_compartment slots = record { code = region 0x08002012 0x0602000F; slots = region 0x20000614 0x13060009 ∷ free_slots 5 slots; mask = 0; reads = 0 }

-- it may reach the lendable local, and has no data of its own
abbrev pub second_compartment : (slots : ℕ) → CompRecord
second_compartment slots = record { code = region 0x08002112 0x0602000F; slots = free_slots 4 (1 + slots); mask = 1; reads = 1 }

abbrev pub sample : (more_slots : ℕ) (closed : Bool) → Tables
sample more_slots closed = record {
  base = 0x08000000;
  comps = first_compartment more_slots ∷ second_compartment more_slots ∷ [];
  sites = record { ret = 0x08001004; first = 0; count = 1 } ∷ [];
  targets = record { entry = 0x08002101; compartment = 1 } ∷ [];
  lends = 8 ∷ [];
  inits = [];
  words = [];
  stack = record { base = 0x20000400; size = 512 };
  monitor = 0x20000000;
  main = 0x08002001;
  main_comp = 0;
  closed = closed;
}

-- what the monitor's code takes of it, on open and closed boards with 8 and 16 regions
abbrev pub four_open : Constants
four_open = constants (sample 3 false)

abbrev pub four_closed : Constants
four_closed = constants (sample 3 true)

abbrev pub twelve_open : Constants
twelve_open = constants (sample 11 false)

abbrev pub twelve_closed : Constants
twelve_closed = constants (sample 11 true)
