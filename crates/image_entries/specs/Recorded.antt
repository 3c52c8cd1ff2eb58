-- Beyond the program's claim: only laws, proofs and functions inside the tool cite this file.
-- The records of sites and targets, by the entries of all functions.
use Rattle.std.specs.Prelude.{ℕ, ◌+◌, List, [], ◌∷◌, length, map}
use Rattle.std.specs.List.{flat_map}
use Rattle.std.proofs.Math.ListN.{get_or}
use Rattle.ir_model.specs.Resolved.{Program, func_at}
use Rattle.plan_model.specs.declared.needs.SiteNeed.{SiteNeed}
use Rattle.code_model.specs.declared.places.Places.{Places}
use Rattle.code_model.specs.FrameShape.{local_starts}
use Rattle.code_model.specs.Places.{lends_among}
use Rattle.code_model.specs.Sizes.{site_offset}
use Rattle.code_model.specs.FunctionCode.{lent}
use Rattle.code_model.specs.CompartmentCode.{entry_of}
use Rattle.monitor_model.specs.declared.tables.SiteRecord.{SiteRecord}
use Rattle.monitor_model.specs.declared.tables.TargetRecord.{TargetRecord}
use Rattle.image_entries.specs.declared.numbers.Numbers.{Numbers}
use Rattle.image_entries.specs.declared.making.Making.{Making}
use Rattle.image_entries.specs.Grouped.{places_in}
use Rattle.image_entries.specs.Making.{program_in, grouped, places_at}

-- how far behind the entry of its function the halfword with the number of a site stands
abbrev pub offset_with : Program → Numbers → (func block place : ℕ) → ℕ
offset_with p x h b k = site_offset (func_at p h) (get_or x.sites h []) (length (lends_among (local_starts (func_at p h)) (get_or x.lends h []))) b k

module _ (m : Making) where
  abbrev pub entry_in : (func : ℕ) → ℕ
  entry_in h = entry_of (program_in m) (grouped m) (places_at m) h

  abbrev pub places_for : (func : ℕ) → Places
  places_for h = places_in m.addresses.now m.numbers.now h

  abbrev pub returns_to : SiteNeed → ℕ
  returns_to s = entry_in s.func + site_offset (func_at (program_in m) s.func) (places_for s.func).sites (lent (func_at (program_in m) s.func) (places_for s.func)) s.block s.inst

  abbrev pub site_records_in : (first : ℕ) → List SiteNeed → List SiteRecord
  site_records_in k [] = []
  site_records_in k (s ∷ ss) = record { ret = returns_to s; first = k; count = length s.targets } ∷ site_records_in (k + length s.targets) ss

  abbrev pub target_in : (func : ℕ) → TargetRecord
  target_in h = record { entry = entry_in h + 1; compartment = get_or m.compartments.now h 0 }

  abbrev pub target_records_in : List SiteNeed → List TargetRecord
  target_records_in ss = flat_map (λ (s : SiteNeed). map target_in s.targets) ss
