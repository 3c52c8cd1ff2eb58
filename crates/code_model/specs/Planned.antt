-- The code of a firmware by its needs, its graph of compartments and its plan.
use Rattle.std.specs.Prelude.{ℕ, suc, List, [], ◌∷◌, length, map, nat_eq, if◌then◌else◌}
use Rattle.ir_model.specs.Resolved.{Program, NumberedWindow}
use Rattle.plan_model.specs.declared.needs.SiteNeed.{SiteNeed}
use Rattle.plan_model.specs.declared.needs.Needs.{Needs}
use Rattle.plan_model.specs.declared.groups.Groups.{Groups}
use Rattle.plan_model.specs.declared.graph.Final.{Final}
use Rattle.plan_model.specs.declared.plan.Spot.{Spot}
use Rattle.plan_model.specs.declared.plan.Sizes.{Sizes}
use Rattle.plan_model.specs.declared.plan.Plan.{Plan}
use Rattle.plan_model.specs.Lists.{numbers_below}
use Rattle.plan_model.specs.Crossing.{crossing_sites}
use Rattle.plan_model.specs.Lending.{lend_numbers_in}
use Rattle.plan_model.specs.Placement.{global_address}
use Rattle.plan_model.specs.TableSize.{table_bytes}
use Rattle.code_model.specs.declared.places.CallSite.{CallSite}
use Rattle.code_model.specs.CompartmentCode.{CodeGroups, CodePlaces, code_sizes, entry_of, compartment_bytes}

-- the calls of a function among crossing sites that are numbered from this number on
abbrev pub call_sites_among : (number : ℕ) → List SiteNeed → (func : ℕ) → List CallSite
call_sites_among k [] f = []
call_sites_among k (s ∷ ss) f =
    if nat_eq s.func f then record { block = s.block; place = s.inst; number = k } ∷ call_sites_among (suc k) ss f
    else call_sites_among (suc k) ss f

abbrev pub call_sites : Needs → Groups → (func : ℕ) → List CallSite
call_sites n g f = call_sites_among 0 (crossing_sites n g) f

module _ (p : Program) (n : Needs) where
  abbrev pub code_groups : Groups → CodeGroups
  code_groups g =
      record {
        compartments = g.of;
        sites = map (call_sites n g) (numbers_below (length p.funcs));
        lends = map (lend_numbers_in p n g) (numbers_below (length p.funcs));
      }

  -- bytes of code of each compartment, and of the tables of a board with `slots` slots
  abbrev pub sizes_of : Final → (slots : ℕ) → Sizes
  sizes_of f slots = record { code = code_sizes p (code_groups f.groups) f.groups.count; tables = table_bytes p n f slots }

  abbrev pub code_places : Final → Plan → CodePlaces
  code_places f l =
      record {
        bases = map (λ (s : Spot). s.base) l.code;
        globals = map (global_address p f l) (numbers_below (length p.globals));
        windows = map (λ (w : NumberedWindow). w.base) p.periphs;
      }

  -- the entry of a function, and the bytes that the block of a compartment's code begins with
  abbrev pub planned_entry : Final → Plan → (func : ℕ) → ℕ
  planned_entry f l h = entry_of p (code_groups f.groups) (code_places f l) h

  abbrev pub planned_code : Final → Plan → (compartment : ℕ) → List ℕ
  planned_code f l c = compartment_bytes p (code_groups f.groups) (code_places f l) c
