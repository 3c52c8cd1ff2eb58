-- Crossing sites, the calls that may go to another compartment: which they are, their numbers, and their targets.
use Rattle.std.specs.Prelude.{ℕ, ◌&&◌, Bool, not, List, length, map, filter, Option, position, sum_by, take, nat_eq}
use Rattle.std.specs.List.{list_any}
use Rattle.plan_model.specs.declared.needs.SiteNeed.{SiteNeed}
use Rattle.plan_model.specs.declared.needs.Needs.{Needs}
use Rattle.plan_model.specs.declared.groups.Groups.{Groups}
use Rattle.plan_model.specs.Groups.{compartment_of}

-- one of the call's targets stands in another compartment than its function
abbrev pub crosses : Groups → SiteNeed → Bool
crosses g s = list_any (λ t. not (nat_eq (compartment_of g t) (compartment_of g s.func))) s.targets

-- the crossing sites, numbered in the order of the text
abbrev pub crossing_sites : Needs → Groups → List SiteNeed
crossing_sites n g = filter (crosses g) n.sites

-- whether a call stands at a place
abbrev pub stands_at : (func block inst : ℕ) → SiteNeed → Bool
stands_at f b k s = nat_eq s.func f && (nat_eq s.block b && nat_eq s.inst k)

-- the number of the crossing site at a place, if one stands there
unfoldable pub site_number : Needs → Groups → (func block inst : ℕ) → Option ℕ
site_number n g f b k = position (stands_at f b k) (crossing_sites n g)

-- the calls of one function, in the order of its text
abbrev pub sites_in : Needs → (func : ℕ) → List SiteNeed
sites_in n f = filter (λ (s : SiteNeed). nat_eq s.func f) n.sites

-- for each of them, whether it is a crossing site
abbrev pub crossings_in : Needs → Groups → (func : ℕ) → List Bool
crossings_in n g f = map (crosses g) (sites_in n f)

-- for each of them, its number if it is one
abbrev pub site_numbers_in : Needs → Groups → (func : ℕ) → List (Option ℕ)
site_numbers_in n g f = map (λ (s : SiteNeed). site_number n g f s.block s.inst) (sites_in n f)

-- how many targets these sites have together, with those in their own compartments
abbrev pub target_count : List SiteNeed → ℕ
target_count ss = sum_by (λ (s : SiteNeed). length s.targets) ss

-- how many targets the sites before a number have. The targets of that site begin there, as the targets of sites stand one behind another
abbrev pub first_target : List SiteNeed → (number : ℕ) → ℕ
first_target ss k = target_count (take k ss)
