-- Beyond the program's claim: only laws, proofs and functions inside the tool cite this file.
-- What the code of functions needs, as the code keeps it.
use Rattle.std.specs.Prelude.{◌≡◌, ℕ, ◌<◌, List, [], length, map, position, Option, IfSome}
use Rattle.std.specs.List.{All}
use Rattle.std.proofs.Math.ListN.{get_or}
use Rattle.ir_model.specs.Resolved.{Program, func_at}
use Rattle.plan_model.specs.declared.needs.SiteNeed.{SiteNeed}
use Rattle.plan_model.specs.CompileLimits.{lent_limit, site_limit}
use Rattle.plan_model.specs.Lists.{numbers_below}
use Rattle.plan_model.specs.Lending.{is_local}
use Rattle.code_model.specs.declared.places.CallSite.{CallSite}
use Rattle.code_model.specs.declared.places.Places.{Places}
use Rattle.code_model.specs.CompartmentCode.{CodeGroups}
use Rattle.code_model.specs.Planned.{call_sites_among}
use Rattle.image_entries.specs.declared.numbers.Numbers.{Numbers}
use Rattle.code_model.specs.declared.places.Addresses.{Addresses}

-- the calls of each function among these sites, and the numbers of its locals among those that are lent
pub record AreNumbers (p : Program) (sites : List SiteNeed) (lent : List (ℕ × ℕ)) (x : Numbers) : Type 0 where
  pub sites_are : x.sites ≡ map (call_sites_among 0 sites) (numbers_below (length p.funcs))
  pub lends_are : x.lends ≡ map (λ h. map (λ k. position (is_local h k) lent) (numbers_below (length (func_at p h).locals))) (numbers_below (length p.funcs))

-- site numbers and the numbers of loans are below their limits
pub record AreSmall (x : Numbers) : Type 0 where
  pub sites : All (λ (ss : List CallSite). All (λ (s : CallSite). s.number < site_limit) ss) x.sites
  pub lends : All (λ (ns : List (Option ℕ)). All (λ n. IfSome n (λ k. k < lent_limit)) ns) x.lends

abbrev pub groups_in : (compartments : List ℕ) → Numbers → CodeGroups
groups_in cs x = record { compartments = cs; sites = x.sites; lends = x.lends }

abbrev pub places_in : Addresses → Numbers → (func : ℕ) → Places
places_in a x h = record { globals = a.globals; windows = a.windows; entries = a.entries; sites = get_or x.sites h []; lends = get_or x.lends h [] }

-- a number, or none, for each local of each function
abbrev pub HasEachLend : Program → Numbers → Type 0
HasEachLend p x = (h : ℕ) → h < length p.funcs → length (get_or x.lends h []) ≡ length (func_at p h).locals
