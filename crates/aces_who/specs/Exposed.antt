-- What a compartment may reach though none of its functions needs it.
use Rattle.std.specs.Prelude.{ℕ, Bool, not, ◌&&◌, ◌||◌, List, length, filter, flat_map}
use Rattle.ir_model.specs.declared.object.ObjId.TheVariants.{Global}
use Rattle.plan_model.specs.declared.graph.DataRegion.{DataRegion}
use Rattle.plan_model.specs.Lists.{numbers_below, has}
use Rattle.plan_model.specs.Groups.{writes, reads, uses}
use Rattle.plan_model.specs.Permission.{is_covered}
use Rattle.plan_model.specs.Regions.{is_user}
use Rattle.plan_report.specs.Subjects.{Subject}
use Rattle.aces_who.specs.declared.ties.Access.{Access}
use Rattle.aces_who.specs.declared.ties.Access.TheVariants.{Write, Read}

-- whether a compartment may write a data region, or read it
abbrev pub is_open : (compartment : ℕ) → Access → DataRegion → Bool
is_open c Write r = has r.writers c
is_open c Read r = is_user c r

-- of a subject and one of its compartments
module _ (s : Subject) (c : ℕ) where
  -- whether one of its functions writes a global, or, for loads, writes or reads it
  abbrev pub is_needed : Access → (global : ℕ) → Bool
  is_needed Write x = writes s.needs s.graph.groups c (Global x)
  is_needed Read x = writes s.needs s.graph.groups c (Global x) || reads s.needs s.graph.groups c (Global x)

  -- the globals of a data region that none of its functions needs
  abbrev pub unneeded : Access → DataRegion → List ℕ
  unneeded a r = filter (λ x. not (is_needed a x)) r.globals

  -- those of its data regions, in the order in which `list` has their slots
  abbrev pub exposed_globals : Access → List ℕ
  exposed_globals a = flat_map (unneeded a) (filter (is_open c a) s.graph.regions)

  -- the peripherals in its ranges of addresses that none of its functions uses
  abbrev pub exposed_periphs : List ℕ
  exposed_periphs = filter (λ q. is_covered s.program s.graph c q && not (uses s.needs s.graph.groups c q)) (numbers_below (length s.program.periphs))
