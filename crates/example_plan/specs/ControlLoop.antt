-- Beyond the program's claim: only laws, proofs and functions inside the tool cite this file.
-- A control loop in four files. `main` asks `adc_read` for a sample and hands it to `control`, which calls `clamp` and
-- `coil_set`; these two are in one file. `main` counts in `turns`, `control` reads `gain`.
use Rattle.std.specs.Prelude.{◌≡◌, ℕ, List, [], ◌∷◌, Bool, true, false, Some, None, codes}
use Rattle.ir_model.specs.declared.object.ObjId.TheVariants.{Global, Periph}
use Rattle.ir_model.specs.Resolved.{Program}
use Rattle.plan_model.specs.declared.needs.FuncNeed.{FuncNeed}
use Rattle.plan_model.specs.declared.needs.SiteNeed.{SiteNeed}
use Rattle.plan_model.specs.declared.needs.Needs.{Needs}
use Rattle.plan_model.specs.declared.groups.FuncFacts.{FuncFacts}
use Rattle.plan_model.specs.declared.groups.Groups.{Groups}
use Rattle.plan_model.specs.Facts.{all_facts}
use Rattle.plan_model.specs.Policies.{filename_groups, optimized_groups, peripheral_groups}
use Rattle.plan_model.specs.Compartments.{compartments}
use Rattle.plan_model.specs.Crossing.{crossing_sites, crossings_in, site_number}
use Rattle.example_plan.specs.Written.{need, site, global, window, data_of}

-- global 0 is `gain`, global 1 `turns`; peripheral 0 is the ADC, peripheral 1 the TIM
abbrev pub program : Program
program = data_of (global 4 4 ∷ global 4 4 ∷ []) (window 0x40012000 1024 ∷ window 0x40010000 1024 ∷ [])

-- main, adc_read, control, clamp, coil_set
abbrev pub func_needs : List FuncNeed
func_needs =
    need (Global 1 ∷ []) (Global 1 ∷ []) [] (1 ∷ 2 ∷ [])
    ∷ need [] (Periph 0 ∷ []) (0 ∷ []) []
    ∷ need (Periph 1 ∷ []) (Global 0 ∷ []) (1 ∷ []) (3 ∷ 4 ∷ [])
    ∷ need [] [] [] []
    ∷ need (Periph 1 ∷ []) [] (1 ∷ []) []
    ∷ []

abbrev pub sites : List SiteNeed
sites = site 0 1 0 (1 ∷ []) ∷ site 0 1 1 (2 ∷ []) ∷ site 2 0 6 (3 ∷ []) ∷ site 2 0 7 (4 ∷ []) ∷ []

abbrev pub needs : (closed : Bool) → Needs
needs closed = record { funcs = func_needs; sites = sites; lendable = []; closed = closed }

abbrev pub names : List (List ℕ)
names = codes "main" ∷ codes "adc_read" ∷ codes "control" ∷ codes "clamp" ∷ codes "coil_set" ∷ []

abbrev pub facts : List FuncFacts
facts = all_facts names (0 ∷ 1 ∷ 2 ∷ 3 ∷ 3 ∷ []) (needs false)

abbrev pub groups_by_file : Groups
groups_by_file = record { of = 0 ∷ 1 ∷ 2 ∷ 3 ∷ 3 ∷ []; count = 4 }

-- `clamp` has no peripheral, and only `control` calls it
abbrev pub groups_optimized : Groups
groups_optimized = record { of = 0 ∷ 1 ∷ 2 ∷ 2 ∷ 3 ∷ []; count = 4 }

-- none, the ADC, the TIM, none, the TIM
abbrev pub groups_by_periph : Groups
groups_by_periph = record { of = 0 ∷ 1 ∷ 2 ∷ 0 ∷ 2 ∷ []; count = 3 }

-- by the number of the function alone: even or odd
abbrev pub groups_by_number : Groups
groups_by_number = record { of = 0 ∷ 1 ∷ 0 ∷ 1 ∷ 0 ∷ []; count = 2 }

abbrev pub fact : (index : ℕ) → (name : List ℕ) → (file : ℕ) → (periphs callers : List ℕ) → FuncFacts
fact i n f ps cs = record { index = i; name = n; file = f; periphs = ps; callers = cs }

pub record ComputesPolicies : Type 0 where
  pub known : facts
      ≡ fact 0 (codes "main") 0 [] []
      ∷ fact 1 (codes "adc_read") 1 (0 ∷ []) (0 ∷ [])
      ∷ fact 2 (codes "control") 2 (1 ∷ []) (0 ∷ [])
      ∷ fact 3 (codes "clamp") 3 [] (2 ∷ [])
      ∷ fact 4 (codes "coil_set") 3 (1 ∷ []) (2 ∷ [])
      ∷ []
  pub by_file : compartments (filename_groups facts) ≡ groups_by_file
  pub optimized : compartments (optimized_groups facts) ≡ groups_optimized
  pub by_periph : compartments (peripheral_groups facts) ≡ groups_by_periph
  pub by_number : compartments (0 ∷ 1 ∷ 0 ∷ 1 ∷ 0 ∷ []) ≡ groups_by_number
  -- groups without a function leave no gap
  pub without_gaps : compartments (9 ∷ 4 ∷ 9 ∷ 7 ∷ []) ≡ record { of = 2 ∷ 0 ∷ 2 ∷ 1 ∷ []; count = 3 }
  pub all_cross : crossing_sites (needs false) groups_by_file ≡ sites
  pub three_cross : crossing_sites (needs false) groups_optimized ≡ site 0 1 0 (1 ∷ []) ∷ site 0 1 1 (2 ∷ []) ∷ site 2 0 7 (4 ∷ []) ∷ []
  pub two_sets_cross : crossing_sites (needs false) groups_by_periph ≡ site 0 1 0 (1 ∷ []) ∷ site 0 1 1 (2 ∷ []) ∷ site 2 0 6 (3 ∷ []) ∷ []
  pub of_control : crossings_in (needs false) groups_optimized 2 ≡ false ∷ true ∷ []
  pub third : site_number (needs false) groups_optimized 2 0 7 ≡ Some 2
  pub no_site : site_number (needs false) groups_optimized 2 0 6 ≡ None
