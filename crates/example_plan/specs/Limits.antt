-- Beyond the program's claim: only laws, proofs and functions inside the tool cite this file.
-- The first limit that is passed, with its count.
use Rattle.std.specs.Prelude.{◌≡◌, ℕ, List, [], ◌∷◌, replicate, false, Some, None}
use Rattle.plan_model.specs.declared.needs.SiteNeed.{SiteNeed}
use Rattle.plan_model.specs.declared.needs.Needs.{Needs}
use Rattle.plan_model.specs.declared.groups.Groups.{Groups}
use Rattle.plan_model.specs.declared.limits.LimitKind.TheVariants.{Compartments, Lent, Targets}
use Rattle.plan_model.specs.CompileLimits.{first_passed, KeepsLimits}
use Rattle.example_plan.specs.Written.{site}

-- calls and lendable locals of functions that are not looked at
abbrev pub needs : List SiteNeed → (lendable : List (ℕ × ℕ)) → Needs
needs ss ls = record { funcs = []; sites = ss; lendable = ls; closed = false }

-- function 0 is in compartment 0 alone, and function 1 in the other
abbrev pub two : Groups
two = record { of = 0 ∷ 1 ∷ []; count = 2 }

abbrev pub many : Groups
many = record { of = 0 ∷ 1 ∷ []; count = 65 }

abbrev pub alone : Groups
alone = record { of = 0 ∷ 0 ∷ []; count = 1 }

-- a call with so many targets in the other compartment
abbrev pub wide : ℕ → SiteNeed
wide n = site 0 0 n (replicate n 1)

abbrev pub locals : ℕ → List (ℕ × ℕ)
locals n = replicate n (0, 0)

pub record ComputesLimits : Type 0 where
  pub compartments : first_passed (needs (wide 70 ∷ []) (locals 40)) many ≡ Some (Compartments, 65)
  pub lent : first_passed (needs (wide 70 ∷ []) (locals 33)) two ≡ Some (Lent, 33)
  pub nothing_lent : first_passed (needs (wide 70 ∷ []) (locals 33)) alone ≡ None
  pub targets : first_passed (needs (wide 64 ∷ wide 65 ∷ wide 66 ∷ []) (locals 32)) two ≡ Some (Targets, 65)
  pub none : KeepsLimits (needs (wide 64 ∷ []) (locals 32)) two
