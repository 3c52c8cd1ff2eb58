-- The first of four limits that is passed.
use Rattle.std.proofs.Common.{◌≡◌, ℕ, ◌-◌, ◌^◌, ◌<◌, ◌≤◌, min, Bool, true, false, List, [], ◌∷◌, length, Option, Some, None, option_map, nat_lt, refl, sym, ap, ◌∙◌, lt-ltb, le-ltb, arith}
use Rattle.std.specs.Bool.{then_some}
use Rattle.plan_model.specs.declared.needs.SiteNeed.{SiteNeed}
use Rattle.plan_model.specs.declared.needs.Needs.{Needs}
use Rattle.plan_model.specs.declared.groups.Groups.{Groups}
use Rattle.plan_model.specs.declared.limits.LimitKind.{LimitKind}
use Rattle.plan_model.specs.declared.limits.LimitKind.TheVariants.{Compartments, Lent, Sites, Targets}
use Rattle.plan_model.specs.Choices.{first_some}
use Rattle.plan_model.specs.CompileLimits.{first_passed, wide_site}
use Rattle.plan_model.specs.Crossing.{crossing_sites}
use Rattle.plan_model.specs.Lending.{lent}
use Rattle.plan_limits.specs.Told.{in_32_bits}

taken : {X : Type 0} (b : Bool) (x : X) (os : List (Option X)) → b ≡ true → first_some (then_some b x ∷ os) ≡ Some x
taken true x os e = refl
taken false x os e = cc

passed_over : {X : Type 0} (b : Bool) (x : X) (os : List (Option X)) → b ≡ false → first_some (then_some b x ∷ os) ≡ first_some os
passed_over true x os e = cc
passed_over false x os e = refl

module _ (n : Needs) (g : Groups) where
  abbrev lents : ℕ
  lents = length (lent n g)

  abbrev sites : ℕ
  sites = length (crossing_sites n g)

  abbrev wide : Option (LimitKind × ℕ)
  wide = option_map (λ (s : SiteNeed). (Targets, length s.targets)) (wide_site n g)

  abbrev behind_compartments : List (Option (LimitKind × ℕ))
  behind_compartments = then_some (nat_lt 32 lents) (Lent, lents) ∷ then_some (nat_lt 4096 sites) (Sites, sites) ∷ wide ∷ []

  abbrev behind_lent : List (Option (LimitKind × ℕ))
  behind_lent = then_some (nat_lt 4096 sites) (Sites, sites) ∷ wide ∷ []

  pub compartments_first : 64 < g.count → first_passed n g ≡ Some (Compartments, g.count)
  unfolding first_passed
  compartments_first l = taken (nat_lt 64 g.count) (Compartments, g.count) behind_compartments (lt-ltb 64 g.count l)

  few_compartments : g.count ≤ 64 → first_passed n g ≡ first_some behind_compartments
  unfolding first_passed
  few_compartments l = passed_over (nat_lt 64 g.count) (Compartments, g.count) behind_compartments (le-ltb 64 g.count l)

  pub lent_first : (k : ℕ) → g.count ≤ 64 → k ≡ lents → 32 < k → first_passed n g ≡ Some (Lent, k)
  lent_first k c e l =
      let many : 32 < lents = omega arith in
      few_compartments c ∙ (taken (nat_lt 32 lents) (Lent, lents) behind_lent (lt-ltb 32 lents many) ∙ ap (λ (m : ℕ). let o : Option (LimitKind × ℕ) = Some (Lent, m) in o) (sym e))

  few_lent : (k : ℕ) → g.count ≤ 64 → k ≡ lents → k ≤ 32 → first_passed n g ≡ first_some behind_lent
  few_lent k c e l =
      let few : lents ≤ 32 = omega arith in
      few_compartments c ∙ passed_over (nat_lt 32 lents) (Lent, lents) behind_lent (le-ltb 32 lents few)

  pub sites_first : (k m : ℕ) → g.count ≤ 64 → k ≡ lents → k ≤ 32 → m ≡ sites → 4096 < m → first_passed n g ≡ Some (Sites, m)
  sites_first k m c e l f h =
      let many : 4096 < sites = omega arith in
      few_lent k c e l ∙ (taken (nat_lt 4096 sites) (Sites, sites) (wide ∷ []) (lt-ltb 4096 sites many) ∙ ap (λ (i : ℕ). let o : Option (LimitKind × ℕ) = Some (Sites, i) in o) (sym f))

  few_sites : (k m : ℕ) → g.count ≤ 64 → k ≡ lents → k ≤ 32 → m ≡ sites → m ≤ 4096 → first_passed n g ≡ first_some (wide ∷ [])
  few_sites k m c e l f h =
      let few : sites ≤ 4096 = omega arith in
      few_lent k c e l ∙ passed_over (nat_lt 4096 sites) (Sites, sites) (wide ∷ []) (le-ltb 4096 sites few)

  abbrev with_count : ℕ → LimitKind × ℕ
  with_count i = (Targets, i)

  abbrev site_count : SiteNeed → ℕ
  site_count t = length t.targets

  last : (o : Option SiteNeed) (t : Option ℕ) → t ≡ option_map site_count o → first_some (option_map (λ (x : SiteNeed). with_count (site_count x)) o ∷ []) ≡ option_map with_count t
  last None t e = ap (option_map with_count) (sym e)
  last (Some x) t e = ap (option_map with_count) (sym e)

  pub targets_last : (k m : ℕ) (t : Option ℕ) → g.count ≤ 64 → k ≡ lents → k ≤ 32 → m ≡ sites → m ≤ 4096 → t ≡ option_map site_count (wide_site n g) → first_passed n g ≡ option_map with_count t
  targets_last k m t c e l f h w = few_sites k m c e l f h ∙ last (wide_site n g) t w

-- as it is told
pub told_is : (k : LimitKind) (n m : ℕ) (o : Option (LimitKind × ℕ)) → n ≡ min m (2 ^ 32 - 1) → o ≡ Some (k, m) → Some (k, n) ≡ option_map in_32_bits o
told_is k n m o e f = ap (λ (i : ℕ). let r : Option (LimitKind × ℕ) = Some (k, i) in r) e ∙ sym (ap (option_map in_32_bits) f)
