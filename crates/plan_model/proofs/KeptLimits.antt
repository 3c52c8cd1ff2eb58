-- The limits of what is compiled, one by one.
use Rattle.std.proofs.Common.{◌≡◌, ℕ, ◌*◌, ◌≤◌, Bool, true, false, cond, List, [], ◌∷◌, length, Some, None, option_map, nat_lt, refl, arith}
use Rattle.std.specs.Prelude.{find}
use Rattle.std.specs.Bool.{then_some}
use Rattle.std.proofs.lemmas.Bool.Decides.{nat_tests}
use Rattle.std.proofs.lemmas.List.Sums.{sum_by-cons}
use Rattle.base_laws.specs.Lists.{Each}
use Rattle.plan_model.specs.declared.needs.SiteNeed.{SiteNeed}
use Rattle.plan_model.specs.declared.needs.Needs.{Needs}
use Rattle.plan_model.specs.declared.groups.Groups.{Groups}
use Rattle.plan_model.specs.declared.limits.LimitKind.{LimitKind}
use Rattle.plan_model.specs.declared.limits.LimitKind.TheVariants.{Compartments, Lent, Sites, Targets}
use Rattle.plan_model.specs.CompileLimits.{above, wide_site, first_passed, KeepsLimits}
use Rattle.plan_model.specs.Crossing.{crossing_sites, target_count}
use Rattle.plan_model.specs.Lending.{lent}
use Rattle.base_laws.proofs.Options.{none_mapped as unmapped}
use Rattle.plan_model.proofs.Choices.{none_first as none_of}

kept : (most count : ℕ) (kind : LimitKind) → above most kind count ≡ None → count ≤ most
kept most count kind h = by (nat_lt most count) refl h
  where
    by : (b : Bool) → nat_lt most count ≡ b → then_some {T = LimitKind × ℕ} b (kind, count) ≡ None → count ≤ most
    by true e h = cc
    by false e h = grind (arith, nat_tests, e)

found_none : (ss : List SiteNeed) → find (λ (s : SiteNeed). nat_lt 64 (length s.targets)) ss ≡ None → Each (λ (s : SiteNeed). length s.targets ≤ 64) ss
found_none [] h = tt
found_none (s ∷ ss) h = by (nat_lt 64 (length s.targets)) refl h (found_none ss)
  where
    by : (b : Bool) → nat_lt 64 (length s.targets) ≡ b → cond b (Some s) (find (λ (x : SiteNeed). nat_lt 64 (length x.targets)) ss) ≡ None → (find (λ (x : SiteNeed). nat_lt 64 (length x.targets)) ss ≡ None → Each (λ (x : SiteNeed). length x.targets ≤ 64) ss) → Each (λ (x : SiteNeed). length x.targets ≤ 64) (s ∷ ss)
    by true e h ih = cc
    by false e h ih = (grind (arith, nat_tests, e), ih h)

pub record IsFew (n : Needs) (g : Groups) : Type 0 where
  pub compartments : g.count ≤ 64
  pub lent : length (lent n g) ≤ 32
  pub sites : length (crossing_sites n g) ≤ 4096
  pub targets : Each (λ (s : SiteNeed). length s.targets ≤ 64) (crossing_sites n g)

pub few : (n : Needs) (g : Groups) → KeepsLimits n g → IsFew n g
unfolding first_passed
few n g h =
    let a = none_of (above 64 Compartments g.count) _ h in
    let b = none_of (above 32 Lent (length (lent n g))) _ a.1 in
    let c = none_of (above 4096 Sites (length (crossing_sites n g))) _ b.1 in
    let d = none_of (option_map (λ (s : SiteNeed). (Targets, length s.targets)) (wide_site n g)) [] c.1 in
    record {
      compartments = kept 64 g.count Compartments a.0;
      lent = kept 32 (length (lent n g)) Lent b.0;
      sites = kept 4096 (length (crossing_sites n g)) Sites c.0;
      targets = found_none (crossing_sites n g) (unmapped (λ (s : SiteNeed). (Targets, length s.targets)) (wide_site n g) d.0);
    }

-- the targets of all sites together
pub few_targets : (ss : List SiteNeed) → Each (λ (s : SiteNeed). length s.targets ≤ 64) ss → target_count ss ≤ 64 * length ss
few_targets [] h = omega arith
few_targets (s ∷ ss) h = let a = h.0 in let b = few_targets ss h.1 in let e = sum_by-cons (λ (x : SiteNeed). length x.targets) s ss in omega (arith, a, b, e)
