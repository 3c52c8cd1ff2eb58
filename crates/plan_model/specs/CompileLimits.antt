-- The limits of what is compiled, beyond those of firmware texts.
use Rattle.std.specs.Prelude.{◌≡◌, ℕ, [], ◌∷◌, length, Option, None, find, option_map, nat_lt}
use Rattle.std.specs.Bool.{then_some}
use Rattle.plan_model.specs.declared.needs.SiteNeed.{SiteNeed}
use Rattle.plan_model.specs.declared.needs.Needs.{Needs}
use Rattle.plan_model.specs.declared.groups.Groups.{Groups}
use Rattle.plan_model.specs.declared.limits.LimitKind.{LimitKind}
use Rattle.plan_model.specs.declared.limits.LimitKind.TheVariants.{Compartments, Lent, Sites, Targets}
use Rattle.plan_model.specs.Choices.{first_some}
use Rattle.plan_model.specs.Crossing.{crossing_sites}
use Rattle.plan_model.specs.Lending.{lent}

abbrev pub compartment_limit : ℕ
compartment_limit = 64

-- lendable locals, where there are two compartments or more: as many as a word has bits
abbrev pub lent_limit : ℕ
lent_limit = 32

-- crossing sites
abbrev pub site_limit : ℕ
site_limit = 4096

-- targets of a crossing site
abbrev pub target_limit : ℕ
target_limit = 64

-- a count that passes its limit
abbrev pub above : (limit : ℕ) → LimitKind → (count : ℕ) → Option (LimitKind × ℕ)
above most kind count = then_some (nat_lt most count) (kind, count)

-- the first crossing site with too many targets
abbrev pub wide_site : Needs → Groups → Option SiteNeed
wide_site n g = find (λ (s : SiteNeed). nat_lt target_limit (length s.targets)) (crossing_sites n g)

-- the first limit that is passed, with the count that passes it
unfoldable pub first_passed : Needs → Groups → Option (LimitKind × ℕ)
first_passed n g =
    first_some
    (above compartment_limit Compartments g.count
    ∷ above lent_limit Lent (length (lent n g))
    ∷ above site_limit Sites (length (crossing_sites n g))
    ∷ option_map (λ (s : SiteNeed). (Targets, length s.targets)) (wide_site n g)
    ∷ [])

-- no limit is passed
abbrev pub KeepsLimits : Needs → Groups → Type 0
KeepsLimits n g = first_passed n g ≡ None
