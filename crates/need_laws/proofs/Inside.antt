-- Calls that are no crossing sites stay in their compartments.
use Rattle.std.proofs.Common.{◌≡◌, ℕ, Bool, true, false, ◌&&◌, not, [], ◌∷◌, None, nat_eq, refl, sym, ap, ◌∙◌}
use Rattle.std.proofs.lemmas.Bool.{eqb-true, eq-eqb, false≢true, and_from}
use Rattle.plan_model.specs.declared.needs.SiteNeed.{SiteNeed}
use Rattle.plan_model.specs.declared.needs.Needs.{Needs}
use Rattle.plan_model.specs.declared.groups.Groups.{Groups}
use Rattle.plan_model.specs.Groups.{compartment_of}
use Rattle.plan_model.specs.Crossing.{crosses, crossing_sites, stands_at, site_number}
use Rattle.need_laws.specs.Reached.{HasTarget}
use Rattle.need_laws.specs.Laws.{CallsStayInside, FramesAreGrouped}
use Rattle.need_lists.proofs.Members.{filtered, any_in, none_found}
use Rattle.need_laws.proofs.Listed.{call_has_target}

pub stands_here : (f b k : ℕ) (s : SiteNeed) → s.func ≡ f → s.block ≡ b → s.inst ≡ k → stands_at f b k s ≡ true
stands_here f b k s x y z =
    and_from (nat_eq s.func f) (nat_eq s.block b && nat_eq s.inst k) (eq-eqb s.func f x)
    (and_from (nat_eq s.block b) (nat_eq s.inst k) (eq-eqb s.block b y) (eq-eqb s.inst k z))

module _ (n : Needs) (g : Groups) (f b k h : ℕ) (t : HasTarget n f b k h) (none : site_number n g f b k ≡ None) where
  -- a call that has no number among the crossing sites does not cross
  crosses_not : (c : Bool) → crosses g t.site ≡ c → c ≡ false
  unfolding site_number
  crosses_not true e = absurd (none_found (stands_at f b k) t.site (crossing_sites n g) none (filtered (crosses g) t.site n.sites t.listed e) (stands_here f b k t.site t.func t.block t.inst))
  crosses_not false e = refl

  inside_by : (c : Bool) → nat_eq (compartment_of g h) (compartment_of g t.site.func) ≡ c → compartment_of g h ≡ compartment_of g t.site.func
  inside_by true e = eqb-true (compartment_of g h) (compartment_of g t.site.func) e
  inside_by false e =
      let found : crosses g t.site ≡ true = any_in (λ x. not (nat_eq (compartment_of g x) (compartment_of g t.site.func))) h t.site.targets t.target (ap not e) in
      absurd (false≢true (sym (crosses_not (crosses g t.site) refl) ∙ found))

  pub inside : compartment_of g h ≡ compartment_of g f
  inside = inside_by (nat_eq (compartment_of g h) (compartment_of g t.site.func)) refl ∙ ap (compartment_of g) t.func

pub calls_stay_inside : CallsStayInside
calls_stay_inside p S closed n g f b k h needs calls none = inside n g f b k h (call_has_target p S closed n needs f b k h calls) none

pub frames_are_grouped : FramesAreGrouped
frames_are_grouped p sizes S closed n g [] needs fit = tt
frames_are_grouped p sizes S closed n g (fr ∷ []) needs fit = ap (compartment_of g) fit.1
frames_are_grouped p sizes S closed n g (fr ∷ c ∷ rest) needs fit =
    (λ none. calls_stay_inside p S closed n g c.func c.block c.place fr.func needs fit.1.calls none, frames_are_grouped p sizes S closed n g (c ∷ rest) needs fit.2)
