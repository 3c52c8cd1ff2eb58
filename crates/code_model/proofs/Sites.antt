-- The site of a place in a function's list is the crossing site that stands there.
use Rattle.std.proofs.Common.{◌≡◌, ℕ, suc, ◌+◌, List, [], ◌∷◌, Bool, true, false, Option, Some, nat_eq, refl, sym, ap, ◌∙◌, arith}
use Rattle.std.specs.Prelude.{◌&&◌, if◌then◌else◌}
use Rattle.std.specs.List.{position_from}
use Rattle.std.proofs.lemmas.Iterator.Adapters.{position_from-zero}
use Rattle.plan_model.specs.declared.needs.SiteNeed.{SiteNeed}
use Rattle.plan_model.specs.Crossing.{crossing_sites, stands_at, site_number}
use Rattle.code_model.specs.Places.{site_in}
use Rattle.code_model.specs.Planned.{call_sites_among}
use Rattle.code_model.specs.Laws.{SitesAgree}

module _ (f b k : ℕ) where
  one_more : (n : ℕ) (s : SiteNeed) (ss : List SiteNeed) (t : Bool) → nat_eq s.func f ≡ t → site_in (call_sites_among (suc n) ss f) b k ≡ position_from (stands_at f b k) (suc n) ss →
      site_in (call_sites_among n (s ∷ ss) f) b k ≡ position_from (stands_at f b k) n (s ∷ ss)
  one_more n s ss true e h =
      let m : n + 1 ≡ suc n = omega arith in
      rw (e, m) (ap (λ (o : Option ℕ). if nat_eq s.block b && nat_eq s.inst k then Some n else o) h)
  one_more n s ss false e h = let m : n + 1 ≡ suc n = omega arith in rw (e, m) h

  found : (n : ℕ) (ss : List SiteNeed) → site_in (call_sites_among n ss f) b k ≡ position_from (stands_at f b k) n ss
  found n [] = refl
  found n (s ∷ ss) = one_more n s ss (nat_eq s.func f) refl (found (suc n) ss)

pub sites_agree : SitesAgree
unfolding site_number
sites_agree n g f b k = found f b k 0 (crossing_sites n g) ∙ sym (position_from-zero (stands_at f b k) (crossing_sites n g))
