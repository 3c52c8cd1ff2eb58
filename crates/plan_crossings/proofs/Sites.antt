-- The calls of a function among numbered sites, of one site more.
use Rattle.std.proofs.Common.{◌≡◌, ◌∙◌, ℕ, suc, ◌+◌, ◌<◌, Bool, true, false, List, [], ◌∷◌, ◌++◌, All, cond, length, drop, get_or, nat_eq, refl, ap, sym, subst, append_assoc, add-one, Bor}
use Rattle.std.proofs.Math.Seq.{drop-cons}
use Rattle.std.proofs.lemmas.List.Elements.{All-nil, All-cons, All-append}
use Rattle.plan_model.specs.declared.needs.SiteNeed.{SiteNeed}
use Rattle.code_model.specs.declared.places.CallSite.{CallSite}
use Rattle.code_model.specs.Planned.{call_sites_among}
use Rattle.plan_crossings.specs.Seen.{seen_sites}

-- the call of a site, if the test passes
call_if : (b : Bool) (c : CallSite) (cs : List CallSite) → cond b (c ∷ cs) cs ≡ cond b (c ∷ []) [] ++ cs
call_if true c cs = refl
call_if false c cs = refl

among_next : (k : ℕ) (s : SiteNeed) (ss : List SiteNeed) (f : ℕ) → call_sites_among k (s ∷ ss) f ≡ call_sites_among k (s ∷ []) f ++ call_sites_among (suc k) ss f
among_next k s ss f = call_if (nat_eq s.func f) (record { block = s.block; place = s.inst; number = k }) (call_sites_among (suc k) ss f)

-- what was found and what is left are the whole behind one site more
pub found_more : (k : ℕ) (sites : List (Bor SiteNeed)) (f : ℕ) (before after whole : List CallSite) (site : Bor SiteNeed) → k < length sites → site ≡ get_or sites k site
    → after ≡ before ++ call_sites_among k (site.now ∷ []) f → before ++ call_sites_among k (seen_sites (drop k sites)) f ≡ whole
    → after ++ call_sites_among (k + 1) (seen_sites (drop (k + 1) sites)) f ≡ whole
found_more k sites f before after whole site less is more found =
    let left : List CallSite = call_sites_among (suc k) (seen_sites (drop (suc k) sites)) f in
    let next : drop k sites ≡ site ∷ drop (suc k) sites = drop-cons sites k site less ∙ ap (λ x. x ∷ drop (suc k) sites) (sym is) in
    let here : call_sites_among k (seen_sites (drop k sites)) f ≡ call_sites_among k (site.now ∷ []) f ++ left =
    ap (λ x. call_sites_among k (seen_sites x) f) next ∙ among_next k site.now (seen_sites (drop (suc k) sites)) f in
    let joined : after ++ left ≡ whole =
    ap (λ x. x ++ left) more ∙ append_assoc before (call_sites_among k (site.now ∷ []) f) left ∙ ap (λ x. before ++ x) (sym here) ∙ found in
    subst (λ (n : ℕ). after ++ call_sites_among n (seen_sites (drop n sites)) f ≡ whole) (sym (add-one k)) joined

module _ (k limit : ℕ) (less : k < limit) where
  abbrev Small : CallSite → Type 0
  Small s = s.number < limit

  call_small : (b : Bool) (block place : ℕ) → All Small (cond b (record { block = block; place = place; number = k } ∷ []) [])
  call_small true block place = All-cons Small _ [] less (All-nil Small)
  call_small false block place = All-nil Small

  -- the numbers stay small
  pub small_more : (s : SiteNeed) (f : ℕ) (before after : List CallSite) → after ≡ before ++ call_sites_among k (s ∷ []) f → All Small before → All Small after
  small_more s f before after more small =
      subst (All Small) (sym more) (All-append Small before _ small (call_small (nat_eq s.func f) s.block s.inst))
