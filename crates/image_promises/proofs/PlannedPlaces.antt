-- The places that a plan gives to the code of a function.
use Rattle.std.proofs.Common.{◌≡◌, ℕ, ◌+◌, ◌^◌, ◌<◌, ◌≤◌, [], length, get_or, map, Some, None, sym, ap, ◌∙◌, subst, arith}
use Rattle.std.specs.List.{position, range_with_len}
use Rattle.std.proofs.lemmas.Bool.{cases_lt}
use Rattle.std.proofs.lemmas.List.{get_or-map, get_or_past, length-map}
use Rattle.std.proofs.lemmas.List.FromFn.{get_or-map-range_with_len, length-map-range_with_len}
use mathlib.Core.Logic.{⊎_elim}
use Rattle.ir_model.specs.Resolved.{Program, NumberedWindow, func_at, no_window}
use Rattle.ir_model.specs.Resolve.{resolve}
use Rattle.ir_laws.specs.Limits.{WindowsLieApart}
use Rattle.plan_model.specs.declared.needs.SiteNeed.{SiteNeed}
use Rattle.plan_model.specs.declared.plan.Plan.{Plan}
use Rattle.plan_model.specs.Crossing.{crossing_sites, stands_at, site_number}
use Rattle.plan_model.specs.Lending.{lent, is_local, lend_number, lend_numbers_in}
use Rattle.plan_model.specs.Placement.{global_address}
use Rattle.plan_layout.proofs.Searches.{position_is}
use Rattle.code_model.specs.FrameShape.{local_starts}
use Rattle.code_model.specs.Places.{site_in}
use Rattle.code_model.specs.CompartmentCode.{sites_of, lends_of, entry_of, places_of}
use Rattle.code_model.specs.Planned.{call_sites}
use Rattle.code_model.specs.Laws.{SitesAgree}
use Rattle.code_lower_laws.specs.Fitting.{TypedFunctionsFit}
use Rattle.monitor_program.specs.TheCode.{monitor_code}
use Rattle.plan.specs.PlannedFirmwares.{plan}
use Rattle.plan_model.proofs.KeptLimits.{few}
use Rattle.image_promises.proofs.PlannedPremises.{PlannedPremises, code_groups_of, code_places_of}
use Rattle.image_promises.proofs.ReadBack.{ReadLaws}
use Rattle.image_promises.specs.Parts.{CodeIsPlaced}
use Rattle.image_promises.proofs.EntryPlaces.{entry_in, entry_aligned}
use Rattle.image_promises.proofs.FrameSizes.{small, words_few, starts_few, lends_fit}
use Rattle.image_promises.proofs.FunctionItems.{PlacesFit, FrameFits}
use Rattle.image_promises.proofs.GlobalsLow.{global_below}

-- numbers made of numbers, below a limit
mapped_below : (limit : ℕ) (g : ℕ → ℕ) (n x : ℕ) → 0 < limit → (x < n → g x < limit) → get_or (map g (range_with_len 0 n)) x 0 < limit
mapped_below limit g n x some h = ⊎_elim inner outer (cases_lt x n)
  where
    inner : x < n → get_or (map g (range_with_len 0 n)) x 0 < limit
    inner l = subst (λ y. y < limit) (sym (get_or-map-range_with_len g 0 n x x 0 l (let e : 0 + x ≡ x = omega arith in e))) (h l)

    outer : n ≤ x → get_or (map g (range_with_len 0 n)) x 0 < limit
    outer l = let m = length-map-range_with_len g 0 n in subst (λ y. y < limit) (sym (get_or_past (map g (range_with_len 0 n)) x 0 (omega (arith, m, l)))) some

module _ (law : ReadLaws) (placed : CodeIsPlaced) (fits : TypedFunctionsFit) (agree : SitesAgree) (windows : WindowsLieApart) (planned : PlannedPremises) where
  open planned use {firmware as w, needs as n, final as f, board as b, is_planned as ok}

  abbrev p : Program
  p = resolve w

  abbrev l : Plan
  l = plan w n f b

  window_below : (q : ℕ) → get_or (code_places_of planned).windows q 0 < 2 ^ 32
  window_below q = ⊎_elim inner outer (cases_lt q (length p.periphs))
    where
      inner : q < length p.periphs → get_or (code_places_of planned).windows q 0 < 2 ^ 32
      inner h =
          let e = get_or-map (λ (x : NumberedWindow). x.base) p.periphs q no_window 0 h in
          let t = ((windows w ok.typed).each q h).place.1 in
          omega (arith, e, t)

      outer : length p.periphs ≤ q → get_or (code_places_of planned).windows q 0 < 2 ^ 32
      outer h = let m = length-map p.periphs (λ (x : NumberedWindow). x.base) in let e = get_or_past (code_places_of planned).windows q 0 (omega (arith, m, h)) in omega (arith, e)

  entry_is : (h g : ℕ) → h < length p.funcs → get_or (places_of p (code_groups_of planned) (code_places_of planned) g).entries h 0 ≡ entry_of p (code_groups_of planned) (code_places_of planned) h
  entry_is h g there = get_or-map-range_with_len (entry_of p (code_groups_of planned) (code_places_of planned)) 0 (length p.funcs) h h 0 there (let e : 0 + h ≡ h = omega arith in e)

  site_below : (h i k s : ℕ) → h < length p.funcs → site_in (sites_of p (code_groups_of planned) h) i k ≡ Some s → s < 2 ^ 16
  unfolding site_number
  site_below h i k s there e =
      let own : sites_of p (code_groups_of planned) h ≡ call_sites n f.groups h = get_or-map-range_with_len (call_sites n f.groups) 0 (length p.funcs) h h [] there (let e : 0 + h ≡ h = omega arith in e) in
      let same : position (stands_at h i k) (crossing_sites n f.groups) ≡ Some s = sym (agree n f.groups h i k) ∙ (ap (λ ss. site_in ss i k) (sym own) ∙ e) in
      let none : SiteNeed = record { func = 0; block = 0; inst = 0; targets = [] } in
      let below = (position_is (stands_at h i k) (crossing_sites n f.groups) s none (sym same)).0 in
      let most = (few n f.groups ok.limits).sites in
      omega (arith, below, most)

  pub places_fit : (h : ℕ) → h < length p.funcs → PlacesFit b.flash_base (b.flash_base + 0x100000) (length p.funcs) (places_of p (code_groups_of planned) (code_places_of planned) h)
  places_fit h there = record {
    globals = λ x. mapped_below (2 ^ 32) (global_address p f l) (length p.globals) x (omega arith) (λ m. global_below law.plans planned x);
    windows = window_below;
    from = λ g m. let e = entry_is g h m in let r = (entry_in law placed monitor_code planned g m).from in omega (arith, e, r);
    to = λ g m. let e = entry_is g h m in let r = (entry_in law placed monitor_code planned g m).to in omega (arith, e, r);
    even = λ g m. let e = entry_is g h m in let r = entry_aligned law placed monitor_code planned g in omega (arith, e, r);
    sites = λ i k s e. site_below h i k s there e;
  }

  lend_below : (h i k : ℕ) → get_or (lend_numbers_in p n f.groups h) i None ≡ Some k → k < 256
  unfolding lend_number
  lend_below h i k e = ⊎_elim inner outer (cases_lt i (length (func_at p h).locals))
    where
      inner : i < length (func_at p h).locals → k < 256
      inner there =
          let one : get_or (lend_numbers_in p n f.groups h) i None ≡ lend_number n f.groups h i =
          get_or-map-range_with_len (lend_number n f.groups h) 0 (length (func_at p h).locals) i i None there (let e : 0 + i ≡ i = omega arith in e) in
          let below = (position_is (is_local h i) (lent n f.groups) k (0, 0) (sym e ∙ one)).0 in
          let most = (few n f.groups ok.limits).lent in
          omega (arith, below, most)

      outer : length (func_at p h).locals ≤ i → k < 256
      outer past =
          let m = length-map-range_with_len (lend_number n f.groups h) 0 (length (func_at p h).locals) in
          let none = get_or_past (lend_numbers_in p n f.groups h) i None (omega (arith, m, past)) in
          cc

  pub frame_fits : (h : ℕ) → h < length p.funcs → FrameFits (func_at p h) (places_of p (code_groups_of planned) (code_places_of planned) h)
  frame_fits h there =
      let s = small fits w ok.typed ok.within h there in
      let own : lends_of p (code_groups_of planned) h ≡ lend_numbers_in p n f.groups h = get_or-map-range_with_len (lend_numbers_in p n f.groups) 0 (length p.funcs) h h [] there (let e : 0 + h ≡ h = omega arith in e) in
      record {
        registers = s.registers;
        params = s.params;
        words = words_few (func_at p h) s.frame;
        starts = starts_few (func_at p h) s.frame;
        lends = lends_fit (local_starts (func_at p h)) (lends_of p (code_groups_of planned) h) (starts_few (func_at p h) s.frame) (λ i k e. lend_below h i k (ap (λ ns. get_or ns i None) (sym own) ∙ e));
      }
