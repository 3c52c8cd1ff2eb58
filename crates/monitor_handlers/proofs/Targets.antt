-- A site's targets: what the checks of an image tell of sites, where flash has their targets, and the one that enter chooses.
use Rattle.std.proofs.Common.{◌≡◌, ℕ, zero, suc, ◌+◌, ◌-◌, ◌*◌, ◌<◌, ◌≤◌, Bool, true, false, ◌&&◌, List, [], ◌∷◌, ◌++◌, length, take, drop, get_or, nat_eq, nat_le, Option, Some, None, refl, sym, ap, ap₂, ◌∙◌, subst, arith}
use Rattle.std.specs.Prelude.{flat_map}
use Rattle.std.proofs.lemmas.Bool.{leb-true, eqb-true, and_parts as both}
use Rattle.base_words.specs.Bytes.{read}
use Rattle.machine_bus.specs.Locations.{choose}
use Rattle.base_laws.specs.Lists.{Each}
use Rattle.monitor_model.specs.declared.tables.SiteRecord.{SiteRecord}
use Rattle.monitor_model.specs.declared.tables.TargetRecord.{TargetRecord}
use Rattle.monitor_model.specs.declared.tables.Tables.{Tables}
use Rattle.monitor_model.specs.Records.{number_of_slots, targets_of, last_with_entry, or_this}
use Rattle.monitor_model.specs.Layout.{head_at, sites_at, targets_at}
use Rattle.monitor_model.specs.Area.{compartment_words, site_words, target_words, head, area}
use Rattle.monitor_model.specs.Checks.{must, and_then, each_record, is_site, is_target, is_entry, sites_fail}
use Rattle.monitor_model.specs.Placed.{IsEntry}
use Rattle.monitor_model.proofs.Beyond.{no_target}
use Rattle.monitor_program.specs.Constants.{Constants, constants_with}
use Rattle.monitor_laws.proofs.Checked.{must_none, and_none}
use Rattle.monitor_laws.proofs.FlashWords.{Has, flash_has, has_front, has_back, has_record, records_length}
use Rattle.monitor_laws.proofs.Numbers.{product}
use Rattle.monitor_laws.proofs.Tables.{counts, three_words, two_words}
use Rattle.monitor_laws.proofs.Placement.{writable, Installed}
use Rattle.monitor_laws.proofs.EnterTarget.{chosen, HasTargets}
use Rattle.base_laws.proofs.Lists.{each_drop, each_take}

-- ---- the checks of sites

-- from 1 to 64 targets, all of them in the list
pub record SiteFits (t : Tables) (s : SiteRecord) : Type 0 where
  pub some : 1 ≤ s.count
  pub few : s.count ≤ 64
  pub inside : s.first + s.count ≤ length t.targets

site_fits : (t : Tables) (s : SiteRecord) → is_site t s ≡ true → SiteFits t s
site_fits t s h =
    let a = both (nat_le 1 s.count) (nat_le s.count 64 && nat_le (s.first + s.count) (length t.targets)) h in
    let b = both (nat_le s.count 64) (nat_le (s.first + s.count) (length t.targets)) a.1 in
    record { some = leb-true 1 s.count a.0; few = leb-true s.count 64 b.0; inside = leb-true (s.first + s.count) (length t.targets) b.1 }

each_fits : (t : Tables) (a : ℕ) (xs : List SiteRecord) → each_record (is_site t) a 12 xs ≡ None → Each (SiteFits t) xs
each_fits t a [] h = tt
each_fits t a (x ∷ xs) h =
    let p = and_none (must (is_site t x) a) (each_record (is_site t) (a + 12) 12 xs) h in
    (site_fits t x (must_none (is_site t x) a p.0), each_fits t (a + 12) xs p.1)

pub sites_fit : (t : Tables) → sites_fail t ≡ None → Each (SiteFits t) t.sites
sites_fit t h =
    let a = and_none (each_record (is_site t) (sites_at t) 12 t.sites) (and_then (each_record (is_target t) (targets_at t) 8 t.targets) (must (is_entry t t.main t.main_comp) t.base)) h in
    each_fits t (sites_at t) t.sites a.0

-- ---- the chosen target

-- the compartment of a target, or all ones
abbrev pub compartment_of : Option TargetRecord → ℕ
compartment_of None = 0xFFFFFFFF
compartment_of (Some g) = g.compartment

or_last : (b : Bool) (x : TargetRecord) → or_this None b x ≡ choose b (Some x) None
or_last true x = refl
or_last false x = refl

or_chosen : (b c : Bool) (x y : TargetRecord) (o : Option TargetRecord) → or_this (choose b (Some x) o) c y ≡ choose b (Some x) (or_this o c y)
or_chosen true c x y o = refl
or_chosen false c x y o = refl

last_append : (e : ℕ) (xs : List TargetRecord) (x : TargetRecord) → last_with_entry e (xs ++ x ∷ []) ≡ choose (nat_eq x.entry e) (Some x) (last_with_entry e xs)
last_append e [] x = or_last (nat_eq x.entry e) x
last_append e (y ∷ xs) x = ap (λ o. or_this o (nat_eq y.entry e) y) (last_append e xs x) ∙ or_chosen (nat_eq x.entry e) (nat_eq y.entry e) x y (last_with_entry e xs)

take_more : (xs : List TargetRecord) (n : ℕ) → n < length xs → take (suc n) xs ≡ take n xs ++ get_or xs n no_target ∷ []
take_more [] n h = absurd (omega (arith, h))
take_more (x ∷ xs) zero h = refl
take_more (x ∷ xs) (suc n) h = ap (λ l. x ∷ l) (take_more xs n (omega (arith, h)))

compartment_by : (b : Bool) (x : TargetRecord) (o : Option TargetRecord) → choose b x.compartment (compartment_of o) ≡ compartment_of (choose b (Some x) o)
compartment_by true x o = refl
compartment_by false x o = refl

-- flash has the words of a target
abbrev pub IsAt : List ℕ → (offset : ℕ) → TargetRecord → Type 0
IsAt flash o g = (read 4 o flash ≡ g.entry) × (read 4 (o + 4) flash ≡ g.compartment)

pub chosen_is : (flash : List ℕ) (o e : ℕ) (xs : List TargetRecord) (n : ℕ) → n ≤ length xs → ((k : ℕ) → k < n → IsAt flash (o + 8 * k) (get_or xs k no_target)) → chosen flash o e n ≡ compartment_of (last_with_entry e (take n xs))
chosen_is flash o e xs zero le h = refl
chosen_is flash o e xs (suc n) le h =
    let x : TargetRecord = get_or xs n no_target in
    let w = h n (omega arith) in
    ap₂ (λ a c. choose (nat_eq a e) c (chosen flash o e n)) w.0 w.1
    ∙ ap (λ r. choose (nat_eq x.entry e) x.compartment r) (chosen_is flash o e xs n (omega (arith, le)) (λ k lt. h k (omega (arith, lt))))
    ∙ compartment_by (nat_eq x.entry e) x (last_with_entry e (take n xs))
    ∙ ap compartment_of (sym (last_append e (take n xs) x))
    ∙ ap (λ l. compartment_of (last_with_entry e l)) (sym (take_more xs n (omega (arith, le))))

-- ---- it is one of the targets

last_is : (P : TargetRecord → Type 0) (e : ℕ) (xs : List TargetRecord) (g : TargetRecord) → Each P xs → last_with_entry e xs ≡ Some g → (g.entry ≡ e) × P g
last_is P e [] g ps h = absurd (let z : ⊥ = cc in z)
last_is P e (x ∷ xs) g ps h = by (λ l. last_is P e xs g ps.1 l) (last_with_entry e xs) refl (nat_eq x.entry e) refl h
  where
    by : (last_with_entry e xs ≡ Some g → (g.entry ≡ e) × P g) → (o : Option TargetRecord) → last_with_entry e xs ≡ o → (b : Bool) → nat_eq x.entry e ≡ b → or_this o b x ≡ Some g → (g.entry ≡ e) × P g
    by ih (Some y) l b z i = ih (l ∙ i)
    by ih None l true z i = let s : x ≡ g = cc in subst (λ g. (g.entry ≡ e) × P g) s (eqb-true x.entry e z, ps.0)
    by ih None l false z i = absurd (let y : ⊥ = cc in y)

pub target_is : (t : Tables) (s : SiteRecord) (e : ℕ) (g : TargetRecord) → Each (λ (g : TargetRecord). IsEntry t g.entry g.compartment) t.targets → last_with_entry e (targets_of t s) ≡ Some g → (g.entry ≡ e) × IsEntry t g.entry g.compartment
target_is t s e g ps h = last_is (λ (g : TargetRecord). IsEntry t g.entry g.compartment) e (targets_of t s) g (each_take (λ (g : TargetRecord). IsEntry t g.entry g.compartment) s.count (drop s.first t.targets) (each_drop (λ (g : TargetRecord). IsEntry t g.entry g.compartment) s.first t.targets ps)) h

-- ---- in flash

dropped : (xs : List TargetRecord) (n k : ℕ) → get_or (drop n xs) k no_target ≡ get_or xs (n + k) no_target
dropped xs zero k = let z : k ≡ 0 + k = omega arith in ap (λ k. get_or xs k no_target) z
dropped [] (suc n) k = refl
dropped (x ∷ xs) (suc n) k = dropped xs n k ∙ (let z : suc (n + k) ≡ suc n + k = omega arith in ap (λ k. get_or (x ∷ xs) k no_target) z)

length_dropped : (xs : List TargetRecord) (n c : ℕ) → n + c ≤ length xs → c ≤ length (drop n xs)
length_dropped xs zero c h = omega (arith, h)
length_dropped [] (suc n) c h = absurd (omega (arith, h))
length_dropped (x ∷ xs) (suc n) c h = length_dropped xs n c (omega (arith, h))

module _ (installed : Installed) where
  open installed use {image as i, tables as t, placed as p, has_tables as has, stub}

  abbrev k : Constants
  k = constants_with stub t

  abbrev targets_offset : ℕ
  targets_offset = head_at t - i.flash_base + 4 * 8 + 4 * length (flat_map compartment_words t.comps) + 4 * length (flat_map site_words t.sites)

  has_targets : Has i targets_offset (flat_map target_words t.targets)
  has_targets =
      let whole = flash_has i (head_at t) (area t) has in
      let a = has_back i (head_at t - i.flash_base) (head t) _ whole in
      let b = has_back i (head_at t - i.flash_base + 4 * 8) (flat_map compartment_words t.comps) _ a in
      let c = has_back i (head_at t - i.flash_base + 4 * 8 + 4 * length (flat_map compartment_words t.comps)) (flat_map site_words t.sites) _ b in
      has_front i targets_offset (flat_map target_words t.targets) _ c

  has_target : (n : ℕ) → n < length t.targets → Has i (targets_offset + 4 * (2 * n)) (target_words (get_or t.targets n no_target))
  has_target n lt = has_record i target_words 2 t.targets no_target targets_offset (two_words t.targets) has_targets n lt

  targets_at_is : (n : ℕ) → n < length t.targets → k.targets_at ≡ i.flash_base + targets_offset
  targets_at_is n lt =
      let c = records_length compartment_words (2 * number_of_slots t + 4) t.comps (counts i t (writable installed) stub) in
      let s = records_length site_words 3 t.sites (three_words t.sites) in
      let m = product (number_of_slots t) (length t.comps) in
      let e = p.tables_first in
      let h = p.rules.flash_highest in
      let r = p.rules.flash_most in
      let x = (has_target n lt).1 in
      omega (arith, c, s, m, e, h, r, x)

  -- of a site
  module _ (s : SiteRecord) (f : SiteFits t s) where
    abbrev pub to : ℕ
    to = targets_offset + 8 * s.first

    last_in : s.first + (s.count - 1) < length t.targets
    last_in = let a = f.some in let b = f.inside in omega (arith, a, b)

    pub site_targets : HasTargets installed s.first s.count to
    site_targets = record {
      at = let e = targets_at_is (s.first + (s.count - 1)) last_in in omega (arith, e);
      first_low = let x = (has_target (s.first + (s.count - 1)) last_in).1 in let r = p.rules.flash_most in omega (arith, x, r);
      aligned = let e = p.tables_first in omega (arith, e);
      room = let x = (has_target (s.first + (s.count - 1)) last_in).2.1 in let a = f.some in omega (arith, x, a);
      few = f.few;
    }

    word_at : (n : ℕ) → n < s.count → IsAt i.flash (to + 8 * n) (get_or (drop s.first t.targets) n no_target)
    word_at n lt =
        let h = has_target (s.first + n) (let b = f.inside in omega (arith, b, lt)) in
        let z : targets_offset + 4 * (2 * (s.first + n)) ≡ to + 8 * n = omega arith in
        subst (λ g. IsAt i.flash (to + 8 * n) g) (sym (dropped t.targets s.first n))
        (subst (λ o. IsAt i.flash o (get_or t.targets (s.first + n) no_target)) z (h.0, h.2.0))

    pub site_chosen : (e : ℕ) → chosen i.flash to e s.count ≡ compartment_of (last_with_entry e (targets_of t s))
    site_chosen e = chosen_is i.flash to e (drop s.first t.targets) s.count (length_dropped t.targets s.first s.count f.inside) word_at
