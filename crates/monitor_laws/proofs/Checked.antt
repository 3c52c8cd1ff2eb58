-- What the checks of an image tell where none of them fails.
use Rattle.std.proofs.Common.{◌≡◌, ◌≢◌, ℕ, ◌+◌, ◌*◌, ◌%◌, ◌≤◌, Bool, true, false, not, ◌&&◌, List, [], ◌∷◌, ◌++◌, length, nat_eq, nat_lt, nat_le, Option, Some, None, refl, sym, ap₂, arith}
use Rattle.std.proofs.lemmas.Bool.Decides.{nat_tests}
use Rattle.std.proofs.lemmas.Bool.{ltb-true, eqb-true, leb-true, and_parts as both}
use Rattle.machine_devices.specs.declared.image.Image.{Image}
use Rattle.machine_devices.specs.Rules.{block_size}
use Rattle.base_laws.specs.Lists.{Each}
use Rattle.base_ranges.specs.Ranges.{IsInside, AreApart, are_apart, is_inside}
use Rattle.base_ranges.proofs.Decisions.{decides_inside, decides_apart}
use Rattle.monitor_model.specs.declared.sound.AuditCheck.{AuditCheck}
use Rattle.monitor_model.specs.declared.sound.AuditCheck.TheVariants as check
use Rattle.monitor_model.specs.declared.tables.TargetRecord.{TargetRecord}
use Rattle.monitor_model.specs.declared.tables.Tables.{Tables}
use Rattle.monitor_model.specs.Records.{compartment_at}
use Rattle.monitor_model.specs.Layout.{page_size, head_size, head_at, compartment_size, compartments_at, sites_at, targets_at, area_end, tables_size}
use Rattle.monitor_model.specs.RegionChecks.{is_compartment}
use Rattle.monitor_model.specs.Checks.{must, and_then, each_record, header_fails, tables_fail, difference, code_fails, regions_fail, is_entry, is_target, is_site, sites_fail, lends_fail, inits_fail}
use Rattle.monitor_model.specs.MonitorCode.{MonitorCode}
use Rattle.monitor_model.specs.Sound.{Failure, unless, first_failure, Sound}
use Rattle.monitor_model.specs.Placed.{IsEntry}
use Rattle.machine_protection.specs.Regions.{holds}

pub is_not : (a b : ℕ) → not (nat_eq a b) ≡ true → a ≢ b
is_not a b h = grind (arith, nat_tests)

-- ---- failures

pub must_none : (b : Bool) (a : ℕ) → must b a ≡ None → b ≡ true
must_none true a h = refl
must_none false a h = cc

pub and_none : (o p : Option ℕ) → and_then o p ≡ None → (o ≡ None) × (p ≡ None)
and_none (Some a) p h = cc
and_none None p h = (refl, h)

pub unless_none : (c : AuditCheck) (o : Option ℕ) (l : Option Failure) → unless c o l ≡ None → (o ≡ None) × (l ≡ None)
unless_none c (Some a) l h = cc
unless_none c None l h = (refl, h)

each_none : {A : Type 0} (test : A → Bool) (a z : ℕ) (xs : List A) → each_record test a z xs ≡ None → Each (λ x. test x ≡ true) xs
each_none test a z [] h = tt
each_none test a z (x ∷ xs) h =
    let p = and_none (must (test x) a) (each_record test (a + z) z xs) h in
    (must_none (test x) a p.0, each_none test (a + z) z xs p.1)

-- the first list stands at the beginning of the second
pub begins_with : (xs ys : List ℕ) (a : ℕ) → difference xs ys a ≡ None → (zs : List ℕ) × (ys ≡ xs ++ zs)
begins_with [] ys a h = (ys, refl)
begins_with (x ∷ xs) [] a h = cc
begins_with (x ∷ xs) (y ∷ ys) a h =
    let p = and_none (must (nat_eq x y) a) (difference xs ys (a + 1)) h in
    let e : x ≡ y = eqb-true x y (must_none (nat_eq x y) a p.0) in
    let r = begins_with xs ys (a + 1) p.1 in
    (r.0, ap₂ (λ a b. a ∷ b) (sym e) r.1)

-- ---- each check

pub record NoneFails (code : MonitorCode) (i : Image) (t : Tables) : Type 0 where
  pub header : header_fails i ≡ None
  pub tables : tables_fail i t ≡ None
  pub page : code_fails code.page i t ≡ None
  pub regions : regions_fail i t ≡ None
  pub sites : sites_fail t ≡ None
  pub inits : inits_fail i t ≡ None

pub none_fails : (code : MonitorCode) (i : Image) (t : Tables) → Sound code i t → NoneFails code i t
unfolding first_failure
none_fails code i t s =
    let a = unless_none check.Header (header_fails i) _ s.none_fails in
    let b = unless_none check.Tables (tables_fail i t) _ a.1 in
    let c = unless_none check.Code (code_fails code.page i t) _ b.1 in
    let d = unless_none check.Regions (regions_fail i t) _ c.1 in
    let e = unless_none check.Sites (sites_fail t) _ d.1 in
    let f = unless_none check.Lends (lends_fail t) _ e.1 in
    let g = unless_none check.Inits (inits_fail i t) None f.1 in
    record { header = a.0; tables = b.0; page = c.0; regions = d.0; sites = e.0; inits = g.0 }

pub record Header (i : Image) : Type 0 where
  pub monitor : i.monitor ≢ 0
  pub stack : i.stack_size ≢ 0
  pub apart : AreApart i.monitor block_size i.stack_base i.stack_size
  pub room : page_size + head_size ≤ length i.flash

pub header_is : (i : Image) → header_fails i ≡ None → Header i
header_is i h =
    let a = both (not (nat_eq i.monitor 0)) (not (nat_eq i.stack_size 0) && (are_apart i.monitor block_size i.stack_base i.stack_size && nat_le (page_size + head_size) (length i.flash))) (must_none _ i.flash_base h) in
    let b = both (not (nat_eq i.stack_size 0)) (are_apart i.monitor block_size i.stack_base i.stack_size && nat_le (page_size + head_size) (length i.flash)) a.1 in
    let c = both (are_apart i.monitor block_size i.stack_base i.stack_size) (nat_le (page_size + head_size) (length i.flash)) b.1 in
    record { monitor = is_not i.monitor 0 a.0; stack = is_not i.stack_size 0 b.0; apart = (decides_apart i.monitor block_size i.stack_base i.stack_size).0 c.0; room = leb-true (page_size + head_size) (length i.flash) c.1 }

pub record TableHead (i : Image) (t : Tables) : Type 0 where
  pub some : 1 ≤ length t.comps
  pub most : length t.comps ≤ 64
  pub lends : length t.lends ≤ 32
  pub stack_base : t.stack.base ≡ i.stack_base
  pub stack_size : t.stack.size ≡ i.stack_size
  pub monitor : t.monitor ≡ i.monitor
  pub inside : IsInside t.base (tables_size t) i.flash_base (length i.flash)
  pub area : area_end t ≤ t.base + tables_size t

pub head_is : (i : Image) (t : Tables) → tables_fail i t ≡ None → TableHead i t
head_is i t h =
    let a = and_none (must (nat_le 1 (length t.comps) && nat_le (length t.comps) 64) (head_at t)) _ h in
    let b = and_none (must (nat_le (length t.sites) 4096) (head_at t + 4)) _ a.1 in
    let c = and_none (must (nat_le (length t.targets) (64 * length t.sites)) (head_at t + 8)) _ b.1 in
    let d = and_none (must (nat_le (length t.lends) 32) (head_at t + 12)) _ c.1 in
    let e = and_none (must (nat_eq t.stack.base i.stack_base) (head_at t + 20)) _ d.1 in
    let f = and_none (must (nat_eq t.stack.size i.stack_size) (head_at t + 24)) _ e.1 in
    let g = and_none (must (nat_eq t.monitor i.monitor) (head_at t + 28)) (must (is_inside t.base (tables_size t) i.flash_base (length i.flash) && nat_le (area_end t) (t.base + tables_size t)) (head_at t)) f.1 in
    let n = both (nat_le 1 (length t.comps)) (nat_le (length t.comps) 64) (must_none _ (head_at t) a.0) in
    let m = both (is_inside t.base (tables_size t) i.flash_base (length i.flash)) (nat_le (area_end t) (t.base + tables_size t)) (must_none _ (head_at t) g.1) in
    record {
      some = leb-true 1 (length t.comps) n.0;
      most = leb-true (length t.comps) 64 n.1;
      lends = leb-true (length t.lends) 32 (must_none _ (head_at t + 12) d.0);
      stack_base = eqb-true t.stack.base i.stack_base (must_none _ (head_at t + 20) e.0);
      stack_size = eqb-true t.stack.size i.stack_size (must_none _ (head_at t + 24) f.0);
      monitor = eqb-true t.monitor i.monitor (must_none _ (head_at t + 28) g.0);
      inside = (decides_inside t.base (tables_size t) i.flash_base (length i.flash)).0 m.0;
      area = leb-true (area_end t) (t.base + tables_size t) m.1;
    }

pub regions_are : (i : Image) (t : Tables) → regions_fail i t ≡ None → Each (λ c. is_compartment i t c ≡ true) t.comps
regions_are i t h = each_none (is_compartment i t) (compartments_at t) (compartment_size t) t.comps h

entry_of : (t : Tables) (e c : ℕ) → is_entry t e c ≡ true → IsEntry t e c
entry_of t e c h =
    let a = both (nat_lt c (length t.comps)) (nat_eq (e % 2) 1 && holds (compartment_at t c).code e) h in
    let b = both (nat_eq (e % 2) 1) (holds (compartment_at t c).code e) a.1 in
    record { odd = eqb-true (e % 2) 1 b.0; compartment_in = ltb-true c (length t.comps) a.0; in_code = b.1 }

pub record Entries (t : Tables) : Type 0 where
  pub targets : Each (λ (g : TargetRecord). IsEntry t g.entry g.compartment) t.targets
  pub main : IsEntry t t.main t.main_comp

pub entries_are : (t : Tables) → sites_fail t ≡ None → Entries t
entries_are t h =
    let a = and_none (each_record (is_site t) (sites_at t) 12 t.sites) (and_then (each_record (is_target t) (targets_at t) 8 t.targets) (must (is_entry t t.main t.main_comp) t.base)) h in
    let b = and_none (each_record (is_target t) (targets_at t) 8 t.targets) (must (is_entry t t.main t.main_comp) t.base) a.1 in
    record { targets = go t.targets (each_none (is_target t) (targets_at t) 8 t.targets b.0); main = entry_of t t.main t.main_comp (must_none _ t.base b.1) }
  where
    go : (gs : List TargetRecord) → Each (λ g. is_target t g ≡ true) gs → Each (λ (g : TargetRecord). IsEntry t g.entry g.compartment) gs
    go [] e = tt
    go (g ∷ gs) e = (entry_of t g.entry g.compartment e.0, go gs e.1)
