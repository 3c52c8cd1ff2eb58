-- The linker's promises hold of the image of two compartments.
use Rattle.std.proofs.Common.{◌≡◌, ℕ, zero, suc, ◌+◌, ◌-◌, ◌/◌, ◌%◌, ◌<◌, ◌≤◌, Bool, true, false, ◌&&◌, ◌||◌, nat_eq, List, [], ◌∷◌, ◌++◌, length, get_or, Some, refl, sym, ap, ◌∙◌, subst, arith, inl, inr, length-append}
use Rattle.std.specs.Prelude.{Contains, replicate}
use Rattle.std.proofs.lemmas.List.{get_or-append-add}
use Rattle.std.proofs.Math.ListN.{get_or-append}
use Rattle.base_words.specs.Bytes.{read, cut}
use Rattle.base_names.specs.Names.{is_name, is_reserved, reserved, declaration_words, instruction_words, type_words, operation_words, comparison_words}
use Rattle.machine_thumb.specs.Table.{encode}
use Rattle.machine_protection.specs.Regions.{holds}
use Rattle.machine_protection.specs.Protection.{deciding}
use Rattle.machine_bus.specs.Locations.{inside, location, find_window, InWindow}
use Rattle.machine_devices.specs.Rules.{ObeysRules, IsWindow}
use Rattle.machine_model.specs.CodeBytes.{FlashHasBytes}
use Rattle.ir_model.specs.declared.object.ObjId.TheVariants.{Global, Local}
use Rattle.ir_model.specs.Layout.{rounded_up}
use Rattle.ir_model.specs.Resolved.{global_at, window_at, local_at}
use Rattle.ir_model.specs.State.{GlobalObject, PeriphObject, LocalObject}
use Rattle.ir_model.specs.Objects.{object_by}
use Rattle.plan_model.specs.declared.needs.SiteNeed.{SiteNeed}
use Rattle.plan_model.specs.Lending.{lend_number}
use Rattle.plan_model.specs.Crossing.{site_number}
use Rattle.plan_model.specs.Needs.{need_of}
use Rattle.need_laws.specs.Reached.{IsListed, HasTarget}
use Rattle.code_model.specs.Entry.{frame_code}
use Rattle.code_model.specs.Templates.{inst_items, term_items}
use Rattle.code_model.specs.Sizes.{inst_size, term_size, entry_size}
use Rattle.code_model.specs.CompartmentCode.{compartment_items, compartment_labels, compartment_size}
use Rattle.code_effects.specs.Items.{ItemsIn, ItemsStand}
use Rattle.monitor_model.specs.Setting.{may_store, may_load, has_target}
use Rattle.monitor_model.specs.Records.{compartment_at}
use Rattle.refine.specs.Owned.{MemoryRules}
use Rattle.refine.specs.Builds.{func, groups_of, site_at, half_at, entry_at, compartment_of, global_starts, places_at}
use Rattle.refine.specs.Linked.{Linked, HasCode, HasGlobals, HasWindows, HasLoans}
use Rattle.example_refine.specs.TwoCompartments.{program, needs, groups, places, bytes_of, flash, image, setting, tables, build}
use Rattle.example_refine.proofs.InTable.{pieces_in_table}
use Rattle.machine_bus.proofs.Ranges.{outside_behind as below_range, inside_yes as in_range}
use Rattle.base_laws.proofs.Lists.{only_one as only}
use Rattle.need_lists.proofs.Parts.{in_none}

-- ---- the image

window_name : IsWindow (record { name = 84 ∷ 73 ∷ 77 ∷ []; base = 0x40010000; size = 128 })
unfolding is_name is_reserved reserved declaration_words instruction_words type_words operation_words comparison_words
window_name = record { named = refl; range = record { power = (7, omega arith, omega arith, refl); aligned = refl; place = (omega arith, omega arith) } }

flash_length : length flash ≡ 1148
unfolding encode frame_code inst_items term_items inst_size term_size entry_size site_number lend_number
flash_length = refl

obeys : ObeysRules image
obeys =
    let l = flash_length in
    record {
      flash_aligned = refl;
      flash_highest = omega arith;
      flash_least = omega arith;
      flash_most = omega arith;
      flash_words = omega arith;
      ram_aligned = refl;
      ram_lowest = omega arith;
      ram_highest = omega arith;
      ram_least = omega arith;
      ram_most = omega arith;
      ram_blocks = refl;
      monitor = inr (refl, (omega arith, omega arith));
      regions = inl refl;
      stack = inr (record { size = (11, omega arith, omega arith, refl); aligned = refl; place = (omega arith, omega arith) });
      count = omega arith;
      windows = (window_name, tt, tt);
    }

memory : MemoryRules setting
memory = record {
  image = obeys;
  stack_aligned = refl;
  eighth_aligned = refl;
  some = omega arith;
  fits = omega arith;
  block_fits = omega arith;
  apart = inr (omega arith);
}

-- ---- code

-- bytes that stand behind others and before others
holds_part : (xs ys zs : List ℕ) (o : ℕ) → length xs ≡ o → image.flash ≡ xs ++ (ys ++ zs) → FlashHasBytes image o ys
holds_part xs ys zs o n e =
    let l = ap (λ (f : List ℕ). length f) e in
    let a = length-append xs (ys ++ zs) in
    let b = length-append ys zs in
    record {
      fits = omega arith;
      holds = λ k l. ap (λ (f : List ℕ). get_or f (o + k) 0) e ∙ ap (λ (m : ℕ). get_or (xs ++ (ys ++ zs)) (m + k) 0) (sym n) ∙ get_or-append-add xs (ys ++ zs) k 0 ∙ get_or-append ys zs 0 k l;
    }

module _ (items : ItemsStand) where
  lies : (c : ℕ) → c < 2 → ItemsIn image (compartment_labels program (groups_of build) places c) (get_or places.bases c 0) (compartment_items program (groups_of build) places c)
  unfolding encode frame_code inst_items term_items inst_size term_size entry_size site_number lend_number
  lies zero h =
      items.from_bytes image (compartment_labels program (groups_of build) places 0) 1024 (compartment_items program (groups_of build) places 0) obeys
      (pieces_in_table (compartment_labels program (groups_of build) places 0) 0x08000400 (compartment_items program (groups_of build) places 0) refl)
      (holds_part (replicate 1016 0 ++ 7 ∷ replicate 7 0) (bytes_of 0) (replicate 16 255 ++ bytes_of 1) 1024 refl refl)
  lies (suc zero) h =
      items.from_bytes image (compartment_labels program (groups_of build) places 1) 1088 (compartment_items program (groups_of build) places 1) obeys
      (pieces_in_table (compartment_labels program (groups_of build) places 1) 0x08000440 (compartment_items program (groups_of build) places 1) refl)
      (holds_part (replicate 1016 0 ++ (7 ∷ replicate 7 0 ++ (bytes_of 0 ++ replicate 16 255))) (bytes_of 1) [] 1088 refl refl)
  lies (suc (suc c)) h = absurd (omega arith)

first_size : compartment_size program (groups_of build) 0 ≡ 48
unfolding inst_size term_size entry_size site_number lend_number
first_size = refl

second_size : compartment_size program (groups_of build) 1 ≡ 60
unfolding inst_size term_size entry_size site_number lend_number
second_size = refl

-- ---- regions

and_true : (b : Bool) → b ≡ true → (b && true) ≡ true
and_true true e = refl
and_true false e = cc

or_true : (b : Bool) → (b || true) ≡ true
or_true true = refl
or_true false = refl

first_region : (a : ℕ) → 0x08000400 ≤ a → a < 0x08000400 + 48 → holds (compartment_at tables 0).code a ≡ true
unfolding holds
first_region a l u = let z : a / 64 ≡ 2097168 = omega arith in and_true (nat_eq (a / 64) 2097168) (ap (λ (y : ℕ). nat_eq y 2097168) z)

second_region : (a : ℕ) → 0x08000440 ≤ a → a < 0x08000440 + 60 → holds (compartment_at tables 1).code a ≡ true
unfolding holds
second_region a l u = let z : a / 64 ≡ 2097169 = omega arith in and_true (nat_eq (a / 64) 2097169) (ap (λ (y : ℕ). nat_eq y 2097169) z)

data_region : (a : ℕ) → 0x20000C00 ≤ a → a < 0x20000C00 + 4 → holds (record { rbar = 0x20000C14; rasr = 0x12060009 }) a ≡ true
unfolding holds
data_region a l u = let z : a / 32 ≡ 16777312 = omega arith in and_true (nat_eq (a / 32) 16777312) (ap (λ (y : ℕ). nat_eq y 16777312) z)

window_region : (a : ℕ) → 0x40010000 ≤ a → a < 0x40010000 + 128 → holds (record { rbar = 0x40010015; rasr = 0x1301000D }) a ≡ true
unfolding holds
window_region a l u = let z : a / 128 ≡ 8389120 = omega arith in and_true (nat_eq (a / 128) 8389120) (ap (λ (y : ℕ). nat_eq y 8389120) z)

free_slot : (b a : ℕ) → holds (record { rbar = b; rasr = 0 }) a ≡ false
unfolding holds
free_slot b a = refl

stores_there : (a : ℕ) → 0x40010000 ≤ a → a < 0x40010000 + 128 → setting.may_store 1 a ≡ true
unfolding may_store deciding
stores_there a l u =
    let w = window_region a l u in
    let x = free_slot 0x16 a in
    let y = free_slot 0x17 a in
    rw (w, x, y) refl

loads_there : (a : ℕ) → 0x20000C00 ≤ a → a < 0x20000C00 + 4 → setting.may_load 1 a ≡ true
unfolding may_load
loads_there a l u = let d = data_region a l u in rw d (or_true (inside 0x08000000 (length flash) a))

own_code : (c a : ℕ) → c < 2 → get_or places.bases c 0 ≤ a → a < get_or places.bases c 0 + compartment_size program (groups_of build) c → setting.has_code c a ≡ true
own_code zero a h l u = let e = first_size in first_region a l (omega (arith, e, u))
own_code (suc zero) a h l u = let e = second_size in second_region a l (omega (arith, e, u))
own_code (suc (suc c)) a h l u = absurd (omega arith)

bases_aligned : (c : ℕ) → get_or places.bases c 0 % 4 ≡ 0
bases_aligned zero = refl
bases_aligned (suc zero) = refl
bases_aligned (suc (suc c)) = refl

each_grouped : (f : ℕ) → f < 2 → compartment_of build f < 2
each_grouped zero h = omega arith
each_grouped (suc zero) h = omega arith
each_grouped (suc (suc f)) h = absurd (omega arith)

call_site : SiteNeed
call_site = record { func = 0; block = 0; inst = 1; targets = 1 ∷ [] }

HasIt : (f b p h : ℕ) → Type 0
HasIt f b p h = (s : ℕ) → site_at build f b p ≡ Some s → setting.has_target s (half_at build f b p) (entry_at build h) (compartment_of build h) ≡ true

the_call : HasIt 0 0 1 1
unfolding HasIt has_target site_number lend_number half_at entry_at places_at inst_size term_size entry_size
the_call zero e = refl
the_call (suc s) e = cc

targets : (f b p s h : ℕ) → f < 2 → site_at build f b p ≡ Some s → HasTarget needs f b p h → setting.has_target s (half_at build f b p) (entry_at build h) (compartment_of build h) ≡ true
unfolding HasIt call_site
targets f b p s h l e t =
    let q : call_site ≡ t.site = only call_site t.site t.listed in
    let f0 : 0 ≡ f = ap (λ (x : SiteNeed). x.func) q ∙ t.func in
    let b0 : 0 ≡ b = ap (λ (x : SiteNeed). x.block) q ∙ t.block in
    let p1 : 1 ≡ p = ap (λ (x : SiteNeed). x.inst) q ∙ t.inst in
    let c : Contains (1 ∷ []) h = subst (λ (x : SiteNeed). Contains x.targets h) (sym q) t.target in
    let h1 : 1 ≡ h = only 1 h c in
    let all : HasIt f b p h = subst (λ (x : ℕ). HasIt x b p h) f0 (subst (λ (x : ℕ). HasIt 0 x p h) b0 (subst (λ (x : ℕ). HasIt 0 0 x h) p1 (subst (λ (x : ℕ). HasIt 0 0 1 x) h1 the_call))) in
    all s e

code : ItemsStand → HasCode build
unfolding entry_at site_number lend_number inst_size term_size entry_size
code items = record {
  count = refl;
  each = each_grouped;
  lies = lies items;
  inside = own_code;
  aligned = bases_aligned;
  targets = targets;
  main = refl;
  main_compartment = refl;
  stub_even = refl;
  stub_low = omega arith;
}

-- ---- what each function lists

global_read : (f x : ℕ) → f < 2 → IsListed (need_of needs f).read (GlobalObject x) → 1 ≡ f
global_read zero x h (o, c, e) = let z : LocalObject 0 0 ≡ GlobalObject x = ap object_by (only (Local 0 0) o c) ∙ e in cc
global_read (suc zero) x h i = refl
global_read (suc (suc f)) x h i = absurd (omega arith)

no_global_written : (f x : ℕ) → f < 2 → IsListed (need_of needs f).written (GlobalObject x) → ⊥
no_global_written zero x h (o, c, e) = in_none o c
no_global_written (suc zero) x h (o, (zero, l, q), e) = let z : PeriphObject 0 ≡ GlobalObject x = ap object_by q ∙ e in cc
no_global_written (suc zero) x h (o, (suc zero, l, q), e) = let z : LocalObject 0 0 ≡ GlobalObject x = ap object_by q ∙ e in cc
no_global_written (suc zero) x h (o, (suc (suc k), l, q), e) = omega arith
no_global_written (suc (suc f)) x h i = omega arith

periph_written : (f q : ℕ) → f < 2 → IsListed (need_of needs f).written (PeriphObject q) → 1 ≡ f
periph_written zero q h (o, c, e) = absurd (in_none o c)
periph_written (suc zero) q h i = refl
periph_written (suc (suc f)) q h i = absurd (omega arith)

no_periph_read : (f q : ℕ) → f < 2 → IsListed (need_of needs f).read (PeriphObject q) → ⊥
no_periph_read zero q h (o, c, e) = let z : LocalObject 0 0 ≡ PeriphObject q = ap object_by (only (Local 0 0) o c) ∙ e in cc
no_periph_read (suc zero) q h (o, c, e) = let z : GlobalObject 0 ≡ PeriphObject q = ap object_by (only (Global 0) o c) ∙ e in cc
no_periph_read (suc (suc f)) q h i = omega arith

local_written : (f h l : ℕ) → f < 2 → IsListed (need_of needs f).written (LocalObject h l) → (1 ≡ f) × (0 ≡ h) × (0 ≡ l)
local_written zero h l u (o, c, e) = absurd (in_none o c)
local_written (suc zero) h l u (o, (zero, m, q), e) = let z : PeriphObject 0 ≡ LocalObject h l = ap object_by q ∙ e in cc
local_written (suc zero) h l u (o, (suc zero, m, q), e) = let z : LocalObject 0 0 ≡ LocalObject h l = ap object_by q ∙ e in (refl, cc, cc)
local_written (suc zero) h l u (o, (suc (suc k), m, q), e) = absurd (omega arith)
local_written (suc (suc f)) h l u i = absurd (omega arith)

local_read : (f h l : ℕ) → f < 2 → IsListed (need_of needs f).read (LocalObject h l) → (0 ≡ f) × (0 ≡ h) × (0 ≡ l)
local_read zero h l u (o, c, e) = let z : LocalObject 0 0 ≡ LocalObject h l = ap object_by (only (Local 0 0) o c) ∙ e in (refl, cc, cc)
local_read (suc zero) h l u (o, c, e) = let z : GlobalObject 0 ≡ LocalObject h l = ap object_by (only (Global 0) o c) ∙ e in cc
local_read (suc (suc f)) h l u i = absurd (omega arith)

-- ---- globals

loads_global : (f x j : ℕ) → f < 2 → IsListed (need_of needs f).read (GlobalObject x) → x < 1 → j < 4 → setting.may_load (compartment_of build f) (0x20000C00 + j) ≡ true
loads_global f x j h i u v =
    let r : setting.may_load 1 (0x20000C00 + j) ≡ true = loads_there (0x20000C00 + j) (omega arith) (omega arith) in
    subst (λ (y : ℕ). setting.may_load (compartment_of build y) (0x20000C00 + j) ≡ true) (global_read f x h i) r

globals : HasGlobals build
unfolding global_starts read cut
globals = record {
  count = refl;
  from_base = from_base;
  to_end = to_end;
  aligned = (refl, tt);
  inside = (omega arith, tt);
  laid = (tt, tt);
  off = ((inr (omega arith), inr (omega arith)), tt);
  initial = λ places. (inl (omega arith, omega arith, refl), tt);
  loads = loads;
  stores = λ f x j h i u v. absurd (no_global_written f x h i);
}
  where
    from_base : (x : ℕ) → x < 1 → 0x20000000 ≤ get_or places.globals x 0
    from_base zero h = omega arith
    from_base (suc x) h = absurd (omega arith)

    to_end : (x : ℕ) → x < 1 → get_or places.globals x 0 + (global_at program x).shape.size ≤ 0x20001000
    to_end zero h = omega arith
    to_end (suc x) h = absurd (omega arith)

    loads : (f x j : ℕ) → f < 2 → IsListed (need_of needs f).read (GlobalObject x) → x < 1 → j < (global_at program x).shape.size →
        setting.may_load (compartment_of build f) (get_or places.globals x 0 + j) ≡ true
    loads f zero j h i u v = loads_global f 0 j h i u v
    loads f (suc x) j h i u v = absurd (omega arith)

-- ---- windows

in_window : (j : ℕ) → j < 128 → inside 0x40010000 128 (0x40010000 + j) ≡ true
in_window j h = in_range 0x40010000 128 (0x40010000 + j) (omega arith) (omega arith)

windows : HasWindows build
unfolding location find_window
windows = record { bases = bases; aligned = aligned; leads = leads; loads = λ f q j h i u l. absurd (no_periph_read f q h i); stores = stores }
  where
    bases : (q : ℕ) → q < 1 → get_or places.windows q 0 ≡ (window_at program q).base
    bases zero h = refl
    bases (suc q) h = absurd (omega arith)

    aligned : (q : ℕ) → q < 1 → get_or places.windows q 0 % 4 ≡ 0
    aligned zero h = refl
    aligned (suc q) h = absurd (omega arith)

    leads : (q at : ℕ) → q < 1 → at < (window_at program q).size → location image ((window_at program q).base + at) ≡ InWindow q at
    leads zero at h l =
        let n = flash_length in
        let r : inside 0x20000000 4096 (0x40010000 + at) ≡ false = below_range 0x20000000 4096 (0x40010000 + at) (omega arith) in
        let f : inside 0x08000000 (length flash) (0x40010000 + at) ≡ false = below_range 0x08000000 (length flash) (0x40010000 + at) (omega arith) in
        let w : inside 0x40010000 128 (0x40010000 + at) ≡ true = in_window at l in
        let z : 0x40010000 + at - 0x40010000 ≡ at = omega arith in
        rw (r, f, w) (ap (λ (y : ℕ). InWindow 0 y) z)
    leads (suc q) at h l = absurd (omega arith)

    stores : (f q j : ℕ) → f < 2 → IsListed (need_of needs f).written (PeriphObject q) → q < 1 → j < (window_at program q).size → setting.may_store (compartment_of build f) ((window_at program q).base + j) ≡ true
    stores f zero j h c u l = subst (λ (y : ℕ). setting.may_store (compartment_of build y) (0x40010000 + j) ≡ true) (periph_written f 0 h c) (stores_there (0x40010000 + j) (omega arith) (omega arith))
    stores f (suc q) j h c u l = absurd (omega arith)

-- ---- the local

first_number : (n : ℕ) → lend_number needs groups 0 0 ≡ Some n → 0 ≡ n
unfolding lend_number
first_number zero e = refl
first_number (suc n) e = cc

lent_one : (P : (f l n : ℕ) → Type 0) → P 0 0 0 → (f l n : ℕ) → l < length (func build f).locals → lend_number needs groups f l ≡ Some n → P f l n
lent_one P p zero zero n h e = subst (λ (x : ℕ). P 0 0 x) (first_number n e) p
lent_one P p zero (suc l) n h e = absurd (omega arith)
lent_one P p (suc zero) l n h e = absurd (omega arith)
lent_one P p (suc (suc f)) l n h e = absurd (omega arith)

loans : HasLoans build
loans = record {
  there = λ f l n h e. lent_one (λ f l n. n < 1) (omega arith) f l n h e;
  least = λ f l n h e. lent_one (λ f l n. (local_at program f l).size ≤ get_or setting.sizes n 0) (omega arith) f l n h e;
  most = λ f l n h e. lent_one (λ f l n. get_or setting.sizes n 0 ≤ rounded_up (local_at program f l).size 4) (omega arith) f l n h e;
  stores = stores;
  loads = λ k. loads;
  open_loads = λ k c o h. cc;
}
  where
    stores : (f h l n : ℕ) → f < 2 → IsListed (need_of needs f).written (LocalObject h l) → lend_number needs groups h l ≡ Some n → setting.has_loan (compartment_of build f) n ≡ true
    stores f h l n u i e =
        let w = local_written f h l u i in
        let e1 : lend_number needs groups 0 l ≡ Some n = subst (λ (x : ℕ). lend_number needs groups x l ≡ Some n) (sym w.1) e in
        let e2 : lend_number needs groups 0 0 ≡ Some n = subst (λ (x : ℕ). lend_number needs groups 0 x ≡ Some n) (sym w.2) e1 in
        subst (λ (x : ℕ). setting.has_loan (compartment_of build x) n ≡ true) w.0 (subst (λ (x : ℕ). setting.has_loan 1 x ≡ true) (first_number n e2) refl)

    loads : (f h l n : ℕ) → f < 2 → IsListed (need_of needs f).read (LocalObject h l) → lend_number needs groups h l ≡ Some n → setting.has_read_loan (compartment_of build f) n ≡ true
    loads f h l n u i e =
        let w = local_read f h l u i in
        let e1 : lend_number needs groups 0 l ≡ Some n = subst (λ (x : ℕ). lend_number needs groups x l ≡ Some n) (sym w.1) e in
        let e2 : lend_number needs groups 0 0 ≡ Some n = subst (λ (x : ℕ). lend_number needs groups 0 x ≡ Some n) (sym w.2) e1 in
        subst (λ (x : ℕ). setting.has_read_loan (compartment_of build x) n ≡ true) w.0 (subst (λ (x : ℕ). setting.has_read_loan 0 x ≡ true) (first_number n e2) refl)

pub linked : ItemsStand → Linked build
linked items = record { rules = memory; code = code items; globals = globals; windows = windows; loans = loans; kind = refl }
