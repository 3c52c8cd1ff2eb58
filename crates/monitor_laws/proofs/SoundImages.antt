-- Sound images are placed, and they start.
use Rattle.std.proofs.Common.{◌≡◌, ℕ, ◌+◌, ◌-◌, ◌*◌, ◌/◌, ◌%◌, ◌<◌, ◌≤◌, ◌⊎◌, inl, inr, ⊎_elim, true, ◌&&◌, List, [], ◌∷◌, length, nat_eq, nat_lt, None, refl, sym, ap, ◌∙◌, subst, arith}
use Rattle.std.proofs.lemmas.List.Sums.{sum_by-cons}
use Rattle.std.specs.Prelude.{sum_by}
use Rattle.std.proofs.lemmas.Bool.{ltb-true, eqb-true, and_parts as both}
use Rattle.machine_devices.specs.declared.image.Image.{Image}
use Rattle.machine_devices.specs.Rules.{ObeysRules, IsStack, block_size}
use Rattle.base_laws.specs.Lists.{Each}
use Rattle.base_ranges.specs.Ranges.{IsInside, AreApart, is_inside, are_apart}
use Rattle.base_ranges.proofs.Decisions.{decides_inside}
use Rattle.monitor_model.specs.declared.tables.CompRecord.{CompRecord}
use Rattle.monitor_model.specs.declared.tables.InitRecord.{InitRecord}
use Rattle.monitor_model.specs.declared.tables.Tables.{Tables}
use Rattle.monitor_model.specs.Records.{words_in, number_of_slots}
use Rattle.monitor_model.specs.Layout.{initial_words_at, initial_word_count, inits_at, tables_size, area_end}
use Rattle.monitor_model.specs.Area.{HasTables}
use Rattle.monitor_model.specs.MonitorCode.{MonitorCode}
use Rattle.monitor_model.specs.FromFlash.{tables_of}
use Rattle.monitor_model.specs.RegionChecks.{is_data_range, is_compartment}
use Rattle.monitor_model.specs.Checks.{must, inits_from, is_init}
use Rattle.monitor_model.specs.Sound.{Sound}
use Rattle.monitor_model.specs.Placed.{Placed, IsCompartment, SoundImagesArePlaced}
use Rattle.monitor_model.specs.Promises.{ImagesStart}
use Rattle.monitor_model.proofs.ReadFrom.{read_from}
use Rattle.monitor_program.specs.TheCode.{monitor_code}
use Rattle.monitor_laws.specs.StartUp.{IsInit, IsReady, ReadyImagesStart}
use Rattle.monitor_laws.proofs.Checked.{must_none, and_none, begins_with, NoneFails, none_fails, Header, header_is, TableHead, head_is, regions_are, entries_are}
use Rattle.monitor_laws.proofs.RegionForms.{Grounds, comp_is}
use Rattle.monitor_laws.proofs.Sizes.{IsSize, tables_size_is}
use Rattle.monitor_laws.proofs.ReadTables.{has_tables, slot_count, each_count, word_total}
use Rattle.monitor_laws.proofs.Numbers.{product}

four_more : (r : ℕ) → (r ≡ 8) ⊎ (r ≡ 16) → (r ≡ 4 + (r - 4)) × (r - 4 ≤ 12)
four_more r (inl e) = (omega (arith, e), omega (arith, e))
four_more r (inr e) = (omega (arith, e), omega (arith, e))

-- both of each
each_both : {A : Type 0} (P Q R : A → Type 0) (xs : List A) → ((x : A) → P x → Q x → R x) → Each P xs → Each Q xs → Each R xs
each_both P Q R [] f a b = tt
each_both P Q R (x ∷ xs) f a b = (f x a.0 b.0, each_both P Q R xs f a.1 b.1)

module _ (code : MonitorCode) (i : Image) (rules : ObeysRules i) (nf : NoneFails code i (read_from code i)) where
  abbrev t : Tables
  t = read_from code i

  header : Header i
  header = header_is i nf.header

  top : TableHead i t
  top = head_is i t nf.tables

  stack : IsStack i
  stack = ⊎_elim (λ z. absurd (header.stack z.1)) (λ s. s) rules.stack

  block : (i.monitor % block_size ≡ 0) × IsInside i.monitor block_size i.ram_base i.ram_size
  block = ⊎_elim (λ z. absurd (header.monitor z)) (λ s. s) rules.monitor

  grounds : Grounds i t
  grounds = record {
    rules = rules;
    stack = subst (λ b. IsInside b t.stack.size i.ram_base i.ram_size) (sym top.stack_base) (subst (λ z. IsInside i.stack_base z i.ram_base i.ram_size) (sym top.stack_size) stack.place);
    block = subst (λ b. IsInside b block_size i.ram_base i.ram_size) (sym top.monitor) block.1;
  }

  count : number_of_slots t ≡ i.regions - 4
  count = slot_count code i header.room top.some

  comp : (c : CompRecord) → is_compartment i t c ≡ true → length c.slots ≡ i.regions - 4 → IsCompartment i t c
  comp c h l =
      let few : length c.slots ≤ 12 = let r = (four_more i.regions rules.regions).1 in omega (arith, l, r) in
      let f = comp_is i t grounds c few h in
      record { code = f.code; count = l ∙ sym count; slots = f.slots; code_numbered = f.code_numbered; slots_numbered = f.slots_numbered }

  size : IsSize (tables_size t)
  size = tables_size_is t

  pub area_fits : area_end t ≤ i.flash_base + length i.flash
  area_fits = let a = top.area in let b = top.inside.1 in omega (arith, a, b)

  pub tables_stand : HasTables i t
  tables_stand = has_tables code i header.room top.some area_fits

  pub is_placed : Placed i t
  is_placed = record {
    rules = rules;
    is_closed = refl;
    region_count = (four_more i.regions rules.regions).0 ∙ ap (λ n. 4 + n) (sym count);
    stack_base = top.stack_base;
    stack_size = top.stack_size;
    stack = stack;
    is_monitor = top.monitor;
    block_aligned = ap (λ b. b % block_size) top.monitor ∙ block.0;
    block_inside = grounds.block;
    apart = subst (λ b. AreApart b block_size t.stack.base t.stack.size) (sym top.monitor) (subst (λ b. AreApart i.monitor block_size b t.stack.size) (sym top.stack_base) (subst (λ z. AreApart i.monitor block_size i.stack_base z) (sym top.stack_size) header.apart));
    tables_first = refl;
    tables_power = size.0;
    tables_least = size.1;
    tables_inside = let b = top.inside.1 in omega (arith, b);
    word_count = word_total code i header.room;
    some = let s = top.some in omega (arith, s);
    most = top.most;
    comps = each_both (λ c. is_compartment i t c ≡ true) (λ (c : CompRecord). length c.slots ≡ i.regions - 4) (IsCompartment i t) t.comps comp (regions_are i t nf.regions) (each_count code i header.room);
    few_lends = top.lends;
    targets = (entries_are t nf.sites).targets;
    main = (entries_are t nf.sites).main;
  }

  -- ---- the ranges of start-up

  each_init : (w a : ℕ) (ns : List InitRecord) → inits_from i t w a ns ≡ None → w % 4 ≡ 0 → i.flash_base ≤ w → w + 4 * sum_by words_in ns ≤ i.flash_base + length i.flash → Each (IsInit i) ns
  each_init w a [] h al lo hi = tt
  each_init w a (n ∷ ns) h al lo hi =
      let p = and_none (must (is_init i t w n) a) (inits_from i t (w + (n.end - n.at)) (a + 12) ns) h in
      let f = first (must_none (is_init i t w n) a p.0) in
      let z = next n.at n.end (sum_by words_in ns) f.at_aligned f.end_aligned f.some (sums hi) in
      (f, each_init (w + (n.end - n.at)) (a + 12) ns p.1 z.0 z.1 z.2)
    where
      sums : w + 4 * sum_by words_in (n ∷ ns) ≤ i.flash_base + length i.flash → w + 4 * ((n.end - n.at) / 4 + sum_by words_in ns) ≤ i.flash_base + length i.flash
      sums h = subst (λ s. w + 4 * s ≤ i.flash_base + length i.flash) (sum_by-cons words_in n ns) h

      next : (x y s : ℕ) → x % 4 ≡ 0 → y % 4 ≡ 0 → x < y → w + 4 * ((y - x) / 4 + s) ≤ i.flash_base + length i.flash → ((w + (y - x)) % 4 ≡ 0) × (i.flash_base ≤ w + (y - x)) × (w + (y - x) + 4 * s ≤ i.flash_base + length i.flash)
      next x y s a b lt h = (omega (arith, a, b, lt, al), omega (arith, lo), omega (arith, a, b, lt, h))

      room : (x y s : ℕ) → x % 4 ≡ 0 → y % 4 ≡ 0 → x < y → w + 4 * ((y - x) / 4 + s) ≤ i.flash_base + length i.flash → w + (y - x) ≤ i.flash_base + length i.flash
      room x y s a b lt h = omega (arith, a, b, lt, h)

      first : is_init i t w n ≡ true → IsInit i n
      first h =
          let a = both (nat_eq (n.at % 4) 0) (nat_eq (n.end % 4) 0 && (nat_lt n.at n.end && (is_data_range i t n.at (n.end - n.at) && nat_eq n.from w))) h in
          let b = both (nat_eq (n.end % 4) 0) (nat_lt n.at n.end && (is_data_range i t n.at (n.end - n.at) && nat_eq n.from w)) a.1 in
          let c = both (nat_lt n.at n.end) (is_data_range i t n.at (n.end - n.at) && nat_eq n.from w) b.1 in
          let d = both (is_data_range i t n.at (n.end - n.at)) (nat_eq n.from w) c.1 in
          let r = both (is_inside n.at (n.end - n.at) i.ram_base i.ram_size) (are_apart n.at (n.end - n.at) t.stack.base t.stack.size && are_apart n.at (n.end - n.at) t.monitor block_size) d.0 in
          let e : n.from ≡ w = eqb-true n.from w d.1 in
          let x = eqb-true (n.at % 4) 0 a.0 in
          let y = eqb-true (n.end % 4) 0 b.0 in
          let lt = ltb-true n.at n.end c.0 in
          record {
            at_aligned = x;
            end_aligned = y;
            some = lt;
            in_ram = (decides_inside n.at (n.end - n.at) i.ram_base i.ram_size).0 r.0;
            from_aligned = ap (λ x. x % 4) e ∙ al;
            in_flash = subst (λ f. IsInside f (n.end - n.at) i.flash_base (length i.flash)) (sym e) (lo, room n.at n.end (sum_by words_in ns) x y lt (sums hi));
          }

  pub inits_are : Each (IsInit i) t.inits
  unfolding initial_word_count
  inits_are = each_init (initial_words_at t) (inits_at t) t.inits nf.inits aligned (omega arith) (let f = area_fits in f)
    where
      aligned : initial_words_at t % 4 ≡ 0
      aligned = let p = product (number_of_slots t) (length t.comps) in let a = rules.flash_aligned in omega (arith, p, a)

-- the tables of a sound image are those that are read
pub read_tables : (code : MonitorCode) (i : Image) (t : Tables) → Sound code i t → t ≡ read_from code i
unfolding tables_of
read_tables code i t s = s.tables

pub sound_images_are_placed : SoundImagesArePlaced
sound_images_are_placed code i t rules s =
    let e = read_tables code i t s in
    let nf : NoneFails code i (read_from code i) = subst (λ t. NoneFails code i t) e (none_fails code i t s) in
    subst (λ t. Placed i t × HasTables i t) (sym e) (is_placed code i rules nf, tables_stand code i rules nf)

ready : (i : Image) → ObeysRules i → NoneFails monitor_code i (read_from monitor_code i) → IsReady i (read_from monitor_code i)
ready i rules nf =
    let p = begins_with (monitor_code.page (read_from monitor_code i)) i.flash (read_from monitor_code i).base nf.page in
    record {
      placed = is_placed monitor_code i rules nf;
      has_tables = tables_stand monitor_code i rules nf;
      behind_page = p.0;
      has_page = p.1;
      area_inside = (head_is i (read_from monitor_code i) nf.tables).area;
      inits = inits_are monitor_code i rules nf;
    }

-- so a sound image is ready
pub sound_images_are_ready : (i : Image) (t : Tables) → ObeysRules i → Sound monitor_code i t → IsReady i t
sound_images_are_ready i t rules s =
    let e = read_tables monitor_code i t s in
    subst (λ t. IsReady i t) (sym e) (ready i rules (subst (λ t. NoneFails monitor_code i t) e (none_fails monitor_code i t s)))

pub images_start : ReadyImagesStart → ImagesStart monitor_code
images_start starts i t rules s = starts i t (sound_images_are_ready i t rules s)
