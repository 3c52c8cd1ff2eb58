-- The check of regions passes.
use Rattle.std.proofs.Common.{◌≡◌, ℕ, zero, suc, ◌+◌, ◌^◌, ◌<◌, ◌≤◌, Bool, true, false, ◌||◌, List, [], ◌∷◌, length, map, filter, get_or, cond, None, refl, ap₂, sym, ◌∙◌, subst, lit<, arith}
use Rattle.std.specs.List.{range_with_len}
use Rattle.std.proofs.lemmas.Bool.{or_left}
use Rattle.base_laws.specs.Lists.{Each}
use Rattle.machine_devices.specs.declared.image.Image.{Image}
use Rattle.base_ranges.specs.Ranges.{IsPowerBetween, is_inside}
use Rattle.machine_protection.specs.declared.words.Rights.TheVariants.{Background, Code, Ram}
use Rattle.machine_protection.specs.RegionWords.{region_of}
use Rattle.ir_model.specs.Resolved.{Program}
use Rattle.ir_model.specs.Resolve.{resolve}
use Rattle.ir_laws.specs.Limits.{WindowsLieApart}
use Rattle.plan_model.specs.declared.graph.Cover.{Cover}
use Rattle.plan_model.specs.declared.plan.Sizes.{Sizes}
use Rattle.plan_model.specs.declared.plan.Plan.{Plan}
use Rattle.plan_model.specs.declared.plan.Spot.{Spot}
use Rattle.plan_model.specs.Boards.{slots_of}
use Rattle.plan_model.specs.Lists.{numbers_below, has}
use Rattle.plan_model.specs.Regions.{region_at, regions_used, is_user}
use Rattle.plan_model.specs.Blocks.{block_size_for, region_bytes, subregions_out}
use Rattle.plan_model.specs.Placement.{region_spot, compartment_spot}
use Rattle.plan_model.specs.Slots.{SlotUse, data_slot, cover_slot, slot_uses, slots_from, slot_regions, free_slot, code_region}
use Rattle.monitor_model.specs.declared.tables.Tables.{Tables}
use Rattle.monitor_model.specs.declared.tables.CompRecord.{CompRecord}
use Rattle.monitor_model.specs.Layout.{compartments_at, compartment_size}
use Rattle.monitor_model.specs.RegionChecks.{is_code, is_free, is_data, is_read_only, is_cover, is_slot, are_slots, is_mask, is_compartment}
use Rattle.monitor_model.specs.Checks.{regions_fail}
use Rattle.image_model.specs.LinkedTables.{comp_record, tables_of}
use Rattle.image_model.specs.LinkedImage.{linked}
use Rattle.image_promises.specs.Planned.{planned_tables, planned_image}
use Rattle.plan.specs.PlannedFirmwares.{planned_sizes, plan}
use Rattle.image_promises.proofs.PlannedPremises.{PlannedPremises, planned_of, final_graph_of}
use Rattle.image_promises.proofs.PlannedSlots.{slot_limits}
use Rattle.image_promises.proofs.Facts.{PlanLaws, laid, length_is, needed_most, code_blocks_count, code_block_is, code_at_most, flash_first}
use Rattle.image_promises.proofs.FlashParts.{code_count, code_size_is, code_ends}
use Rattle.image_promises.proofs.Passing.{and_yes, lt_yes, eq_yes, inside_yes, each_yes}
use Rattle.image_promises.proofs.Bearing.{use_region}
use Rattle.image_promises.proofs.CoverParts.{AreParts}
use Rattle.image_promises.specs.Regions.{RegionsPass}
use Rattle.image_promises.proofs.Forms.{is_made}
use Rattle.image_promises.proofs.Masks.{mask_few, reads_few}
use Rattle.image_promises.proofs.Readers.{closed_for}
use Rattle.image_promises.proofs.CoverSlots.{covers_are_parts, cover_passes}
use Rattle.image_promises.proofs.DataSlotForms.{written_passes, read_passes}
use Rattle.image_promises.proofs.DataRanges as ranges
use Rattle.image_promises.proofs.DataRanges.{below_top, holds_data}
use Rattle.base_laws.proofs.Lists.{each_both}

-- ---- lists of slots

module _ (i : Image) (t : Tables) where
  -- a use whose region passes in each slot
  abbrev Passes : SlotUse → Type 0
  Passes u = (m : ℕ) → m < 16 → is_slot i t m (use_region m u) ≡ true

  free_passes : (m : ℕ) → is_slot i t m (free_slot m) ≡ true
  free_passes m =
      or_left (is_free m (free_slot m)) (is_data i t m (free_slot m) || (is_read_only i t m (free_slot m) || is_cover m (free_slot m)))
      (and_yes (eq_yes {a = 2 ^ 4 + m} {b = 2 ^ 4 + m} refl) refl)

  slots_pass : (us : List SlotUse) (m k : ℕ) → m + k ≤ 16 → Each Passes us → are_slots i t m (slots_from m k us) ≡ true
  slots_pass us m zero l e = refl
  slots_pass [] m (suc k) l e = and_yes (free_passes m) (slots_pass [] (suc m) k (omega (arith, l)) tt)
  slots_pass (u ∷ us) m (suc k) l e = and_yes (e.0 m (omega (arith, l))) (slots_pass us (suc m) k (omega (arith, l)) e.1)

  covers_pass : (ds : List Cover) → AreParts ds → Each Passes (map cover_slot ds)
  covers_pass [] e = tt
  covers_pass (d ∷ ds) e = ((λ m l. cover_passes i t m d l e.0), covers_pass ds e.1)

-- the numbers of a range that pass a test, each mapped
each_chosen : {X : Type 0} (P : X → Type 0) (f : ℕ → X) (test : ℕ → Bool) (lo n : ℕ) → ((k : ℕ) → k < lo + n → test k ≡ true → P (f k)) → Each P (map f (filter test (range_with_len lo n)))
each_chosen P f test lo zero h = tt
each_chosen P f test lo (suc n) h = by (test lo) refl (each_chosen P f test (lo + 1) n (λ k l e. h k (omega (arith, l)) e))
  where
    by : (b : Bool) → test lo ≡ b → Each P (map f (filter test (range_with_len (lo + 1) n))) → Each P (map f (cond b (lo ∷ filter test (range_with_len (lo + 1) n)) (filter test (range_with_len (lo + 1) n))))
    by true e ih = (h lo (omega arith) e, ih)
    by false e ih = ih

each_number : {X : Type 0} (P : X → Type 0) (f : ℕ → X) (lo n : ℕ) → ((k : ℕ) → k < lo + n → P (f k)) → Each P (map f (range_with_len lo n))
each_number P f lo zero h = tt
each_number P f lo (suc n) h = (h lo (omega arith), each_number P f (lo + 1) n (λ k l. h k (omega (arith, l))))

-- ---- a planned image

module _ (law : PlanLaws) (apart : WindowsLieApart) (planned : PlannedPremises) where
  open planned use {firmware as w, needs as n, final as f, board as b, is_planned as is}

  abbrev p : Program
  p = resolve w

  abbrev s : Sizes
  s = planned_sizes w n f b

  abbrev l : Plan
  l = plan w n f b

  abbrev i : Image
  i = planned_image w n f b

  abbrev t : Tables
  t = planned_tables w n f b

  closed_is : i.closed ≡ n.closed
  unfolding linked
  closed_is = sym is.needs.kind

  -- the code of a compartment
  code_passes : (c : ℕ) → c < f.groups.count → is_code i (code_region l c) ≡ true
  code_passes c lt =
      let counted = code_blocks_count law planned in
      let there : c < length s.code = omega (arith, lt, counted) in
      let count = code_count p f s b in
      let spot : Spot = compartment_spot l c in
      let size : spot.size ≡ block_size_for (get_or s.code c 0) = code_size_is p f s b c there in
      let most = code_at_most law planned c there in
      let needed = needed_most law planned in
      let power : IsPowerBetween 5 31 spot.size =
      subst (IsPowerBetween 5 31) (sym size) (below_top (block_size_for (get_or s.code c 0)) (code_block_is law planned c there).0 (omega (arith, most, needed))) in
      let flash = laid law planned in
      let listed : c < length l.code = omega (arith, there, count) in
      let low = (flash.inside c listed).0 in
      let high = code_ends p f s b c there in
      let first = flash_first planned in
      let long = length_is law planned in
      let made = is_made 2 spot.base spot.size 0 Code (lit< tt) power (flash.aligned c listed) (lit< tt) in
      and_yes made.has
      (ap₂ (λ x y. is_inside x y i.flash_base (length i.flash)) made.base_is made.size_is
      ∙ inside_yes spot.base spot.size i.flash_base (length i.flash) (omega (arith, low, first), omega (arith, high, first, long)))

  -- a data region
  data_passes : (c r : ℕ) → r < length f.regions → is_user c (region_at f.regions r) ≡ true → Passes i t (data_slot p f l c r)
  data_passes c r lt user m few = by (has (region_at f.regions r).writers c) refl
    where
      spot : Spot
      spot = region_spot l r

      bytes : ℕ
      bytes = region_bytes p (region_at f.regions r).globals

      by : (writer : Bool) → has (region_at f.regions r).writers c ≡ writer → is_slot i t m (region_of m spot.base spot.size (subregions_out spot.size bytes) (cond writer Ram Background)) ≡ true
      by true e =
          written_passes i t m spot.base spot.size bytes few (ranges.power law planned r lt) (ranges.aligned law planned r lt) (holds_data law planned r lt)
      by false e =
          read_passes i t m spot.base spot.size bytes few (ranges.power law planned r lt) (ranges.aligned law planned r lt) (holds_data law planned r lt)
          (closed_is ∙ closed_for (final_graph_of planned) r c user e)

  all_pass : (c : ℕ) → Each (Passes i t) (slot_uses p f l c)
  all_pass c =
      each_both (Passes i t) (map (data_slot p f l c) (regions_used f.regions c)) (map cover_slot (get_or f.covers c []))
      (each_chosen (Passes i t) (data_slot p f l c) (λ r. is_user c (region_at f.regions r)) 0 (length f.regions) (λ r lt user. data_passes c r (omega (arith, lt)) user))
      (covers_pass i t (get_or f.covers c []) (covers_are_parts (final_graph_of planned) (apart w is.typed) c))

  data_and_covers : (c : ℕ) → are_slots i t 4 (slot_regions p f l (slots_of b) c) ≡ true
  unfolding slot_regions
  data_and_covers c = slots_pass i t (slot_uses p f l c) 4 (slots_of b) (slot_limits planned).1 (all_pass c)

  mask_passes : (c : ℕ) → c < f.groups.count → is_mask t (comp_record p f l (slots_of b) c).mask ≡ true
  unfolding tables_of
  mask_passes c lt = lt_yes (mask_few (final_graph_of planned) c lt)

  reads_pass : (c : ℕ) → c < f.groups.count → is_mask t (comp_record p f l (slots_of b) c).reads ≡ true
  unfolding tables_of
  reads_pass c lt = lt_yes (reads_few (final_graph_of planned) c lt)

  compartment_passes : (c : ℕ) → c < f.groups.count → is_compartment i t (comp_record p f l (slots_of b) c) ≡ true
  compartment_passes c lt = and_yes (code_passes c lt) (and_yes (data_and_covers c) (and_yes (mask_passes c lt) (reads_pass c lt)))

  comps_are : t.comps ≡ map (comp_record p f l (slots_of b)) (numbers_below f.groups.count)
  unfolding tables_of
  comps_are = refl

  pub regions_do_not_fail : regions_fail i t ≡ None
  regions_do_not_fail =
      each_yes (is_compartment i t) (compartments_at t) (compartment_size t) t.comps
      (subst (Each (λ (x : CompRecord). is_compartment i t x ≡ true)) (sym comps_are)
      (each_number (λ (x : CompRecord). is_compartment i t x ≡ true) (comp_record p f l (slots_of b)) 0 f.groups.count (λ c lt. compartment_passes c (omega (arith, lt)))))

pub regions_pass : PlanLaws → WindowsLieApart → RegionsPass
regions_pass law apart w n f b is = regions_do_not_fail law apart (planned_of is)
