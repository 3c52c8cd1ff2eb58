-- The words of compartments: of their regions and of their masks.
use Rattle.std.proofs.Common.{ℕ, ◌+◌, ◌^◌, ◌<◌, Bool, true, false, [], ◌∷◌, ◌++◌, length, map, get_or, cond, flat_map, nat_lt, sym, subst, lit<, arith}
use Rattle.base_laws.specs.Lists.{Each}
use Rattle.machine_protection.specs.declared.words.Rights.TheVariants.{Code}
use Rattle.ir_model.specs.Resolve.{resolve}
use Rattle.ir_model.specs.Resolved.{Program}
use Rattle.ir_model.specs.declared.object.ObjId.TheVariants.{Local}
use Rattle.ir_laws.specs.Limits.{HasWindows, WindowsLieApart}
use Rattle.plan_model.specs.declared.plan.Plan.{Plan}
use Rattle.plan_model.specs.declared.plan.Sizes.{Sizes}
use Rattle.plan_model.specs.Boards.{slots_of}
use Rattle.plan_model.specs.Lists.{numbers_below}
use Rattle.plan_model.specs.Groups.{writes}
use Rattle.plan_model.specs.Regions.{region_at, is_user, regions_used}
use Rattle.plan_model.specs.Blocks.{region_bytes}
use Rattle.plan_model.specs.RamBlocks.{ForRegion}
use Rattle.plan_model.specs.Placement.{region_spot, compartment_spot}
use Rattle.plan_model.specs.InitialGraph.{mask_where}
use Rattle.plan_model.specs.Slots.{data_slot, cover_slot, slot_uses, slot_regions, code_region, lend_mask, read_mask}
use Rattle.monitor_model.specs.Area.{region_words, compartment_words}
use Rattle.image_model.specs.LinkedTables.{comp_record, tables_of}
use Rattle.image_promises.specs.Planned.{planned_tables}
use Rattle.plan.specs.PlannedFirmwares.{plan, planned_sizes}
use Rattle.image_promises.proofs.FinalGraphs.{FinalGraph}
use Rattle.image_promises.proofs.PlannedPremises.{PlannedPremises, final_graph_of}
use Rattle.image_promises.proofs.PlannedSlots.{slot_limits}
use Rattle.image_promises.proofs.Facts.{PlanLaws, laid, code_blocks_count}
use Rattle.image_promises.proofs.FlashParts.{code_count}
use Rattle.image_promises.proofs.Ranges.{block_in}
use Rattle.image_promises.proofs.CoverParts.{IsPart}
use Rattle.image_promises.proofs.CoverSlots.{covers_are_parts}
use Rattle.image_promises.proofs.KeptItems.{each_filter}
use Rattle.image_promises.proofs.Lists.{each_map, below_all}
use Rattle.image_promises.proofs.WordLists.{IsWord, AreWords, each_flat, both_words}
use Rattle.image_promises.proofs.RegionWords.{IsLow, region_fits, out_is_byte, slots_fit, mask_fits}
use Rattle.image_promises.proofs.Masks.{mask_is, reads_is}
use Rattle.base_laws.proofs.Lists.{each_both}

-- ---- covers lie among the peripherals

module _ (graph : FinalGraph) (windows : HasWindows graph.program) where
  open graph use {needs as n, final as f}

  pub covers_low : (c : ℕ) → Each IsLow (map cover_slot (get_or f.covers c []))
  covers_low c =
      each_map IsLow cover_slot IsPart (get_or f.covers c []) (λ d i. record { base = let t = i.to in omega (arith, t); byte = lit< tt }) (covers_are_parts graph windows c)

  -- ---- masks

  or_none : (b : Bool) (m : ℕ) → m < 2 ^ 32 → cond b m 0 < 2 ^ 32
  or_none true m h = h
  or_none false m h = lit< tt

  pub mask_is_word : (c : ℕ) → c < f.groups.count → lend_mask f c < 2 ^ 32
  mask_is_word c l =
      or_none (nat_lt 1 f.groups.count) (get_or f.masks c 0)
      (subst (λ m. m < 2 ^ 32) (sym (mask_is graph c l)) (mask_fits n (λ x. writes n f.groups c (Local x.0 x.1))))

  pub reads_is_word : (c : ℕ) → c < f.groups.count → read_mask f c < 2 ^ 32
  reads_is_word c l =
      or_none (nat_lt 1 f.groups.count) (get_or f.reads c 0)
      (subst (λ m. m < 2 ^ 32) (sym (reads_is graph c l)) (or_none n.closed (mask_where n _) (mask_fits n _)))

-- ---- the regions of a compartment

module _ (law : PlanLaws) (apart : WindowsLieApart) (planned : PlannedPremises) where
  open planned use {firmware as w, needs as n, final as f, board as b, is_planned as ok}

  abbrev p : Program
  p = resolve w

  abbrev s : Sizes
  s = planned_sizes w n f b

  abbrev l : Plan
  l = plan w n f b

  code_fits : (c : ℕ) → c < f.groups.count → AreWords (region_words (code_region l c))
  code_fits c lt =
      let m = code_blocks_count law planned in
      let e = code_count p f s b in
      let ends = ((laid law planned).inside c (omega (arith, lt, m, e))).1 in
      let top = ok.board.flash_highest in
      let size = ok.board.flash_size.most in
      region_fits 2 (compartment_spot l c).base (compartment_spot l c).size 0 Code (lit< tt) (omega (arith, ends, top, size)) (lit< tt)

  region_low : (c r : ℕ) → r < length f.regions → IsLow (data_slot p f l c r)
  region_low c r lt =
      let ends = (block_in law planned (ForRegion r) (record { of_globals = tt; there = lt })).0.1 in
      let top = ok.board.ram_highest in
      let size = ok.board.ram_size.most in
      record { base = omega (arith, ends, top, size); byte = out_is_byte (region_spot l r).size (region_bytes p (region_at f.regions r).globals) }

  uses_low : (c : ℕ) → Each IsLow (slot_uses p f l c)
  uses_low c =
      each_both IsLow (map (data_slot p f l c) (regions_used f.regions c)) (map cover_slot (get_or f.covers c []))
      (each_map IsLow (data_slot p f l c) (λ r. r < length f.regions) (regions_used f.regions c) (region_low c)
      (each_filter (λ r. r < length f.regions) (λ r. is_user c (region_at f.regions r)) (numbers_below (length f.regions)) (below_all 0 (length f.regions) (length f.regions) (omega arith))))
      (covers_low (final_graph_of planned) (apart w ok.typed) c)

  comp_fits : (c : ℕ) → c < f.groups.count → AreWords (compartment_words (comp_record p f l (slots_of b) c))
  unfolding slot_regions
  comp_fits c lt =
      both_words (region_words (code_region l c)) (flat_map region_words (slot_regions p f l (slots_of b) c) ++ lend_mask f c ∷ read_mask f c ∷ []) (code_fits c lt)
      (both_words (flat_map region_words (slot_regions p f l (slots_of b) c)) (lend_mask f c ∷ read_mask f c ∷ []) (slots_fit 4 (slots_of b) (slot_uses p f l c) (slot_limits planned).1 (uses_low c))
      (mask_is_word (final_graph_of planned) (apart w ok.typed) c lt, (reads_is_word (final_graph_of planned) (apart w ok.typed) c lt, tt)))

  pub comps_fit : AreWords (flat_map compartment_words (planned_tables w n f b).comps)
  unfolding tables_of
  comps_fit =
      each_flat IsWord compartment_words (λ c. AreWords (compartment_words c)) (λ c h. h) (map (comp_record p f l (slots_of b)) (numbers_below f.groups.count))
      (each_map (λ c. AreWords (compartment_words c)) (comp_record p f l (slots_of b)) (λ c. c < f.groups.count) (numbers_below f.groups.count) comp_fits (below_all 0 f.groups.count f.groups.count (omega arith)))
