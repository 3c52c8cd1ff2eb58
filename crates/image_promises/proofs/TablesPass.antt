-- The check of the tables passes.
use Rattle.std.proofs.Common.{◌≡◌, ℕ, zero, suc, ◌+◌, ◌-◌, ◌*◌, ◌^◌, ◌<◌, ◌≤◌, length, map, max, None, refl, sym, ap, ◌∙◌, subst, arith}
use Rattle.std.specs.List.{range_with_len}
use Rattle.ir_model.specs.Resolved.{Program}
use Rattle.ir_model.specs.Resolve.{resolve}
use Rattle.ir_laws.specs.Typed.{TypedOverNumbers}
use Rattle.machine_protection.specs.Regions.{size_log}
use Rattle.machine_protection.specs.RegionWords.{region_of}
use Rattle.machine_protection.specs.declared.words.Rights.TheVariants.{Code}
use Rattle.plan_model.specs.declared.plan.Sizes.{Sizes}
use Rattle.plan_model.specs.declared.plan.Plan.{Plan}
use Rattle.plan_model.specs.Boards.{slots_of}
use Rattle.plan_model.specs.Slots.{code_region}
use Rattle.plan_model.specs.Blocks.{block_size_for}
use Rattle.plan_model.specs.FlashPlacement.{flash_needed}
use Rattle.plan_model.specs.Placement.{compartment_spot}
use Rattle.monitor_model.specs.declared.tables.Tables.{Tables}
use Rattle.monitor_model.specs.Layout.{greatest_code, tables_size, area_end}
use Rattle.monitor_model.specs.Checks.{tables_fail}
use Rattle.image_model.specs.LinkedTables.{comp_record, tables_of}
use Rattle.image_model.specs.LinkedImage.{linked}
use Rattle.image_promises.specs.Planned.{planned_tables, planned_image}
use Rattle.plan.specs.PlannedFirmwares.{planned_sizes, plan}
use Rattle.image_promises.proofs.PlannedPremises.{PlannedPremises}
use Rattle.image_promises.proofs.Passing.{and_yes, le_yes, eq_yes, inside_yes, must_yes, then_yes}
use Rattle.image_promises.proofs.FlashParts.{code_size_is}
use Rattle.image_promises.proofs.Facts.{length_is, needed_most, tables_at_most, tables_block_is, code_blocks_count, code_block_is, code_at_most, flash_first}
use Rattle.image_promises.proofs.ReadBack.{ReadLaws, tables_at_base}
use Rattle.plan_model.proofs.KeptLimits.{few, few_targets}
use Rattle.image_promises.proofs.AreaEnd.{end_is, has_compartments}
use Rattle.image_promises.proofs.CodeRegions.{code_size_log}

module _ (law : ReadLaws) (typing : TypedOverNumbers) (planned : PlannedPremises) where
  open planned use {firmware as w, needs as n, final as f, board as b, is_planned as ok}

  abbrev p : Program
  p = resolve w

  abbrev s : Sizes
  s = planned_sizes w n f b

  abbrev l : Plan
  l = plan w n f b

  abbrev t : Tables
  t = planned_tables w n f b

  -- a code region has its block
  pub region_size : (c : ℕ) → c < f.groups.count → 2 ^ size_log (code_region l c) ≡ (compartment_spot l c).size
  region_size c lt =
      let m = code_blocks_count law.plans planned in
      let h : c < length s.code = omega (arith, lt, m) in
      let q = (code_block_is law.plans planned c h).0 in
      let z = code_size_is p f s b c h in
      let most = code_at_most law.plans planned c h in
      let small = needed_most law.plans planned in
      let e : (compartment_spot l c).size ≡ 2 ^ q.0 = z ∙ q.3 in
      let below : 2 ^ q.0 < 2 ^ 32 = let d = q.3 in omega (arith, d, most, small) in
      ap (λ x. 2 ^ size_log (region_of 2 (compartment_spot l c).base x 0 Code)) e
      ∙ (ap (λ x. 2 ^ x) (code_size_log (compartment_spot l c).base q.0 (let d = q.1 in omega (arith, d)) (under q.0 q.2 below)) ∙ sym e)
    where
      under : (k : ℕ) → k ≤ 32 → 2 ^ k < 2 ^ 32 → k < 32
      under k le lt = Rattle.std.proofs.Common.⊎_elim (λ h. h) (λ h. let e : k ≡ 32 = omega (arith, le, h) in let v : 2 ^ k ≡ 2 ^ 32 = ap (λ x. 2 ^ x) e in absurd (omega (arith, lt, v))) (Rattle.std.proofs.lemmas.Bool.cases_lt k 32)

  greatest_from : (lo k : ℕ) → lo + k ≤ f.groups.count → greatest_code (map (comp_record p f l (slots_of b)) (range_with_len lo k)) ≤ flash_needed s
  greatest_from lo zero h = omega arith
  greatest_from lo (suc k) h =
      let m = code_blocks_count law.plans planned in
      let e = region_size lo (omega (arith, h)) in
      let z = code_size_is p f s b lo (omega (arith, h, m)) in
      let g = code_at_most law.plans planned lo (omega (arith, h, m)) in
      let ih = greatest_from (lo + 1) k (omega (arith, h)) in
      omega (arith, e, z, g, ih)

  greatest_is : greatest_code t.comps ≤ flash_needed s
  unfolding tables_of
  greatest_is = greatest_from 0 f.groups.count (omega arith)

  ends : area_end t - t.base ≡ s.tables
  ends = let e = end_is law.counts p n f l b (has_compartments typing planned) in omega (arith, e)

  pub size_at_most : tables_size t ≤ flash_needed s
  unfolding tables_size
  size_at_most =
      let e = ends in
      let g = greatest_is in
      let h = tables_at_most law.plans planned in
      subst (λ x. max (block_size_for x) (greatest_code t.comps) ≤ flash_needed s) (sym e) (omega (arith, g, h))

  pub size_enough : area_end t ≤ t.base + tables_size t
  unfolding tables_size
  size_enough =
      let e = ends in
      let h = (tables_block_is law.plans planned).1 in
      let d = end_is law.counts p n f l b (has_compartments typing planned) in
      subst (λ x. area_end t ≤ t.base + max (block_size_for x) (greatest_code t.comps)) (sym e) (omega (arith, d, h))

  same_stack_base : t.stack.base ≡ (planned_image w n f b).stack_base
  unfolding linked tables_of
  same_stack_base = refl

  same_stack_size : t.stack.size ≡ (planned_image w n f b).stack_size
  unfolding linked tables_of
  same_stack_size = refl

  same_monitor : t.monitor ≡ (planned_image w n f b).monitor
  unfolding linked tables_of
  same_monitor = refl

  pub tables_pass : tables_fail (planned_image w n f b) t ≡ None
  tables_pass =
      let q = few n f.groups ok.limits in
      let c0 = q.compartments in
      let c1 = q.sites in
      let c2 = few_targets _ q.targets in
      let c3 = q.lent in
      let n1 = law.counts.comps p n f l b in
      let n2 = law.counts.sites p n f l b in
      let n3 = law.counts.targets p n f l b in
      let n4 = law.counts.lends p n f l b in
      let base = tables_at_base law planned in
      let first = flash_first planned in
      let long = length_is law.plans planned in
      let top = size_at_most in
      let least = has_compartments typing planned in
      let a0 : 1 ≤ length t.comps = omega (arith, least, n1) in
      let a1 : length t.comps ≤ 64 = omega (arith, c0, n1) in
      let a2 : length t.sites ≤ 4096 = omega (arith, c1, n2) in
      let a3 : length t.targets ≤ 64 * length t.sites = omega (arith, c2, n3, n2) in
      let a4 : length t.lends ≤ 32 = omega (arith, c3, n4) in
      then_yes (must_yes _ _ (and_yes (le_yes a0) (le_yes a1)))
      (then_yes (must_yes _ _ (le_yes a2))
      (then_yes (must_yes _ _ (le_yes a3))
      (then_yes (must_yes _ _ (le_yes a4))
      (then_yes (must_yes _ _ (eq_yes same_stack_base))
      (then_yes (must_yes _ _ (eq_yes same_stack_size))
      (then_yes (must_yes _ _ (eq_yes same_monitor))
      (must_yes _ _ (and_yes (inside_yes t.base (tables_size t) (planned_image w n f b).flash_base (length (planned_image w n f b).flash) (omega (arith, base, first), omega (arith, base, first, top, long))) (le_yes size_enough)))))))))
