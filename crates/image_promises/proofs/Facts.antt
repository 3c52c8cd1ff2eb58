-- What is known of the flash and the RAM of a planned image.
use Rattle.std.proofs.Common.{◌≡◌, ℕ, suc, ◌-◌, ◌<◌, ◌≤◌, ◌∷◌, length, get_or, max, ◌∙◌, lit<, arith, refl}
use Rattle.std.proofs.lemmas.List.{get_or-map, length-replicate}
use Rattle.std.proofs.lemmas.List.FromFn.{length-map-range_with_len}
use Rattle.std.proofs.Math.Pow.{pow_mono}
use Rattle.base_words.proofs.Bytes.{length-write_all}
use Rattle.base_ranges.specs.Ranges.{AreApart, IsPowerBetween}
use Rattle.ir_model.specs.Resolved.{Program}
use Rattle.ir_model.specs.Resolve.{resolve}
use Rattle.plan_model.specs.declared.plan.Sizes.{Sizes}
use Rattle.plan_model.specs.declared.plan.Plan.{Plan}
use Rattle.plan_model.specs.Choices.{greatest}
use Rattle.plan_model.specs.Blocks.{block_size_for}
use Rattle.plan_model.specs.TableSize.{table_bytes}
use Rattle.plan_model.specs.FlashPlacement.{flash_blocks, code_blocks, tables_block, flash_needed}
use Rattle.plan_model.specs.RamBlocks.{ForStack, ForMonitor}
use Rattle.plan_model.specs.Placement.{compartment_spot, flash_used}
use Rattle.plan_layout_laws.specs.FlashLaws.{FlashIsLaid, IsFlashLaid, IsIn, IsAligned}
use Rattle.plan_layout_laws.specs.RamLaws.{RamIsApart}
use Rattle.plan_layout_laws.specs.RamPlaces.{RamIsThere, RamIsInside}
use Rattle.code_model.specs.Planned.{planned_code}
use Rattle.monitor_model.specs.Layout.{head_at}
use Rattle.monitor_model.specs.Area.{area}
use Rattle.monitor_program.specs.Page.{page}
use Rattle.image_model.specs.LinkedImage.{erased, with_tables, linked}
use Rattle.image_model.specs.LinkedTables.{tables_of}
use Rattle.image_promises.specs.Planned.{planned_image}
use Rattle.plan.specs.PlannedFirmwares.{planned_sizes, plan}
use Rattle.image_promises.proofs.PlannedPremises.{PlannedPremises}
use Rattle.image_promises.proofs.FlashBack.{length-puts}
use Rattle.plan_model.proofs.Powers.{small_block}
use Rattle.image_promises.proofs.FlashParts.{size_is, one_of_sum}
use Rattle.image_promises.proofs.Passing.{apart_from}
use Rattle.base_laws.proofs.Lists.{sum_first as sum_cons}

-- the laws of plans
pub record PlanLaws : Type 0 where
  pub flash : FlashIsLaid
  pub apart : RamIsApart
  pub there : RamIsThere
  pub inside : RamIsInside

-- the flash of a planned image begins where its board's does
pub flash_first : (planned : PlannedPremises) → (planned_image planned.firmware planned.needs planned.final planned.board).flash_base ≡ planned.board.flash_base
unfolding linked
flash_first planned = refl

module _ (law : PlanLaws) (planned : PlannedPremises) where
  open planned use {firmware as w, needs as n, final as f, board as b, is_planned as ok}

  abbrev p : Program
  p = resolve w

  abbrev s : Sizes
  s = planned_sizes w n f b

  abbrev l : Plan
  l = plan w n f b

  -- ---- flash

  pub laid : IsFlashLaid b l
  laid = law.flash p f s b ok.board ok.fits

  pub length_is : length (planned_image w n f b).flash ≡ flash_needed s
  unfolding linked
  length_is =
      let t = tables_of p n f l b in
      let e = erased (flash_used l) in
      length-puts (λ c. (compartment_spot l c).base - b.flash_base) (planned_code p n f l) 0 f.groups.count (with_tables b.flash_base t e)
      ∙ (length-write_all 4 (head_at t - b.flash_base) (area t) _
      ∙ (length-write_all 1 (t.base - b.flash_base) (page t) e
      ∙ (length-replicate (flash_used l) 0xFF ∙ size_is p f s b)))

  pub needed_most : flash_needed s ≤ 0x100000
  needed_most = let h = ok.fits.flash in let m = ok.board.flash_size.most in omega (arith, h, m)

  pub code_blocks_count : length s.code ≡ f.groups.count
  code_blocks_count = length-map-range_with_len _ 0 f.groups.count

  pub tables_at_most : max (block_size_for s.tables) (greatest (code_blocks s)) ≤ flash_needed s
  unfolding flash_blocks
  tables_at_most = let e = sum_cons (tables_block s) (code_blocks s) in omega (arith, e)

  -- the tables have room in their block
  pub tables_block_is : IsPowerBetween 5 32 (block_size_for s.tables) × (s.tables ≤ block_size_for s.tables)
  tables_block_is = let h = tables_at_most in let m = needed_most in small_block s.tables (omega (arith, h, m))

  pub tables_least : 4128 ≤ s.tables
  unfolding table_bytes
  tables_least = omega arith

  pub flash_least : 4128 ≤ flash_needed s
  flash_least = let h = tables_at_most in let t = tables_least in let u = tables_block_is.1 in omega (arith, h, t, u)

  -- and the code of a compartment in its own
  pub code_at_most : (c : ℕ) → c < length s.code → block_size_for (get_or s.code c 0) ≤ flash_needed s
  unfolding flash_blocks
  code_at_most c lt =
      let e = get_or-map block_size_for s.code c 0 0 lt in
      let h = one_of_sum (tables_block s ∷ code_blocks s) (suc c) in
      omega (arith, e, h)

  pub code_block_is : (c : ℕ) → c < length s.code → IsPowerBetween 5 32 (block_size_for (get_or s.code c 0)) × (get_or s.code c 0 ≤ block_size_for (get_or s.code c 0))
  code_block_is c lt = let h = code_at_most c lt in let m = needed_most in small_block (get_or s.code c 0) (omega (arith, h, m))

  -- ---- RAM

  pub stack_least : 512 ≤ b.stack
  stack_least = let h = ok.board.stack in let e = h.3 in let k = pow_mono {i = 9} {j = h.0} h.1 in omega (arith, e, k)

  pub stack_size_is : l.stack.size ≡ b.stack
  stack_size_is = law.there p f s b ForStack tt

  pub monitor_size_is : l.monitor.size ≡ 1024
  monitor_size_is = law.there p f s b ForMonitor tt

  pub stack_in : IsIn l.stack b.ram_base b.ram_size × IsAligned l.stack
  stack_in = let e = stack_size_is in let h = stack_least in law.inside p f s b ForStack ok.board ok.fits (omega (arith, e, h))

  pub monitor_in : IsIn l.monitor b.ram_base b.ram_size × IsAligned l.monitor
  monitor_in = let e = monitor_size_is in law.inside p f s b ForMonitor ok.board ok.fits (omega (arith, e))

  pub stack_apart : AreApart l.monitor.base 1024 l.stack.base l.stack.size
  stack_apart =
      let e = monitor_size_is in
      let z = stack_size_is in
      let h = stack_least in
      apart_from l.monitor.base 1024 l.stack.base l.stack.size (lit< tt) (omega (arith, z, h))
      (λ x a c d g. law.apart p f s b ForMonitor ForStack x (λ q. cc) (a, omega (arith, c, e)) (d, g))
