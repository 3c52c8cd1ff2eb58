-- What the open eighths of a data region's block hold lies in RAM, apart from the stack and from the monitor's block.
use Rattle.std.proofs.Common.{◌≡◌, ℕ, ◌+◌, ◌%◌, ◌^◌, ◌<◌, ◌≤◌, inl, inr, length, ap, sym, ◌∙◌, subst, lit<, arith}
use Rattle.std.proofs.lemmas.Bool.{cases_lt}
use mathlib.Core.Logic.{⊎_elim}
use Rattle.base_ranges.specs.Ranges.{IsPowerBetween, IsInside, AreApart}
use Rattle.machine_devices.specs.Rules.{block_size}
use Rattle.ir_model.specs.Resolved.{Program}
use Rattle.ir_model.specs.Resolve.{resolve}
use Rattle.plan_model.specs.declared.plan.Sizes.{Sizes}
use Rattle.plan_model.specs.declared.plan.Plan.{Plan}
use Rattle.plan_model.specs.declared.plan.Spot.{Spot}
use Rattle.plan_model.specs.Regions.{region_at}
use Rattle.plan_model.specs.Blocks.{block_size_for, region_bytes}
use Rattle.plan_model.specs.RamBlocks.{ForStack, ForMonitor, ForRegion}
use Rattle.plan_model.specs.Placement.{region_spot}
use Rattle.plan_layout_laws.specs.RamLaws.{open_bytes}
use Rattle.image_model.specs.LinkedImage.{linked}
use Rattle.image_model.specs.LinkedTables.{tables_of}
use Rattle.image_promises.specs.Planned.{planned_tables, planned_image}
use Rattle.plan.specs.PlannedFirmwares.{planned_sizes, plan}
use Rattle.image_promises.proofs.PlannedPremises.{PlannedPremises}
use Rattle.image_promises.proofs.Facts.{PlanLaws, stack_least, stack_size_is, monitor_size_is}
use Rattle.plan_model.proofs.Powers.{small_block}
use Rattle.image_promises.proofs.OpenBytes.{words_held}
use Rattle.image_promises.proofs.Passing.{apart_from, data_yes}
use Rattle.image_promises.proofs.Ranges.{IsUse, block_size_is, block_in, small}
use Rattle.image_promises.proofs.DataSlotForms.{HoldsData}

-- a power below 2 ^ 32
pub below_top : (n : ℕ) → IsPowerBetween 5 32 n → n < 2 ^ 32 → IsPowerBetween 5 31 n
below_top n p lt = (p.0, p.1, ⊎_elim (λ l. omega (arith, l)) (λ l. absurd (top l)) (cases_lt p.0 32), p.3)
  where
    top : 32 ≤ p.0 → ⊥
    top l = let m = p.2 in let e : p.0 ≡ 32 = omega (arith, l, m) in let v : n ≡ 2 ^ 32 = p.3 ∙ ap (λ k. 2 ^ k) e in omega (arith, v, lt)

-- a part of a range that is apart from another
part_apart : (b n a m c k : ℕ) → b ≤ a → a + m ≤ b + n → AreApart b n c k → AreApart a m c k
part_apart b n a m c k lo hi (inl e) = inl (omega (arith, e, hi))
part_apart b n a m c k lo hi (inr e) = inr (omega (arith, e, lo))

module _ (law : PlanLaws) (planned : PlannedPremises) (r : ℕ) (lt : r < length planned.final.regions) where
  open planned use {firmware as w, needs as n, final as f, board as b}

  abbrev p : Program
  p = resolve w

  abbrev s : Sizes
  s = planned_sizes w n f b

  abbrev l : Plan
  l = plan w n f b

  abbrev spot : Spot
  spot = region_spot l r

  abbrev bytes : ℕ
  bytes = region_bytes p (region_at f.regions r).globals

  of_region : IsUse f (ForRegion r)
  of_region = record { of_globals = tt; there = lt }

  size_is : spot.size ≡ block_size_for bytes
  size_is = block_size_is law planned (ForRegion r) of_region

  block_small : block_size_for bytes < 2 ^ 32
  block_small = small law planned (ForRegion r) of_region

  pub power : IsPowerBetween 5 31 spot.size
  power = subst (IsPowerBetween 5 31) (sym size_is) (below_top (block_size_for bytes) (small_block bytes block_small).0 block_small)

  pub aligned : spot.base % spot.size ≡ 0
  aligned = subst (λ z. spot.base % z ≡ 0) (sym size_is) (block_in law planned (ForRegion r) of_region).1

  pub inside : IsInside spot.base spot.size b.ram_base b.ram_size
  inside = subst (λ z. IsInside spot.base z b.ram_base b.ram_size) (sym size_is) (block_in law planned (ForRegion r) of_region).0

  some : 0 < open_bytes spot.size bytes
  some = subst (λ z. 0 < open_bytes z bytes) (sym size_is) (words_held bytes block_small).1

  off_stack : AreApart spot.base (open_bytes spot.size bytes) l.stack.base l.stack.size
  off_stack =
      let size = stack_size_is law planned in
      let least = stack_least law planned in
      apart_from spot.base (open_bytes spot.size bytes) l.stack.base l.stack.size some (omega (arith, size, least))
      (λ x a c d g. law.apart p f s b (ForRegion r) ForStack x (λ q. cc) (a, c) (d, g))

  off_monitor : AreApart spot.base (open_bytes spot.size bytes) l.monitor.base block_size
  off_monitor =
      let size = monitor_size_is law planned in
      apart_from spot.base (open_bytes spot.size bytes) l.monitor.base block_size some (lit< tt)
      (λ x a c d g. law.apart p f s b (ForRegion r) ForMonitor x (λ q. cc) (a, c) (d, omega (arith, size, g)))

  pub holds_data : HoldsData (planned_image w n f b) (planned_tables w n f b) spot.base spot.size bytes
  unfolding linked tables_of
  holds_data a m lo hi top =
      let i = inside in
      let from = i.0 in
      let to = i.1 in
      data_yes (planned_image w n f b) (planned_tables w n f b) a m (omega (arith, from, lo), omega (arith, to, top))
      (part_apart spot.base (open_bytes spot.size bytes) a m l.stack.base l.stack.size lo hi off_stack)
      (part_apart spot.base (open_bytes spot.size bytes) a m l.monitor.base block_size lo hi off_monitor)
