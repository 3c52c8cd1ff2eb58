-- The bytes of a data region's block stay while none of its writers acts.
use Rattle.std.proofs.Common.{◌≡◌, ℕ, ◌+◌, ◌<◌, ◌≤◌, true, length, ap, sym, ◌∙◌, subst, arith}
use Rattle.std.proofs.lemmas.Bool.{false≢true}
use mathlib.Core.Logic.{⊎_elim}
use Rattle.machine_devices.specs.declared.image.Image.{Image}
use Rattle.machine_model.specs.State.{State}
use Rattle.ir_model.specs.Resolve.{resolve}
use Rattle.plan_model.specs.declared.plan.Plan.{Plan}
use Rattle.plan_model.specs.Blocks.{region_bytes}
use Rattle.plan_model.specs.Lists.{has}
use Rattle.plan_model.specs.Placement.{region_spot}
use Rattle.plan_model.specs.Regions.{region_at}
use Rattle.plan_model.specs.RamBlocks.{ForStack, ForMonitor, ForRegion}
use Rattle.plan_layout_laws.specs.RamLaws.{HoldsAddress}
use Rattle.monitor_model.specs.declared.tables.Tables.{Tables}
use Rattle.monitor_model.specs.BlockWords.{current}
use Rattle.monitor_model.specs.Reach.{InBlock}
use Rattle.monitor_model.specs.Confined.{later}
use Rattle.image_model.specs.LinkedTables.{tables_of}
use Rattle.image_promises.specs.Planned.{planned_tables}
use Rattle.plan.specs.PlannedFirmwares.{plan, planned_sizes}
use Rattle.image_promises.proofs.PlannedPremises.{PlannedPremises}
use Rattle.image_promises.proofs.Facts.{PlanLaws, monitor_size_is}
use Rattle.image_promises.proofs.Ranges.{IsUse, block_in, block_size_is, number_of}
use Rattle.image_promises.proofs.GlobalPlaces.{same_or_other}
use Rattle.image_promises.proofs.OneSlot.{open_within}
use Rattle.monitor_runs.specs.Acts.{OnStack, IsWritable}
use Rattle.monitor_runs.specs.Stays.{KeepsMemory}
use Rattle.image_runs.specs.Own.{SlotsAreOwn}
use Rattle.image_runs.specs.Isolated.{RegionsStay}

module _ (law : PlanLaws) (planned : PlannedPremises) (own : SlotsAreOwn planned.firmware planned.needs planned.final planned.board) where
  open planned use {firmware as w, needs as n, final as f, board as b, is_planned as ok}

  abbrev t : Tables
  t = planned_tables w n f b

  abbrev l : Plan
  l = plan w n f b

  module _ (r a : ℕ) (lt : r < length f.regions) (held : HoldsAddress (resolve w) f l (ForRegion r) a) where
    of_region : IsUse f (ForRegion r)
    of_region = record { of_globals = tt; there = lt }

    in_ram : (b.ram_base ≤ a) × (a < b.ram_base + b.ram_size)
    in_ram =
        let z = (block_in law planned (ForRegion r) of_region).0 in
        let size = block_size_is law planned (ForRegion r) of_region in
        let within = open_within (region_spot l r).size (region_bytes (resolve w) (region_at f.regions r).globals) in
        let x = z.0 in
        let y = z.1 in
        let lo = held.0 in
        let hi = held.1 in
        (omega (arith, x, lo), omega (arith, y, hi, within, size))

    off : OnStack t a → ⊥
    unfolding tables_of
    off on = law.apart (resolve w) f (planned_sizes w n f b) b (ForRegion r) ForStack a (λ e. cc) held (on.0, on.1)

    off_block : InBlock t a → ⊥
    unfolding tables_of
    off_block o = law.apart (resolve w) f (planned_sizes w n f b) b (ForRegion r) ForMonitor a (λ e. cc) held (o.0, let z = monitor_size_is law planned in let hi = o.1 in omega (arith, z, hi))

    low : a < 0x40000000
    low = let x = in_ram.1 in let y = ok.board.ram_highest in let z = ok.board.ram_size.most in omega (arith, x, y, z)

    -- who may write it is a writer of the region
    writer : (c : ℕ) → IsWritable t c a → has (region_at f.regions r).writers c ≡ true
    writer c h =
        let z = own.stores c a h low in
        ⊎_elim (λ (e : ForRegion z.region ≡ ForRegion r). let same : z.region ≡ r = ap number_of e in subst (λ (k : ℕ). has (region_at f.regions k).writers c ≡ true) same z.mine)
        (λ d. absurd (law.apart (resolve w) f (planned_sizes w n f b) b (ForRegion z.region) (ForRegion r) a d z.held held))
        (same_or_other (ForRegion z.region) (ForRegion r) tt tt)

  -- ---- a run of an image with the board's RAM

  module _ (i : Image) (base : i.ram_base ≡ b.ram_base) (first : State) (keeps : KeepsMemory i t first) where
    pub regions_stay : RegionsStay w n f b i t first
    regions_stay r a from to lt held x u le none =
        keeps.data_stays from to a x u le
        (record { from_base = let lo = (in_ram r a lt held).0 in omega (arith, lo, base); off_block = off_block r a lt held }) (off r a lt held)
        (λ k lo hi acts h. false≢true (sym (none k lo hi acts) ∙ writer r a lt held (current i t (later i t first k).ram) h))
