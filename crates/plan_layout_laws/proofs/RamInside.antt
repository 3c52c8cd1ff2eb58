-- In a plan the blocks of RAM lie in it, at multiples of their sizes.
use Rattle.std.proofs.Common.{◌≡◌, ℕ, ◌+◌, ◌<◌, ◌≤◌, List, [], ◌∷◌, length, nat_lt, refl, sym, ap, subst, ◌∙◌, arith}
use Rattle.std.proofs.lemmas.Bool.{cases_lt}
use mathlib.Core.Logic.{⊎_elim}
use Rattle.ir_model.specs.Resolved.{Program}
use Rattle.plan_model.specs.declared.graph.Final.{Final}
use Rattle.plan_model.specs.declared.plan.Board.{Board}
use Rattle.plan_model.specs.declared.plan.Lowest.{Lowest}
use Rattle.plan_model.specs.declared.plan.Lowest.TheVariants.{Largest, Stack}
use Rattle.plan_model.specs.declared.plan.Sizes.{Sizes}
use Rattle.plan_model.specs.declared.plan.Spot.{Spot}
use Rattle.plan_model.specs.Boards.{IsBoard}
use Rattle.plan_model.specs.Regions.{region_at}
use Rattle.plan_model.specs.Blocks.{region_bytes}
use Rattle.plan_model.specs.RamBlocks.{RamUse, ForStack, ForMonitor, ForRegion, ForUnwritten, RamBlock, other_blocks, ram_blocks, falling}
use Rattle.plan_model.specs.RamPlacement.{Ram, PlacedBlock, empty_ram, stack_first, ram_by, ram_of, ram_needed}
use Rattle.plan_model.specs.Placement.{plan_of, placed_for, region_spot}
use Rattle.plan_layout_laws.specs.FlashLaws.{IsIn, IsAligned}
use Rattle.plan_layout_laws.specs.RamPlaces.{block_for, RamIsInside}
use Rattle.base_laws.proofs.Multiples.{through, no_rest, from_no_rest}
use Rattle.plan_layout_laws.proofs.PowersOfTwo.{IsPower, quotient, block_is_power, mebibyte}
use Rattle.plan_layout_laws.proofs.Uses.{use_block, AreOwn, all_own, ordered_own, positive}
use Rattle.plan_layout_laws.proofs.Within.{Within, found_in, IsBlockIn, filled_within, empty_within, none_used, stack_within, gap_divides, falls_ordered}
use Rattle.base_laws.specs.Lists.{Each}
use Rattle.plan_layout_laws.proofs.RamApart.{falling_own, region_there, region_missing, falling_others}

thousand : IsPower 1024
thousand = record { exponent = 10; is = refl }

module _ (p : Program) (f : Final) (s : Sizes) (b : Board) (ok : IsBoard b) (room : ram_needed p f b ≤ b.ram_size) where
  abbrev ram : Ram
  ram = ram_of p f b

  abbrev blocks : List RamBlock
  blocks = falling (ram_blocks p f b.stack)

  own : AreOwn p f b.stack blocks
  own = ordered_own p f b.stack (λ (c d : RamBlock). nat_lt d.size c.size) (ram_blocks p f b.stack) (all_own p f b.stack)

  use_power : (u : RamUse) → IsPower (use_block p f b.stack u).size
  use_power ForStack = let k = ok.stack in record { exponent = k.0; is = k.3 }
  use_power ForMonitor = thousand
  use_power (ForRegion r) = block_is_power (region_bytes p (region_at f.regions r).globals)
  use_power ForUnwritten = block_is_power (region_bytes p f.unwritten)

  powers : (bs : List RamBlock) → AreOwn p f b.stack bs → Each (λ (c : RamBlock). IsPower c.size) bs
  powers [] h = tt
  powers (c ∷ cs) h = (subst (λ (d : RamBlock). IsPower d.size) (sym h.0) (use_power c.use_of), powers cs h.1)

  within_by : (l : Lowest) → Within b.ram_base (ram_by p f b l)
  within_by Largest = filled_within b.ram_base empty_ram blocks (empty_within b.ram_base) (falls_ordered (ram_blocks p f b.stack)) (powers blocks own) (positive p f b.stack blocks own) (none_used blocks)
  within_by Stack =
      let mine = falling_own p f s b in
      let sizes = powers (falling_others p f) mine in
      filled_within b.ram_base (stack_first b.ram_base b.stack (falling_others p f)) (falling_others p f) (stack_within b.ram_base b.stack (falling_others p f) (use_power ForStack)) (falls_ordered (other_blocks p f)) sizes (positive p f b.stack (falling_others p f) mine)
      (gap_divides b.stack (falling_others p f) (use_power ForStack) sizes)

  within : Within b.ram_base ram
  unfolding ram_of
  within = within_by b.lowest

  -- the spots of placed blocks are of their sizes; a power of two at most a MiB divides the base of RAM
  in_ram : (t : PlacedBlock) → IsBlockIn b.ram_base (b.ram_base + ram.used) t → IsIn t.spot b.ram_base b.ram_size × IsAligned t.spot
  in_ram t h =
      let low = h.from in
      let high = h.to in
      let most = ok.ram_size.most in
      let small : t.spot.size ≤ 0x100000 = omega arith in
      let d = quotient t.spot.size 0x100000 h.power mebibyte small in
      let base = through t.spot.size 0x100000 b.ram_base (record { times = d.0; is = d.1 }) (from_no_rest 0x100000 b.ram_base ok.ram_aligned) in
      ((low, omega arith), no_rest t.spot.size t.spot.base (h.aligned base))

  spot_in_ram : (u : RamUse) (t : Spot) → t ≡ placed_for ram u → 0 < t.size → IsIn t b.ram_base b.ram_size × IsAligned t
  spot_in_ram u t e some =
      ⊎_elim
      (λ n. let z : t.size ≡ 0 = ap (λ (q : Spot). q.size) (e ∙ n) in absurd (omega arith))
      (λ g. subst (λ (q : Spot). IsIn q b.ram_base b.ram_size × IsAligned q) (sym (e ∙ g.2)) (in_ram g.0 g.1))
      (found_in (IsBlockIn b.ram_base (b.ram_base + ram.used)) ram.blocks u within.blocks)

  abbrev count : ℕ
  count = length f.regions

  pub in_plan : (u : RamUse) → 0 < (block_for (plan_of p f s b) u).size → IsIn (block_for (plan_of p f s b) u) b.ram_base b.ram_size × IsAligned (block_for (plan_of p f s b) u)
  unfolding plan_of
  in_plan ForStack some = spot_in_ram ForStack (placed_for ram ForStack) refl some
  in_plan ForMonitor some = spot_in_ram ForMonitor (placed_for ram ForMonitor) refl some
  in_plan ForUnwritten some = spot_in_ram ForUnwritten (placed_for ram ForUnwritten) refl some
  in_plan (ForRegion r) some =
      ⊎_elim
      (λ l. spot_in_ram (ForRegion r) (region_spot (plan_of p f s b) r) (region_there p f s b r l) some)
      (λ l. let z : (region_spot (plan_of p f s b) r).size ≡ 0 = ap (λ (q : Spot). q.size) (region_missing p f s b r l) in absurd (omega arith))
      (cases_lt r count)

pub ram_is_inside : RamIsInside
ram_is_inside p f s b u ok fits some = in_plan p f s b ok fits.ram u some
