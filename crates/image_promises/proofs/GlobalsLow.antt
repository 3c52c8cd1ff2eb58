-- Each global of a planned image lies below 2^32.
use Rattle.std.proofs.Common.{◌≡◌, ℕ, zero, suc, ◌+◌, ◌^◌, ◌<◌, ◌≤◌, List, [], ◌∷◌, length, get_or, Option, Some, None, refl, sym, ap, ◌∙◌, arith}
use Rattle.std.specs.Prelude.{unwrap_or}
use Rattle.ir_model.specs.Resolved.{Program}
use Rattle.ir_model.specs.Resolve.{resolve}
use Rattle.plan_model.specs.declared.graph.DataRegion.{DataRegion}
use Rattle.plan_model.specs.declared.plan.Plan.{Plan}
use Rattle.plan_model.specs.declared.plan.Spot.{Spot}
use Rattle.plan_model.specs.Lists.{has}
use Rattle.plan_model.specs.Regions.{global_size, no_region}
use Rattle.plan_model.specs.Blocks.{aligned, offsets_from, end_from, region_bytes, offset_in_region}
use Rattle.plan_model.specs.RamBlocks.{RamUse, ForRegion, ForUnwritten}
use Rattle.plan_model.specs.Placement.{no_spot, region_with, address_in, global_address}
use Rattle.plan_layout.proofs.Searches.{position_is}
use Rattle.plan_layout_laws.specs.GlobalLaws.{HasAlignments}
use Rattle.plan_layout_laws.specs.RamPlaces.{block_for}
use Rattle.plan_layout_laws.proofs.Offsets.{grows}
use Rattle.plan.specs.PlannedFirmwares.{plan, planned_sizes}
use Rattle.image_promises.proofs.PlannedPremises.{PlannedPremises}
use Rattle.image_promises.proofs.Facts.{PlanLaws}
use Rattle.plan_model.proofs.Powers.{small_block}
use Rattle.image_promises.proofs.Ranges.{globals_for, IsUse, block_in, small}
use Rattle.image_promises.proofs.Alignments.{has_alignments}
use Rattle.image_promises.proofs.NoUnwritten.{none_for_unwritten}

-- ---- offsets in a block

module _ (p : Program) (some : HasAlignments p) where
  offsets_below : (at : ℕ) (xs : List ℕ) (k : ℕ) → get_or (offsets_from p at xs) k 0 ≤ end_from p at xs
  offsets_below at [] k = omega arith
  offsets_below at (x ∷ xs) zero = let h = grows p some (aligned p x at + global_size p x) xs in omega (arith, h)
  offsets_below at (x ∷ xs) (suc k) = offsets_below (aligned p x at + global_size p x) xs k

  offset_below : (xs : List ℕ) (x : ℕ) → offset_in_region p xs x ≤ region_bytes p xs
  unfolding offset_in_region region_bytes
  offset_below xs x = offsets_below 0 xs _

none_at : (p : Program) (x : ℕ) → offset_in_region p [] x ≡ 0
unfolding offset_in_region
none_at p x = refl

-- ---- addresses

module _ (law : PlanLaws) (planned : PlannedPremises) where
  open planned use {firmware as w, needs as n, final as f, board as b, is_planned as ok}

  abbrev p : Program
  p = resolve w

  abbrev l : Plan
  l = plan w n f b

  in_block : (u : RamUse) (x : ℕ) → IsUse f u → (block_for l u).base + offset_in_region p (globals_for f u) x < 2 ^ 32
  in_block u x h =
      let end = (block_in law planned u h).0.1 in
      let room = (small_block (region_bytes p (globals_for f u)) (small law planned u h)).1 in
      let o = offset_below p (has_alignments w) (globals_for f u) x in
      let high = ok.board.ram_highest in
      let most = ok.board.ram_size.most in
      omega (arith, end, room, o, high, most)

  in_none : (xs : List ℕ) (x : ℕ) → f.unwritten ≡ xs → (unwrap_or l.unwritten no_spot).base + offset_in_region p f.unwritten x < 2 ^ 32
  in_none [] x e =
      let a : (unwrap_or l.unwritten no_spot).base ≡ 0 = ap (λ (o : Option Spot). (unwrap_or o no_spot).base) (none_for_unwritten p f (planned_sizes w n f b) b e) in
      let c : offset_in_region p f.unwritten x ≡ 0 = ap (λ ys. offset_in_region p ys x) e ∙ none_at p x in
      omega (arith, a, c)
  in_none (y ∷ ys) x e = let m : length f.unwritten ≡ length (y ∷ ys) = ap length e in in_block ForUnwritten x (record { of_globals = tt; there = omega (arith, m) })

  by_region : (x : ℕ) (o : Option ℕ) → region_with f x ≡ o → address_in p f l x o < 2 ^ 32
  by_region x (Some r) e = in_block (ForRegion r) x (record { of_globals = tt; there = (position_is (λ (z : DataRegion). has z.globals x) f.regions r no_region (sym e)).0 })
  by_region x None e = in_none f.unwritten x refl

  pub global_below : (x : ℕ) → global_address p f l x < 2 ^ 32
  unfolding global_address
  global_below x = by_region x (region_with f x) refl
