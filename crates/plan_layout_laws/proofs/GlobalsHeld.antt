-- Each byte of a global stands at an address that its block holds.
use Rattle.std.proofs.Common.{◌≡◌, ℕ, ◌+◌, ◌*◌, ◌/◌, ◌^◌, ◌<◌, ◌≤◌, Bool, true, false, ◌&&◌, cond, List, Option, Some, None, nat_lt, refl, sym, subst, leb-true, arith}
use Rattle.std.proofs.lemmas.Bool.{and_parts}
use Rattle.ir_model.specs.Resolved.{Program}
use Rattle.plan_model.specs.declared.graph.DataRegion.{DataRegion}
use Rattle.plan_model.specs.declared.graph.Final.{Final}
use Rattle.plan_model.specs.declared.plan.Board.{Board}
use Rattle.plan_model.specs.declared.plan.Sizes.{Sizes}
use Rattle.plan_model.specs.declared.plan.Plan.{Plan}
use Rattle.plan_model.specs.Boards.{IsBoard}
use Rattle.plan_model.specs.Lists.{has}
use Rattle.plan_model.specs.Regions.{region_at, no_region, global_size}
use Rattle.plan_model.specs.Blocks.{block_size_for, has_eighths, open_eighths, region_bytes, offset_in_region}
use Rattle.plan_model.specs.RamBlocks.{RamUse, ForRegion, ForUnwritten}
use Rattle.plan_model.specs.Placement.{Fits, plan_of, region_with, global_address, address_in}
use Rattle.plan_model.proofs.Powers.{small_block}
use Rattle.plan_layout.proofs.Searches.{position_is}
use Rattle.plan_layout_laws.specs.GlobalLaws.{HasAlignments, GlobalsAreHeld}
use Rattle.plan_layout_laws.specs.RamLaws.{open_bytes, IsAmong, HoldsAddress}
use Rattle.plan_layout_laws.specs.RamPlaces.{block_for}
use Rattle.plan_layout_laws.proofs.Offsets.{some_global, laid}
use Rattle.plan_layout_laws.proofs.PowersOfTwo.{block_positive}
use Rattle.plan_layout_laws.proofs.RamInside.{ram_is_inside}
use Rattle.plan_layout_laws.proofs.RamThere.{ram_is_there}

-- the open eighths hold all bytes
open_enough : (size bytes : ℕ) → bytes ≤ size → bytes ≤ open_bytes size bytes
unfolding open_eighths
open_enough size bytes l = by (has_eighths size && nat_lt (open_eighths size bytes) 8) refl
  where
    by : (c : Bool) → (has_eighths size && nat_lt (open_eighths size bytes) 8) ≡ c → bytes ≤ cond c (size / 8 * open_eighths size bytes) size
    by true e =
        let large = leb-true 256 size (and_parts (has_eighths size) (nat_lt (open_eighths size bytes) 8) e).0 in
        let some : 0 < size / 8 = omega arith in
        omega arith
    by false e = l

module _ (p : Program) (f : Final) (s : Sizes) (b : Board) (ok : IsBoard b) (fits : Fits p f s b) (aligns : HasAlignments p) where
  abbrev plan : Plan
  plan = plan_of p f s b

  -- the block for n bytes holds them
  bytes_held : (u : RamUse) (n : ℕ) → (block_for plan u).size ≡ block_size_for n → n ≤ open_bytes (block_for plan u).size n
  bytes_held u n e =
      let some = block_positive n in
      let there : 0 < (block_for plan u).size = omega arith in
      let inside = (ram_is_inside p f s b u ok fits there).0.1 in
      let low = (ram_is_inside p f s b u ok fits there).0.0 in
      let most = ok.ram_size.most in
      let small : block_size_for n < 2 ^ 32 = omega arith in
      let holds = (small_block n small).1 in
      open_enough (block_for plan u).size n (omega arith)

  -- a byte of a global of a block
  byte_held : (u : RamUse) (globals : List ℕ) (x byte : ℕ) → (block_for plan u).size ≡ block_size_for (region_bytes p globals) → has globals x ≡ true → byte < global_size p x
      → IsAmong (block_for plan u) (open_bytes (block_for plan u).size (region_bytes p globals)) ((block_for plan u).base + offset_in_region p globals x + byte)
  byte_held u globals x byte e h l =
      let among = (laid p aligns globals).among x h in
      let room = bytes_held u (region_bytes p globals) e in
      (omega arith, omega arith)

  in_region : (x byte r : ℕ) → byte < global_size p x → region_with f x ≡ Some r → HoldsAddress p f plan (ForRegion r) (global_address p f plan x + byte)
  unfolding global_address
  in_region x byte r l e =
      let found = position_is (λ (q : DataRegion). has q.globals x) f.regions r no_region (sym e) in
      subst (λ (o : Option ℕ). HoldsAddress p f plan (ForRegion r) (address_in p f plan x o + byte)) (sym e)
      (byte_held (ForRegion r) (region_at f.regions r).globals x byte (ram_is_there p f s b (ForRegion r) found.0) found.1 l)

  in_none : (x byte : ℕ) → byte < global_size p x → region_with f x ≡ None → has f.unwritten x ≡ true → HoldsAddress p f plan ForUnwritten (global_address p f plan x + byte)
  unfolding global_address
  in_none x byte l e h =
      subst (λ (o : Option ℕ). HoldsAddress p f plan ForUnwritten (address_in p f plan x o + byte)) (sym e)
      (byte_held ForUnwritten f.unwritten x byte (ram_is_there p f s b ForUnwritten (some_global f.unwritten x h)) h l)

pub globals_are_held : GlobalsAreHeld
globals_are_held p f s b ok fits aligns x byte l = (λ r e. in_region p f s b ok fits aligns x byte r l e, λ e h. in_none p f s b ok fits aligns x byte l e h)
