-- A plan has a block for each use of RAM.
use Rattle.std.proofs.Common.{◌≡◌, ℕ, zero, suc, ◌+◌, ◌<◌, ◌≤◌, ◌⊎◌, inl, inr, Bool, true, false, cond, List, [], ◌∷◌, ◌++◌, length, map, Some, option_map, nat_lt, refl, sym, ap, subst, ◌∙◌, eq-eqb, arith}
use Rattle.std.specs.Prelude.{find, unwrap_or}
use Rattle.std.specs.List.{range_with_len}
use Rattle.std.proofs.lemmas.Bool.{cases_lt}
use mathlib.Core.Logic.{⊎_elim}
use Rattle.ir_model.specs.Resolved.{Program}
use Rattle.plan_model.specs.declared.graph.Final.{Final}
use Rattle.plan_model.specs.declared.plan.Board.{Board}
use Rattle.plan_model.specs.declared.plan.Lowest.{Lowest}
use Rattle.plan_model.specs.declared.plan.Lowest.TheVariants.{Largest, Stack}
use Rattle.plan_model.specs.declared.plan.Sizes.{Sizes}
use Rattle.plan_model.specs.declared.plan.Spot.{Spot}
use Rattle.plan_model.specs.Lists.{numbers_below, placed, in_order}
use Rattle.plan_model.specs.RamBlocks.{RamUse, ForStack, ForMonitor, ForRegion, ForUnwritten, RamBlock, same_use, region_block, unwritten_block, other_blocks, ram_blocks}
use Rattle.plan_model.specs.RamPlacement.{PlacedBlock, ram_of}
use Rattle.plan_model.specs.Placement.{plan_of, placed_for, no_spot}
use Rattle.plan_layout_laws.specs.RamPlaces.{block_for, HasBlock, block_bytes, RamIsThere}
use Rattle.plan_layout_laws.proofs.Filling.{Entry, placed as placed_entry}
use Rattle.plan_layout_laws.proofs.Uses.{use_block, AreOwn, own_at, no_entry, IsFound, spot_in, same_is}
use Rattle.plan_layout_laws.proofs.RamApart.{order_by, own, whole, by_entries, region_there}

-- ---- a list of blocks has one for a use

abbrev Has : RamUse → List RamBlock → Type 0
Has u [] = ⊥
Has u (b ∷ bs) = (b.use_of ≡ u) ⊎ Has u bs

has_left : (u : RamUse) (bs cs : List RamBlock) → Has u bs → Has u (bs ++ cs)
has_left u [] cs h = absurd h
has_left u (b ∷ bs) cs (inl e) = inl e
has_left u (b ∷ bs) cs (inr h) = inr (has_left u bs cs h)

has_right : (u : RamUse) (bs cs : List RamBlock) → Has u cs → Has u (bs ++ cs)
has_right u [] cs h = h
has_right u (b ∷ bs) cs h = inr (has_right u bs cs h)

-- put in its place
has_placed : (u : RamUse) (before : RamBlock → RamBlock → Bool) (b : RamBlock) (bs : List RamBlock) → (b.use_of ≡ u) ⊎ Has u bs → Has u (placed before b bs)
has_placed u before b [] h = h
has_placed u before b (c ∷ cs) h = by (before c b) (has_placed u before b cs) h
  where
    by : (t : Bool) → ((b.use_of ≡ u) ⊎ Has u cs → Has u (placed before b cs)) → (b.use_of ≡ u) ⊎ ((c.use_of ≡ u) ⊎ Has u cs) → Has u (cond t (c ∷ placed before b cs) (b ∷ c ∷ cs))
    by true ih (inl e) = inr (ih (inl e))
    by true ih (inr (inl e)) = inl e
    by true ih (inr (inr k)) = inr (ih (inr k))
    by false ih k = k

has_ordered : (u : RamUse) (before : RamBlock → RamBlock → Bool) (bs : List RamBlock) → Has u bs → Has u (in_order before bs)
has_ordered u before [] h = h
has_ordered u before (b ∷ bs) (inl e) = has_placed u before b (in_order before bs) (inl e)
has_ordered u before (b ∷ bs) (inr h) = has_placed u before b (in_order before bs) (inr (has_ordered u before bs h))

-- ---- such a block is found

same_itself : (u : RamUse) → same_use u u ≡ true
same_itself ForStack = refl
same_itself ForMonitor = refl
same_itself (ForRegion r) = eq-eqb r r refl
same_itself ForUnwritten = refl

found_there : (es : List Entry) (u : RamUse) → Has u (map (λ (e : Entry). e.block) es) → IsFound es u (unwrap_or (spot_in (map placed_entry es) u) no_spot)
found_there [] u h = absurd h
found_there (e ∷ es) u h = by (same_use e.block.use_of u) refl (found_there es u) h
  where
    later : same_use e.block.use_of u ≡ false → (e.block.use_of ≡ u) ⊎ Has u (map (λ (d : Entry). d.block) es) → Has u (map (λ (d : Entry). d.block) es)
    later t (inl s) = let k : false ≡ true = sym t ∙ (ap (λ (v : RamUse). same_use v u) s ∙ same_itself u) in cc
    later t (inr k) = k

    by : (c : Bool) → same_use e.block.use_of u ≡ c → (Has u (map (λ (d : Entry). d.block) es) → IsFound es u (unwrap_or (spot_in (map placed_entry es) u) no_spot))
        → (e.block.use_of ≡ u) ⊎ Has u (map (λ (d : Entry). d.block) es)
        → IsFound (e ∷ es) u (unwrap_or (option_map (λ (b : PlacedBlock). b.spot) (cond c (Some (placed_entry e)) (find (λ (b : PlacedBlock). same_use b.use_of u) (map placed_entry es)))) no_spot)
    by true t ih k = record { number = 0; there = omega arith; use_is = same_is e.block.use_of u t; base_is = refl; size_is = refl }
    by false t ih k =
        let g = ih (later t k) in
        let l = g.there in
        record { number = suc g.number; there = omega arith; use_is = g.use_is; base_is = g.base_is; size_is = g.size_is }

-- ---- all uses

module _ (p : Program) (f : Final) (s : Sizes) (b : Board) where
  region_has : (a n r : ℕ) → a ≤ r → r < a + n → Has (ForRegion r) (map (region_block p f.regions) (range_with_len a n))
  region_has a zero r l h = absurd (omega arith)
  region_has a (suc n) r l h = ⊎_elim (λ lt. inr (region_has (a + 1) n r (omega arith) (omega arith))) (λ le. inl (ap (λ (k : ℕ). ForRegion k) (omega arith))) (cases_lt a r)

  unwritten_has : (xs : List ℕ) → 0 < length xs → Has ForUnwritten (unwritten_block p xs)
  unwritten_has [] l = absurd (omega arith)
  unwritten_has (x ∷ xs) l = inl refl

  has_block : (u : RamUse) → HasBlock f u → Has u (ram_blocks p f b.stack)
  unfolding ram_blocks
  has_block ForStack h = inl refl
  has_block ForMonitor h = inr (inl refl)
  has_block (ForRegion r) h = inr (inr (has_left (ForRegion r) (map (region_block p f.regions) (numbers_below (length f.regions))) (unwritten_block p f.unwritten) (region_has 0 (length f.regions) r (omega arith) (omega arith))))
  has_block ForUnwritten h = inr (inr (has_right ForUnwritten (map (region_block p f.regions) (numbers_below (length f.regions))) (unwritten_block p f.unwritten) (unwritten_has f.unwritten h)))

  -- in the order in which they are placed
  has_by : (l : Lowest) (u : RamUse) → HasBlock f u → Has u (order_by p f s b l)
  unfolding ram_blocks
  has_by Largest u h = has_ordered u (λ (c d : RamBlock). nat_lt d.size c.size) (ram_blocks p f b.stack) (has_block u h)
  has_by Stack u h = ⊎_elim (λ e. inl e) (λ k. inr (has_ordered u (λ (c d : RamBlock). nat_lt d.size c.size) (other_blocks p f) k)) (has_block u h)

  size_is : (u : RamUse) → (use_block p f b.stack u).size ≡ block_bytes p f b u
  size_is ForStack = refl
  size_is ForMonitor = refl
  size_is (ForRegion r) = refl
  size_is ForUnwritten = refl

  entry_size : (u : RamUse) → HasBlock f u → (placed_for (ram_of p f b) u).size ≡ block_bytes p f b u
  entry_size u h =
      let w = whole p f s b in
      let g = found_there w.entries u (subst (λ (cs : List RamBlock). Has u cs) (sym w.are) (has_by b.lowest u h)) in
      let o = own_at p f b.stack w.entries g.number no_entry (subst (λ (cs : List RamBlock). AreOwn p f b.stack cs) (sym w.are) (own p f s b)) g.there in
      ap (λ (t : Spot). t.size) (by_entries p f s b u)
      ∙ (g.size_is ∙ (ap (λ (c : RamBlock). c.size) o ∙ (ap (λ (v : RamUse). (use_block p f b.stack v).size) g.use_is ∙ size_is u)))

  pub in_plan : (u : RamUse) → HasBlock f u → (block_for (plan_of p f s b) u).size ≡ block_bytes p f b u
  unfolding plan_of
  in_plan ForStack h = entry_size ForStack h
  in_plan ForMonitor h = entry_size ForMonitor h
  in_plan ForUnwritten h = entry_size ForUnwritten h
  in_plan (ForRegion r) h = ap (λ (t : Spot). t.size) (region_there p f s b r h) ∙ entry_size (ForRegion r) h

pub ram_is_there : RamIsThere
ram_is_there p f s b u h = in_plan p f s b u h
