-- A plan has no block for globals of no data region where there are none.
use Rattle.std.proofs.Common.{◌≡◌, ℕ, zero, suc, ◌+◌, Bool, true, false, List, [], ◌∷◌, ◌++◌, length, map, cond, Option, Some, None, option_map, if◌then◌else◌, refl, sym, ap, subst}
use Rattle.std.specs.Prelude.{find}
use Rattle.std.specs.List.{fold, range_with_len}
use Rattle.ir_model.specs.Resolved.{Program}
use Rattle.plan_model.specs.declared.graph.Final.{Final}
use Rattle.plan_model.specs.declared.plan.Board.{Board}
use Rattle.plan_model.specs.declared.plan.Lowest.{Lowest}
use Rattle.plan_model.specs.declared.plan.Lowest.TheVariants.{Largest, Stack}
use Rattle.plan_model.specs.declared.plan.Sizes.{Sizes}
use Rattle.plan_model.specs.Lists.{placed, in_order}
use Rattle.plan_model.specs.RamBlocks.{RamUse, RamBlock, ForUnwritten, same_use, region_block, unwritten_block, other_blocks, ram_blocks, falling}
use Rattle.plan_model.specs.RamPlacement.{Ram, PlacedBlock, tail_for, with_block_by, with_block, empty_ram, stack_first, ram_by, ram_of}
use Rattle.plan_model.specs.Placement.{plan_of}

-- none of these is for them
abbrev is_unwritten : RamUse → Bool
is_unwritten u = same_use u ForUnwritten

abbrev Others : List RamBlock → Type 0
Others [] = Unit {0}
Others (b ∷ bs) = (is_unwritten b.use_of ≡ false) × Others bs

others-append : (bs cs : List RamBlock) → Others bs → Others cs → Others (bs ++ cs)
others-append [] cs h g = g
others-append (b ∷ bs) cs h g = (h.0, others-append bs cs h.1 g)

module _ (before : RamBlock → RamBlock → Bool) where
  by_order : (t : Bool) (b y : RamBlock) (ys zs : List RamBlock) → is_unwritten b.use_of ≡ false → is_unwritten y.use_of ≡ false → Others ys → Others zs → Others (if t then y ∷ zs else b ∷ y ∷ ys)
  by_order true b y ys zs e d h g = (d, g)
  by_order false b y ys zs e d h g = (e, (d, h))

  placed_others : (b : RamBlock) (bs : List RamBlock) → is_unwritten b.use_of ≡ false → Others bs → Others (placed before b bs)
  placed_others b [] e h = (e, tt)
  placed_others b (y ∷ ys) e h = by_order (before y b) b y ys (placed before b ys) e h.0 h.1 (placed_others b ys e h.1)

  ordered_others : (bs : List RamBlock) → Others bs → Others (in_order before bs)
  ordered_others [] h = tt
  ordered_others (b ∷ bs) h = placed_others b (in_order before bs) h.0 (ordered_others bs h.1)

module _ (p : Program) (f : Final) where
  regions_others : (lo n : ℕ) → Others (map (region_block p f.regions) (range_with_len lo n))
  regions_others lo zero = tt
  regions_others lo (suc n) = (refl, regions_others (lo + 1) n)

  behind_others : f.unwritten ≡ [] → Others (other_blocks p f)
  behind_others e = (refl, others-append _ (unwritten_block p f.unwritten) (regions_others 0 (length f.regions)) (subst (λ xs. Others (unwritten_block p xs)) (sym e) tt))

  blocks_others : (stack : ℕ) → f.unwritten ≡ [] → Others (ram_blocks p f stack)
  unfolding ram_blocks
  blocks_others stack e = (refl, behind_others e)

-- and none of what is placed
abbrev NonePlaced : List PlacedBlock → Type 0
NonePlaced bs = find (λ (b : PlacedBlock). is_unwritten b.use_of) bs ≡ None

by_found : (t : Bool) (b c : PlacedBlock) (o u : Option PlacedBlock) → cond t (Some b) o ≡ None → (o ≡ None → u ≡ None) → cond t (Some b) u ≡ None
by_found true b c o u h g = cc
by_found false b c o u h g = g h

one_placed : (bs : List PlacedBlock) (c : PlacedBlock) → is_unwritten c.use_of ≡ false → NonePlaced bs → NonePlaced (bs ++ c ∷ [])
one_placed [] c e h = ap (λ t. cond t (Some c) None) e
one_placed (b ∷ bs) c e h = by_found (is_unwritten b.use_of) b c (find (λ (x : PlacedBlock). is_unwritten x.use_of) bs) (find (λ (x : PlacedBlock). is_unwritten x.use_of) (bs ++ c ∷ [])) h (λ g. one_placed bs c e g)

with_one : (ram : ℕ) (m : Ram) (b : RamBlock) (o : Option ℕ) → is_unwritten b.use_of ≡ false → NonePlaced m.blocks → NonePlaced (with_block_by ram m b o).blocks
with_one ram m b None e h = one_placed m.blocks _ e h
with_one ram m b (Some k) e h = one_placed m.blocks _ e h

with_others : (ram : ℕ) (m : Ram) (bs : List RamBlock) → Others bs → NonePlaced m.blocks → NonePlaced (fold (with_block ram) m bs).blocks
unfolding with_block
with_others ram m [] h g = g
with_others ram m (b ∷ bs) h g = with_others ram (with_block_by ram m b (tail_for m.tails b)) bs h.1 (with_one ram m b (tail_for m.tails b) h.0 g)

none_by : (p : Program) (f : Final) (b : Board) (l : Lowest) → f.unwritten ≡ [] → NonePlaced (ram_by p f b l).blocks
none_by p f b Largest e = with_others b.ram_base empty_ram _ (ordered_others _ (ram_blocks p f b.stack) (blocks_others p f b.stack e)) refl
none_by p f b Stack e = with_others b.ram_base (stack_first b.ram_base b.stack (falling (other_blocks p f))) _ (ordered_others _ (other_blocks p f) (behind_others p f e)) refl

pub none_for_unwritten : (p : Program) (f : Final) (s : Sizes) (b : Board) → f.unwritten ≡ [] → (plan_of p f s b).unwritten ≡ None
unfolding plan_of ram_of
none_for_unwritten p f s b e = ap (option_map (λ (x : PlacedBlock). x.spot)) (none_by p f b b.lowest e)
